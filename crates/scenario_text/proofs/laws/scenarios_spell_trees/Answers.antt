use Rattle.scenario_text.proofs.AcceptedLemmas.{scenario_spells_trees}
use Rattle.scenario_text.proofs.laws.scenarios_spell_trees.Goals as goal

pub returns : goal.returns
returns c = scenario_spells_trees
