use Rattle.scenario_text.proofs.SpelledLemmas.{lines_spell_trees}
use Rattle.scenario_text.proofs.laws.lines_spell_trees.Goals as goal

pub returns : goal.returns
returns c = lines_spell_trees
