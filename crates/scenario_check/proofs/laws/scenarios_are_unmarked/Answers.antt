use Rattle.scenario_check.proofs.EmissionLemmas.{scenario_is_unmarked}
use Rattle.scenario_check.proofs.laws.scenarios_are_unmarked.Goals as goal

pub returns : goal.returns
returns c = scenario_is_unmarked
