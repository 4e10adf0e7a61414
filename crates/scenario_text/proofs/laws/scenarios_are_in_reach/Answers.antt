use Rattle.scenario_text.proofs.ReachLemmas.{scenario_is_in_reach}
use Rattle.scenario_text.proofs.laws.scenarios_are_in_reach.Goals as goal

pub returns : goal.returns
returns c = scenario_is_in_reach
