use Rattle.scenario_text.proofs.AcceptedLemmas.{scenario_is_accepted}
use Rattle.scenario_text.proofs.laws.scenarios_are_accepted.Goals as goal

pub returns : goal.returns
returns c = scenario_is_accepted
