use Rattle.scenario_text.proofs.ShortLemmas.{scenario_is_short}
use Rattle.scenario_text.proofs.laws.scenarios_are_short.Goals as goal

pub returns : goal.returns
returns c = scenario_is_short
