use Rattle.trace_model.proofs.LiveLemmas.{live_are_unmet}
use Rattle.trace_model.proofs.laws.live_are_unmet.Goals as goal

pub returns : goal.returns
returns c = live_are_unmet
