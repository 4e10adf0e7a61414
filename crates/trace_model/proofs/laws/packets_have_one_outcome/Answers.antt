use Rattle.trace_model.proofs.OneOutcomeLemmas.{packets_have_one_outcome}
use Rattle.trace_model.proofs.laws.packets_have_one_outcome.Goals as goal

pub returns : goal.returns
returns c = packets_have_one_outcome
