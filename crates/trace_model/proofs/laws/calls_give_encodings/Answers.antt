use Rattle.trace_model.proofs.CallLemmas.{calls_give_encodings}
use Rattle.trace_model.proofs.laws.calls_give_encodings.Goals as goal

pub returns : goal.returns
returns c = calls_give_encodings
