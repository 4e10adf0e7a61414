use Rattle.trace_model.proofs.ContinuedLemmas.{rows_continue}
use Rattle.trace_model.proofs.laws.rows_continue.Goals as goal

pub returns : goal.returns
returns c = rows_continue
