use Rattle.trace_model.proofs.RowPlaceLemmas.{rows_rise}
use Rattle.trace_model.proofs.laws.rows_rise.Goals as goal

pub returns : goal.returns
returns c = rows_rise
