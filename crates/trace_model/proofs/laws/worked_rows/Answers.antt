use Rattle.trace_model.proofs.WorkedLemmas.{worked_rows}
use Rattle.trace_model.proofs.laws.worked_rows.Goals as goal

pub returns : goal.returns
returns c = worked_rows
