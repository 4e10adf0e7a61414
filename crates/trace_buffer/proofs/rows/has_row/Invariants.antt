use Rattle.std.proofs.Common.{◌≡◌, drop}
use Rattle.trace_model.specs.Sequences.{is_known}
use Rattle.trace_buffer.proofs.rows.has_row.Given as goal

abbrev pub invariant-loop-row : goal.invariant-loop-row
invariant-loop-row l = is_known (drop l.row-index l.rows) l.number ≡ is_known l.rows l.number
