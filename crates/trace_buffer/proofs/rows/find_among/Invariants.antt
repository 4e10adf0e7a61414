use Rattle.std.proofs.Common.{◌≡◌, ◌-◌, ◌≤◌, true, length, drop}
use Rattle.trace_model.specs.Sequences.{is_known}
use Rattle.trace_buffer.proofs.rows.find_among.Given as goal

abbrev pub invariant-loop-i : goal.invariant-loop-i
invariant-loop-i l = (l.i ≤ length l.fn.rows) × (is_known (drop l.i l.fn.rows) l.fn.number ≡ true)

abbrev pub decreases-loop-i : goal.decreases-loop-i
decreases-loop-i l = length l.fn.rows - l.i
