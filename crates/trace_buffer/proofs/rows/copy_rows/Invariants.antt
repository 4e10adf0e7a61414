use Rattle.std.proofs.Common.{◌≡◌, length, take}
use Rattle.trace_buffer.proofs.rows.copy_rows.Given as goal

abbrev pub invariant-loop-i : goal.invariant-loop-i
invariant-loop-i l = (length l.rows ≡ length l.others) × (take l.i l.rows ≡ take l.i l.others)
