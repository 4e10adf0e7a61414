use Rattle.buffer_clone.proofs.ClosingLemmas.{HasReset}
use Rattle.buffer_clone.proofs.closing.reset_all.Given as goal

abbrev pub invariant-loop-i : goal.invariant-loop-i
invariant-loop-i l = HasReset l.fn.buffer l.buffer l.i
