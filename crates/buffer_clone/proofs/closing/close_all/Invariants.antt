use Rattle.buffer_clone.proofs.ClosingLemmas.{HasClosed}
use Rattle.buffer_clone.proofs.closing.close_all.Given as goal

abbrev pub invariant-loop-i : goal.invariant-loop-i
invariant-loop-i l = HasClosed l.fn.buffer l.buffer l.i
