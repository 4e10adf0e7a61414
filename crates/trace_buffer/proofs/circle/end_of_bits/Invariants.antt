use Rattle.std.proofs.Common.{◌-◌}
use Rattle.trace_buffer.proofs.EndLemmas.{AreClear}
use Rattle.trace_buffer.proofs.circle.end_of_bits.Given as goal

abbrev pub invariant-loop-end : goal.invariant-loop-end
invariant-loop-end l = AreClear l.ahead l.finals l.base l.end

abbrev pub decreases-loop-end : goal.decreases-loop-end
decreases-loop-end l = l.end - l.base
