use Rattle.std.proofs.Common.{◌-◌}
use Rattle.ring_bytes.specs.Rows.{IsPast}
use Rattle.ring_bytes.proofs.walk.skip_dead.Given as goal

abbrev pub invariant-loop-at : goal.invariant-loop-at
invariant-loop-at l = IsPast l.bytes l.fn.at l.at l.end

abbrev pub decreases-loop-at : goal.decreases-loop-at
decreases-loop-at l = l.limit - l.at
