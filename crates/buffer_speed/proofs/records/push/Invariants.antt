use Rattle.std.proofs.Common.{◌≡◌, length}
use Rattle.buffer_speed.proofs.records.push.Given as goal

abbrev pub invariant-loop-place : goal.invariant-loop-place
invariant-loop-place l = l.ring.room ≡ l.fn.ring.room

abbrev pub decreases-loop-place : goal.decreases-loop-place
decreases-loop-place l = length l.ring.live
