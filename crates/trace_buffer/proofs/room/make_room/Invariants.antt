use Rattle.std.proofs.Common.{◌≡◌, length}
use Rattle.trace_buffer.specs.Unfinished.{unfinished_of}
use Rattle.trace_buffer.proofs.UnderWay.{IsUnderWay}
use Rattle.trace_buffer.proofs.room.make_room.Given as goal

abbrev pub invariant-loop-place : goal.invariant-loop-place
invariant-loop-place l = record {
  way : IsUnderWay l.fn.ring l.fn.rows l.fn.overwritten l.len l.ring l.index l.rows l.lost;
  counted : l.unfinished ≡ unfinished_of l.rows l.ring.live;
}

abbrev pub decreases-loop-place : goal.decreases-loop-place
decreases-loop-place l = length l.ring.live
