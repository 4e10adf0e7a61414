use Rattle.std.proofs.Common.{◌≡◌, ◌&&◌, IfSome, length}
use Rattle.std.specs.List.{list_any}
use Rattle.ring_bytes.specs.Value.{Stored, IsMetAt, meets_stored}
use Rattle.trace_model.specs.Buffers.{is_unread}
use Rattle.trace_buffer.specs.Records.{record_of}
use Rattle.trace_buffer.proofs.WalkLemmas.{left}
use Rattle.trace_buffer.proofs.room.meets_unread.Given as goal

abbrev pub invariant-loop-next : goal.invariant-loop-next
invariant-loop-next l = record {
  same : list_any (λ (s : Stored). meets_stored l.ring l.len s && is_unread l.rows (record_of s)) l.ring.live
      ≡ list_any (λ (s : Stored). meets_stored l.ring l.len s && is_unread l.rows (record_of s)) (left l.next l.ring.live);
  met : IfSome l.next (IsMetAt l.ring l.len);
}

abbrev pub decreases-loop-next : goal.decreases-loop-next
decreases-loop-next l = length (left l.next l.ring.live)
