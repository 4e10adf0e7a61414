use Rattle.std.proofs.Common.{IfSome, length}
use Rattle.ring_bytes.specs.Walked.{IsAlone}
use Rattle.trace_buffer.proofs.ClosingLemmas.{IsMarked}
use Rattle.trace_buffer.proofs.WalkLemmas.{left}
use Rattle.trace_buffer.proofs.closing.mark_parts.Given as goal

abbrev pub invariant-loop-next : goal.invariant-loop-next
invariant-loop-next l = record {
  marked : IsMarked l.fn.row l.ring.live l.row (left l.next l.ring.live);
  alone : IfSome l.next (IsAlone l.ring);
}

abbrev pub decreases-loop-next : goal.decreases-loop-next
decreases-loop-next l = length (left l.next l.ring.live)
