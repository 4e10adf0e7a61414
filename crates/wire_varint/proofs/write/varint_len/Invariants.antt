use Rattle.wire_varint.proofs.Counting.{IsCountedUpTo}
use Rattle.wire_varint.proofs.write.varint_len.Given as goal

abbrev pub invariant-loop-rest : goal.invariant-loop-rest
invariant-loop-rest l = IsCountedUpTo l.value l.rest l.len

abbrev pub decreases-loop-rest : goal.decreases-loop-rest
decreases-loop-rest l = l.rest
