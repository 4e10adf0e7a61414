use Rattle.wire_varint.proofs.Writing.{IsPutUpTo}
use Rattle.wire_varint.proofs.write.put_varint_at.Given as goal

abbrev pub invariant-loop-rest : goal.invariant-loop-rest
invariant-loop-rest l = IsPutUpTo l.initial.out l.out l.value l.rest l.at l.here

abbrev pub decreases-loop-rest : goal.decreases-loop-rest
decreases-loop-rest l = l.rest
