use Rattle.wire_varint.proofs.Scanning.{IsReadUpTo}
use Rattle.wire_varint.proofs.read.get_long.Given as goal

abbrev pub invariant-loop-at : goal.invariant-loop-at
invariant-loop-at l = IsReadUpTo l.bytes l.at l.value l.scale
