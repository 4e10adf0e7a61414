use Rattle.std.proofs.Common.{◌≡◌, ◌-◌, ◌^◌}
use Rattle.sequence_reader.specs.Spots.{reach_of}
use Rattle.sequence_reader.proofs.PutLemmas.{IsPuttingAt}
use Rattle.sequence_reader.proofs.deliver.put_pieces.Given as goal

abbrev pub invariant-loop-next : goal.invariant-loop-next
invariant-loop-next g l = record {
  putting : IsPuttingAt l.buffer l.bounds l.fn.spot l.piece (g.O.Sink.taken l.fn.out) (g.O.Sink.taken l.out) l.writer.left;
  writer : l.writer ≡ record l.fn.writer { left = l.writer.left };
  faults : g.O.Sink.faults l.out ≡ g.O.Sink.faults l.fn.out;
  may : g.O.Sink.may_write l.out;
}

abbrev pub decreases-loop-next : goal.decreases-loop-next
decreases-loop-next g l = 2 ^ 59 - reach_of l.piece.behind
