use Rattle.std.proofs.Common.{◌≡◌, ◌≤◌, length}
use Rattle.sequence_reader.specs.Ends.{row_met}
use Rattle.sequence_reader.specs.Turns.{IsAt, IsReadTo}
use Rattle.sequence_reader.proofs.read.read_counted.Given as goal

abbrev pub invariant-loop-buffer : goal.invariant-loop-buffer
invariant-loop-buffer g l = record {
  at : IsAt l.buffer l.bounds l.progress;
  sequence : l.bounds.sequence ≡ l.fn.sequence;
  most : l.progress.delivered ≤ l.fn.limit;
  read : IsReadTo l.fn.buffer l.buffer (g.O.Sink.taken l.fn.out) (g.O.Sink.taken l.out) l.bounds.sequence l.progress.delivered;
  faults : g.O.Sink.faults l.out ≡ g.O.Sink.faults l.fn.out;
  may : g.O.Sink.may_write l.out;
}

abbrev pub decreases-loop-buffer : goal.decreases-loop-buffer
decreases-loop-buffer g l = length (row_met l.buffer l.bounds.sequence)
