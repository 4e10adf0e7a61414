use Rattle.std.proofs.Common.{◌≡◌, ◌+◌, drop}
use Rattle.byte_io.specs.Bytes.{TakesUpTo}
use Rattle.loss_report.specs.Report.{sequence_line, lines_of}
use Rattle.loss_report.proofs.report.put_sequences.Given as goal

abbrev pub invariant-loop-i : goal.invariant-loop-i
invariant-loop-i g l = record {
  taken : TakesUpTo (g.O.Sink.taken l.fn.out) (g.O.Sink.taken l.out) (lines_of sequence_line 2 l.sequences) (lines_of sequence_line (l.i + 2) (drop l.i l.sequences));
  faults : g.O.Sink.faults l.out ≡ g.O.Sink.faults l.fn.out;
  may : g.O.Sink.may_write l.out;
}
