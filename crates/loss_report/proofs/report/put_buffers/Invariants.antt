use Rattle.std.proofs.Common.{◌≡◌, ◌+◌, drop}
use Rattle.byte_io.specs.Bytes.{TakesUpTo}
use Rattle.loss_report.specs.Report.{buffer_line, lines_of}
use Rattle.loss_report.proofs.report.put_buffers.Given as goal

abbrev pub invariant-loop-i : goal.invariant-loop-i
invariant-loop-i g l = record {
  taken : TakesUpTo (g.O.Sink.taken l.fn.out) (g.O.Sink.taken l.out) (lines_of buffer_line 1 l.buffers) (lines_of buffer_line (l.i + 1) (drop l.i l.buffers));
  faults : g.O.Sink.faults l.out ≡ g.O.Sink.faults l.fn.out;
  may : g.O.Sink.may_write l.out;
}
