-- The lines of the clones before this one were written.
use Rattle.std.proofs.Common.{◌≡◌, ◌+◌, drop}
use Rattle.byte_io.specs.Bytes.{TakesUpTo}
use Rattle.loss_report.specs.Report.{lines_of}
use Rattle.tracesmb_top.specs.Cloned.{clone_line, clones_text}
use Rattle.tracesmb_top.proofs.cloning.put_clones.Given as goal

abbrev pub invariant-loop-i : goal.invariant-loop-i
invariant-loop-i g l = record {
  taken : TakesUpTo (g.O.Sink.taken l.fn.out) (g.O.Sink.taken l.out) (clones_text l.clones) (lines_of clone_line (l.i + 1) (drop l.i l.clones));
  faults : g.O.Sink.faults l.out ≡ g.O.Sink.faults l.fn.out;
  may : g.O.Sink.may_write l.out;
}
