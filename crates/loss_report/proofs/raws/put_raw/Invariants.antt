use Rattle.std.proofs.Common.{◌≡◌, ◌+◌, drop}
use Rattle.byte_io.specs.Bytes.{TakesUpTo}
use Rattle.loss_report.specs.Raws.{raw_line, raw_text}
use Rattle.loss_report.specs.Report.{lines_of}
use Rattle.loss_report.proofs.raws.put_raw.Given as goal

abbrev pub invariant-loop-raw : goal.invariant-loop-raw
invariant-loop-raw g l = record {
  taken : TakesUpTo (g.O.Sink.taken l.fn.out) (g.O.Sink.taken l.out) (raw_text l.raws)
      (lines_of (λ place raw. raw_line raw) (l.raw-index + 1) (drop l.raw-index l.raws));
  faults : g.O.Sink.faults l.out ≡ g.O.Sink.faults l.fn.out;
  may : g.O.Sink.may_write l.out;
}
