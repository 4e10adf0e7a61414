use Rattle.std.proofs.Common.{◌≡◌, drop, map}
use Rattle.byte_io.specs.Bytes.{TakesUpTo}
use Rattle.loss_report.specs.Lines.{others_text}
use Rattle.loss_report.specs.Fields.{entry_of}
use Rattle.loss_report.proofs.fields.put_others.Given as goal

abbrev pub invariant-loop-field : goal.invariant-loop-field
invariant-loop-field g l = record {
  taken : TakesUpTo (g.O.Sink.taken l.fn.out) (g.O.Sink.taken l.out) (others_text (map entry_of l.others)) (others_text (map entry_of (drop l.field-index l.others)));
  faults : g.O.Sink.faults l.out ≡ g.O.Sink.faults l.fn.out;
  may : g.O.Sink.may_write l.out;
}
