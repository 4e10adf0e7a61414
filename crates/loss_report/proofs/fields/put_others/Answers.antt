use Rattle.std.proofs.Common.{◌∙◌, ap, subst, ℕ, [], List, arith, rules}
use Rattle.byte_io.specs.Bytes.{after_told, TakesPart}
use Rattle.loss_report.specs.declared.fields.Field.{Field}
use Rattle.loss_report.proofs.Writing.{others_more, others_fault}
use Rattle.loss_report.proofs.fields.put_others.Goals as goal

none : Field
none = record { name = record { ref_ptr = (0, 0); now = [] }; value = 0 }

pub returns-in_err-put_all-clause-part : goal.returns-in_err-put_all-clause-part
unfolding none
returns-in_err-put_all-clause-part g c =
    let taken = g.O.Sink.taken in
    let piece = c.deref.ensures.0 ∙ c.field_bytes-bytes.ensures in
    let part = others_fault (taken c.args.out.now) (taken c.loop-field.out) (taken c.put_all.new.out) c.args.others.now c.loop-field.field-index none
    (omega arith) c.loop-field.invariant.taken
    (subst (λ (bytes : List ℕ). TakesPart (taken c.loop-field.out) (taken c.put_all.new.out) bytes) piece c.in_err-put_all.ensures.part) in
    search (rules, part)

pub loop-field-preserved : goal.loop-field-preserved
unfolding none
loop-field-preserved g c =
    let taken = g.O.Sink.taken in
    let piece = c.deref.ensures.0 ∙ c.field_bytes-bytes.ensures in
    record {
      taken = others_more (taken c.args.out.now) (taken c.loop-field.out) (taken c.put_all.new.out) c.args.others.now c.loop-field.field-index none
          (omega arith) c.loop-field.invariant.taken
          (c.in_ok-put_all.ensures.all ∙ ap (λ (bytes : List ℕ). after_told (taken c.loop-field.out) bytes) piece);
      faults = c.in_ok-put_all.ensures.count ∙ c.loop-field.invariant.faults;
      may = c.in_ok-put_all.ensures.goes_on;
    }
