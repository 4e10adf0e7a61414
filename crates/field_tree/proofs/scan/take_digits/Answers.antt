use Rattle.std.proofs.Common.{sym, ◌∙◌}
use Rattle.field_tree.proofs.ScanLemmas.{stays_here, over_front, over_both, one_digit}
use Rattle.field_tree.proofs.scan.take_digits.Goals as goal

pub digits-init : goal.digits-init
digits-init c = ((λ to takes. stays_here (to c.args.start) c.args.bytes.now), c.requires)

pub digits-preserved : goal.digits-preserved
digits-preserved c =
    let more = c.in-Some-grown.more in
    let digit = c.in-Some.digit in (
      (λ to takes.
          over_both (to c.args.start) (to c.digits.value) (to more) c.args.bytes.now c.digits.rest.now c.in-Some.behind.now (c.digits.invariant.0 to takes)
          (over_front digit (to c.digits.value) (to more) (to more) c.digits.rest.now c.in-Some.behind.now c.in-Some.behind.now c.in-Some.ensures
          (one_digit c.args.most c.digits.value digit more to takes (sym c.grown.ensures.value ∙ c.in-Some-grown.is))
          (stays_here (to more) c.in-Some.behind.now))),
      c.in-Some-grown.ensures.within,
    )
