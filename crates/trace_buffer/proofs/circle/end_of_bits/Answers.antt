use Rattle.std.proofs.Common.{◌+◌, false, ap, sym, ◌∙◌, get_or}
use Rattle.trace_buffer.proofs.EndLemmas.{none_yet, one_less, ends_ahead, ends_final, ends_base}
use Rattle.trace_buffer.proofs.circle.end_of_bits.Goals as goal

pub loop-end-init : goal.loop-end-init
loop-end-init c = none_yet c.args.ahead.now c.args.finals.now c.args.base _ (ap (λ n. c.args.base + n) c.from.ensures)

pub returns-then-ahead-place-clause-is : goal.returns-then-ahead-place-clause-is
returns-then-ahead-place-clause-is c =
    ends_ahead c.args.ahead.now c.args.finals.now c.args.base c.loop-end.end c.loop-end.invariant c.loop-end-test.true
    (ap (λ k. get_or c.args.ahead.now k false) (sym c.place_of-place.ensures.is) ∙ c.if-ahead-place.true)

pub returns-then-finals-place-clause-is : goal.returns-then-finals-place-clause-is
returns-then-finals-place-clause-is c =
    ends_final c.args.ahead.now c.args.finals.now c.args.base c.loop-end.end c.loop-end.invariant c.loop-end-test.true
    (ap (λ k. get_or c.args.finals.now k false) (sym c.place_of-place.ensures.is) ∙ c.if-finals-place.true)

pub loop-end-preserved : goal.loop-end-preserved
loop-end-preserved c =
    one_less c.args.ahead.now c.args.finals.now c.args.base c.loop-end.end c.loop-end.invariant c.loop-end-test.true
    (ap (λ k. get_or c.args.ahead.now k false) (sym c.place_of-place.ensures.is) ∙ c.if-ahead-place.false)
    (ap (λ k. get_or c.args.finals.now k false) (sym c.place_of-place.ensures.is) ∙ c.if-finals-place.false)

pub returns-clause-is : goal.returns-clause-is
returns-clause-is c = ends_base c.args.ahead.now c.args.finals.now c.args.base c.loop-end.end c.loop-end.invariant c.loop-end-test.false
