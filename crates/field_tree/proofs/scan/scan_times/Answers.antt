use Rattle.std.proofs.Common.{ℕ, ◌-◌, ◌∷◌, sym, ap, ◌∙◌}
use Rattle.field_tree.specs.declared.mode.Mode.TheVariants.{Quoted, Star, Times}
use Rattle.field_tree.specs.Scanning.{reading_with}
use Rattle.field_tree.proofs.ScanLemmas.{over_front, first_of_times, times_takes, at_star}
use Rattle.field_tree.proofs.scan.scan_times.Goals as goal

pub returns-in-Some : goal.returns-in-Some
returns-in-Some c nodes depth text =
    let field = c.args.field in
    let star = c.in-Some-eq42-default in
    let to = reading_with nodes depth text (Times field c.take_digits-digits.result.value) in
    over_front 42 (reading_with nodes depth text (Quoted field)) (reading_with nodes depth text (Star field)) to c.args.bytes.now star.rest.now
    c.take_digits-digits.result.behind.now (star.ensures ∙ ap (λ (b : ℕ). b ∷ star.rest.now) star.field-0-0-test) (at_star nodes depth field text)
    (over_front c.in-Some.first (reading_with nodes depth text (Star field)) (reading_with nodes depth text (Times field (c.in-Some.first - 48))) to star.rest.now
    c.in-Some.rest.now c.take_digits-digits.result.behind.now c.in-Some.ensures (first_of_times nodes depth field c.in-Some.first text (sym c.if-is_first_digit.ensures))
    (c.take_digits-digits.ensures.digits (λ n. reading_with nodes depth text (Times field n)) (times_takes nodes depth field text)))
