use Rattle.std.proofs.Common.{ℕ, ◌-◌, [], ◌∷◌, refl, ap, ◌∙◌}
use Rattle.field_tree.specs.declared.mode.Mode.TheVariants.{Start, Field, Value}
use Rattle.field_tree.specs.Scanning.{reading_with}
use Rattle.field_tree.proofs.ScanLemmas.{over_front, over_both, first_of_field, field_takes, at_colon}
use Rattle.field_tree.proofs.scan.scan_field.Goals as goal

pub returns-in-Some-eq58-default : goal.returns-in-Some-eq58-default
returns-in-Some-eq58-default c opened nodes depth =
    let first = c.args.first in
    let number = reading_with nodes depth [] (Field c.take_digits-digits.result.value) in
    let colon = c.in-Some-eq58-default in
    let to = reading_with nodes depth c.scan_value.result.text.now c.scan_value.result.mode in
    let behind = c.take_digits-digits.result.behind.now in
    over_front first (reading_with nodes depth [] (Start opened)) (reading_with nodes depth [] (Field (first - 48))) to (first ∷ c.args.rest.now) c.args.rest.now
    c.scan_value.result.behind.now refl (first_of_field nodes depth opened first c.requires)
    (over_both (reading_with nodes depth [] (Field (first - 48))) number to c.args.rest.now behind c.scan_value.result.behind.now
    (c.take_digits-digits.ensures.digits (λ n. reading_with nodes depth [] (Field n)) (field_takes nodes depth))
    (over_front 58 number (reading_with nodes depth [] (Value c.take_digits-digits.result.value)) to behind colon.behind.now c.scan_value.result.behind.now
    (colon.ensures ∙ ap (λ (b : ℕ). b ∷ colon.behind.now) colon.field-0-0-test) (at_colon nodes depth c.take_digits-digits.result.value)
    (c.scan_value.ensures nodes depth)))

pub returns-in_default : goal.returns-in_default
returns-in_default c opened nodes depth =
    let first = c.args.first in
    over_front first (reading_with nodes depth [] (Start opened)) (reading_with nodes depth [] (Field (first - 48)))
    (reading_with nodes depth [] (Field c.take_digits-digits.result.value)) (first ∷ c.args.rest.now) c.args.rest.now c.take_digits-digits.result.behind.now refl
    (first_of_field nodes depth opened first c.requires)
    (c.take_digits-digits.ensures.digits (λ n. reading_with nodes depth [] (Field n)) (field_takes nodes depth))
