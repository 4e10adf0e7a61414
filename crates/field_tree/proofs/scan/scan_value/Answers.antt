use Rattle.std.proofs.Common.{ℕ, ◌-◌, [], ◌∷◌, sym, ap, ◌∙◌}
use Rattle.field_tree.specs.declared.mode.Mode.TheVariants.{Value, Digits, Text, Tick}
use Rattle.field_tree.specs.Scanning.{reading_with}
use Rattle.field_tree.proofs.ScanLemmas.{stays_here, over_front, first_of_value, value_takes, at_quote, at_x}
use Rattle.field_tree.proofs.scan.scan_value.Goals as goal

pub returns-in-Some-eq34-default : goal.returns-in-Some-eq34-default
returns-in-Some-eq34-default c nodes depth =
    let field = c.args.field in
    let quote = c.in-Some-eq34-default in
    over_front 34 (reading_with nodes depth [] (Value field)) (reading_with nodes depth [] (Text field)) (reading_with nodes depth c.scan_text.result.text.now c.scan_text.result.mode)
    c.args.bytes.now quote.rest.now c.scan_text.result.behind.now (quote.ensures ∙ ap (λ (b : ℕ). b ∷ quote.rest.now) quote.field-0-0-test)
    (at_quote nodes depth field) (c.scan_text.ensures nodes depth)

pub returns-in-Some-eq120-default : goal.returns-in-Some-eq120-default
returns-in-Some-eq120-default c nodes depth =
    let field = c.args.field in
    let x = c.in-Some-eq120-default in
    over_front 120 (reading_with nodes depth [] (Value field)) (reading_with nodes depth [] (Tick field)) (reading_with nodes depth c.scan_packed.result.text.now c.scan_packed.result.mode)
    c.args.bytes.now x.rest.now c.scan_packed.result.behind.now (x.ensures ∙ ap (λ (b : ℕ). b ∷ x.rest.now) x.field-0-0-test)
    (at_x nodes depth field) (c.scan_packed.ensures nodes depth)

pub returns-in-Some : goal.returns-in-Some
returns-in-Some c nodes depth =
    let field = c.args.field in
    let first = c.in-Some.first in
    over_front first (reading_with nodes depth [] (Value field)) (reading_with nodes depth [] (Digits field (first - 48)))
    (reading_with nodes depth [] (Digits field c.take_digits-digits.result.value)) c.args.bytes.now c.in-Some.rest.now c.take_digits-digits.result.behind.now
    c.in-Some.ensures (first_of_value nodes depth field first (sym c.if-is_first_digit.ensures))
    (c.take_digits-digits.ensures.digits (λ n. reading_with nodes depth [] (Digits field n)) (value_takes nodes depth field))

pub returns-in_default : goal.returns-in_default
returns-in_default c nodes depth = stays_here (reading_with nodes depth [] (Value c.args.field)) c.args.bytes.now
