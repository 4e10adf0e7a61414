use Rattle.std.proofs.Common.{ℕ, [], ◌∷◌, ap, ◌∙◌}
use Rattle.field_tree.specs.declared.mode.Mode.TheVariants.{Text, Quoted}
use Rattle.field_tree.specs.Scanning.{reading_with}
use Rattle.field_tree.proofs.ScanLemmas.{over_front, over_both, text_over, at_second_quote}
use Rattle.field_tree.proofs.scan.scan_text.Goals as goal

pub returns-in-Some-eq34-default : goal.returns-in-Some-eq34-default
returns-in-Some-eq34-default c nodes depth =
    let field = c.args.field in
    let quote = c.in-Some-eq34-default in
    let text = c.split_at.result.0.now in
    let back = c.split_at.result.1.now in
    let read = reading_with nodes depth text (Text field) in
    let to = reading_with nodes depth text c.scan_times-times.result.mode in
    over_both (reading_with nodes depth [] (Text field)) read to c.args.bytes.now back c.scan_times-times.result.behind.now
    (text_over c.args.bytes.now text back c.text_len.result nodes depth field c.split_at.ensures.front c.split_at.ensures.back c.text_len.ensures.text)
    (over_front 34 read (reading_with nodes depth text (Quoted field)) to back quote.rest.now c.scan_times-times.result.behind.now
    (quote.ensures ∙ ap (λ (b : ℕ). b ∷ quote.rest.now) quote.field-0-0-test) (at_second_quote nodes depth field text) (c.scan_times-times.ensures nodes depth text))

pub returns-in_default : goal.returns-in_default
returns-in_default c nodes depth =
    text_over c.args.bytes.now c.split_at.result.0.now c.split_at.result.1.now c.text_len.result nodes depth c.args.field
    c.split_at.ensures.front c.split_at.ensures.back c.text_len.ensures.text
