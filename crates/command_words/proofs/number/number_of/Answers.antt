use Rattle.std.proofs.Common.{◌≡◌, sym, ◌∙◌, ap, decimal}
use Rattle.std.proofs.lemmas.Bool.{true≢false}
use Rattle.std.proofs.lemmas.Fmt.{parse-decimal}
use Rattle.command_words.proofs.SpellLemmas.{same_text, ok_same}
use Rattle.command_words.proofs.number.number_of.Goals as goal

pub returns-in_default-clause-none : goal.returns-in_default-clause-none
returns-in_default-clause-none c = λ number small spelled.
    c.in_default.not-Ok number (parse-decimal 64 number c.args.text.now c.parse.result small small spelled c.parse.ensures.value.0)

pub returns-else-eq-clause-none : goal.returns-else-eq-clause-none
returns-else-eq-clause-none c = λ number small spelled.
    let read = parse-decimal 64 number c.args.text.now c.parse.result small small spelled c.parse.ensures.value.0 in
    let same : c.in-Ok.number ≡ number = ok_same c.in-Ok.number number c.parse.result c.in-Ok.is read in
    let text : c.format.result.now ≡ c.args.text.now = c.format.ensures.text ∙ ap decimal same ∙ sym spelled in
    true≢false (sym (c.eq.ensures ∙ same_text _ _ text) ∙ c.if-eq.false)
