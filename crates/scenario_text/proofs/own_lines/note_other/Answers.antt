use Rattle.std.proofs.Common.{◌∙◌, refl, arith, rules}
use Rattle.std.proofs.lemmas.Bool.{ne_eqb}
use Rattle.std.proofs.lemmas.Option.{slice_get_read}
use Rattle.scenario_text.proofs.OwnLineLemmas.{notes_none, notes_other}
use Rattle.scenario_text.proofs.own_lines.note_other.Goals as goal

pub returns-in_default : goal.returns-in_default
returns-in_default c bytes = notes_none c.args.what bytes c.args.rows.now.items (λ number inside. c.in_default.ensures.none number)

pub returns-then-index-len : goal.returns-then-index-len
returns-then-index-len c bytes =
    notes_other c.args.rows.now.items c.args.what bytes c.from-index.result c.in-Some.writer c.index_mut.result.now _ (search rules)
    (slice_get_read c.args.rows.now.items _ c.from-index.result c.index_mut.result.now refl (search rules) c.index_mut.ensures.value)
    c.in-Some.ensures.some refl

pub returns-else-index-len : goal.returns-else-index-len
returns-else-index-len c bytes =
    notes_none c.args.what bytes c.args.rows.now.items
    (λ number inside. c.in-Some.ensures.some number
    ∙ ne_eqb number c.in-Some.writer (λ e. omega (arith, inside, e, c.if-index-len.false, c.from-index.ensures, c.len.ensures)))
