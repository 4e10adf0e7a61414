use Rattle.std.proofs.Common.{refl, arith, rules}
use Rattle.std.proofs.lemmas.Bool.{ne_eqb}
use Rattle.std.proofs.lemmas.Option.{slice_get_read}
use Rattle.scenario_text.specs.declared.line_list.KeptKind.TheVariants.{Packet}
use Rattle.scenario_text.proofs.OwnLineLemmas.{notes_none, notes_packet}
use Rattle.scenario_text.proofs.own_lines.note_packet.Goals as goal

pub returns-in_ok-push : goal.returns-in_ok-push
returns-in_ok-push c =
    notes_packet c.args.rows.now.items c.from-index.result c.args.writer c.args.bytes c.args.len c.index_mut.result.now _ (search rules)
    (slice_get_read c.args.rows.now.items _ c.from-index.result c.index_mut.result.now refl (search rules) c.index_mut.ensures.value)
    refl c.in_ok-push.ensures.items

pub returns-else-index-len : goal.returns-else-index-len
returns-else-index-len c =
    notes_none (Packet c.args.writer c.args.len) c.args.bytes c.args.rows.now.items
    (λ number inside. ne_eqb number c.args.writer (λ e. omega (arith, inside, e, c.if-index-len.false, c.from-index.ensures, c.len.ensures)))
