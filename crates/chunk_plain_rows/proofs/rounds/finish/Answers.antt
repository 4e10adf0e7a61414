use Rattle.std.proofs.Common.{◌≡◌, ℕ, ◌<◌, length, subst, sym, arith, rules}
use Rattle.std.proofs.lemmas.Grind.{common_steps}
use Rattle.chunk_plain.specs.declared.tokens.Held.{Held as HeldToken}
use Rattle.chunk_plain.specs.Payload.{byte_in}
use Rattle.chunk_plain.specs.Views.{Draft}
use Rattle.chunk_plain.specs.Drafts.{draft_at, published}
use Rattle.chunk_plain.proofs.Holding.{redrafts_holds, published_more}
use Rattle.chunk_plain_rows.proofs.rounds.finish.Goals as goal

pub publish-requires-clause-may : goal.publish-requires-clause-may
publish-requires-clause-may g c = record {
  held = c.requires.holding;
  size = c.requires.size;
  order = omega arith;
  inside = first_of (search rules, grind (arith, common_steps));
  kept = c.requires.sealed;
}

pub complete-requires-clause-held : goal.complete-requires-clause-held
complete-requires-clause-held g c =
    let old = g.W.Words.means.view c.args.table.now c.args.seat.now in let new = g.W.Words.means.view c.publish.new.self c.publish.new.seat in
    let bytes = c.publish.ensures.view in
    let draft : Draft = record (draft_at old c.args.held.position) { words = bytes.words } in
    redrafts_holds old new c.args.held c.publish.new.held draft bytes.view c.publish.ensures.held c.requires.holding

pub complete-requires-clause-published : goal.complete-requires-clause-published
complete-requires-clause-published g c =
    let old = g.W.Words.means.view c.args.table.now c.args.seat.now in let new = g.W.Words.means.view c.publish.new.self c.publish.new.seat in
    let copy = c.args.held.body.payload.items in
    let joined = c.args.held.body.payload.ok.0 in
    let size : c.len-size.result ≡ length copy = omega (arith, c.len-size.ensures) in
    subst (λ (held : HeldToken). (j : ℕ) → j < length held.body.payload.items → published new held.position j ≡ byte_in held.body.payload.items j) (sym c.publish.ensures.held)
    (λ j below. published_more old new c.args.held.chunk c.args.held.position 0 c.len-size.result copy c.requires.holding c.publish.ensures.view (omega arith) (omega arith) (λ i less. absurd (omega arith)) j (omega arith))
