use Rattle.std.proofs.Common.{◌≡◌, ℕ, ◌<◌, ◌∙◌, length, subst, sym, refl, ap, arith, rules}
use Rattle.std.proofs.lemmas.Grind.{common_steps}
use Rattle.chunk_plain.specs.declared.tokens.Held.{Held as HeldToken}
use Rattle.chunk_plain.specs.Payload.{byte_in}
use Rattle.chunk_plain.specs.Views.{Draft, WriterView}
use Rattle.chunk_plain.specs.Drafts.{draft_at, published}
use Rattle.chunk_plain.specs.Words.{HasClaimed, completed_content}
use Rattle.chunk_plain.proofs.Holding.{claims_has, begins_holds, redrafts_holds, published_more}
use Rattle.chunk_plain.specs.Setup.{Setup, from_of}
use Rattle.chunk_plain.proofs.SeatSteps.{steps_follow}
use Rattle.chunk_words_rows.proofs.Begun.{round_any, round_held}
use Rattle.chunk_words_rows.proofs.threads.fill.Goals as goal
use Rattle.trace_base.specs.Ids.{id_of}

pub begin-held-requires-clause-may : goal.begin-held-requires-clause-may
begin-held-requires-clause-may g c = record {
  claimed = let view = g.W.Words.means.view in let won = c.in-Some.ensures.won in
      subst (λ k. HasClaimed (view c.claim_try.new.self c.claim_try.new.seat) k) (sym c.in-Some.ensures.chunk)
      (claims_has (view c.args.table.now c.args.seat.now) (view c.claim_try.new.self c.claim_try.new.seat) c.args.chunk won.found won.view);
  id_is = let view = g.W.Words.means.view in
      let step = c.in-Some.ensures.step in
      let count : ℕ = length (view c.claim_try.new.self c.claim_try.new.seat).begun in
      let from_is : from_of (g.W.Words.means.setup c.claim_try.new.self) (g.W.Words.means.place c.claim_try.new.seat) ≡ c.args.from =
      ap (λ (s : Setup). from_of s (g.W.Words.means.place c.claim_try.new.seat)) step.setup_stays ∙ ap (from_of (g.W.Words.means.setup c.args.table.now)) step.place_stays ∙ c.requires.from in
      c.id_of-id.ensures ∙ ap (id_of c.args.from) (c.requires.next ∙ sym (ap (λ (v : WriterView). length v.begun) c.in-Some.ensures.won.view))
      ∙ ap (λ (f : ℕ). id_of f count) (sym from_is);
  few_begun = first_of (search rules, grind (arith, common_steps));
}

pub publish-requires-clause-may : goal.publish-requires-clause-may
publish-requires-clause-may g c = record {
  held = let view = g.W.Words.means.view in let won = c.in-Some.ensures.won in let held = c.begin-held.result in
      begins_holds (g.W.Words.means.setup c.claim_try.new.self) (view c.claim_try.new.self c.claim_try.new.seat) (view c.begin-held.new.self c.begin-held.new.seat) c.in-Some.claimed.chunk (length (view c.claim_try.new.self c.claim_try.new.seat).begun) held.chunk held.position
      c.begin-held.ensures.view refl c.begin-held.ensures.held.chunk_is c.begin-held.ensures.held.position_is;
  size = first_of (search rules, grind (arith, common_steps));
  order = first_of (search rules, grind (arith, common_steps));
  inside = first_of (search rules, grind (arith, common_steps));
  kept = first_of (search rules, grind (arith, common_steps));
}

pub complete-requires-clause-held : goal.complete-requires-clause-held
complete-requires-clause-held g c =
    let view = g.W.Words.means.view in let won = c.in-Some.ensures.won in let held = c.begin-held.result in
    let old = view c.begin-held.new.self c.begin-held.new.seat in let new = view c.publish.new.self c.publish.new.seat in
    let holding = begins_holds (g.W.Words.means.setup c.claim_try.new.self) (view c.claim_try.new.self c.claim_try.new.seat) old c.in-Some.claimed.chunk (length (view c.claim_try.new.self c.claim_try.new.seat).begun) held.chunk held.position
    c.begin-held.ensures.view refl c.begin-held.ensures.held.chunk_is c.begin-held.ensures.held.position_is in
    let bytes = c.publish.ensures.view in
    let draft : Draft = record (draft_at old held.position) { words = bytes.words } in
    redrafts_holds old new held c.publish.new.held draft bytes.view c.publish.ensures.held holding

pub complete-requires-clause-published : goal.complete-requires-clause-published
complete-requires-clause-published g c =
    let view = g.W.Words.means.view in let won = c.in-Some.ensures.won in let held = c.begin-held.result in
    let old = view c.begin-held.new.self c.begin-held.new.seat in let new = view c.publish.new.self c.publish.new.seat in
    let holding = begins_holds (g.W.Words.means.setup c.claim_try.new.self) (view c.claim_try.new.self c.claim_try.new.seat) old c.in-Some.claimed.chunk (length (view c.claim_try.new.self c.claim_try.new.seat).begun) held.chunk held.position
    c.begin-held.ensures.view refl c.begin-held.ensures.held.chunk_is c.begin-held.ensures.held.position_is in
    let bytes = c.publish.ensures.view in
    let copy = held.body.payload.items in
    let joined = held.body.payload.ok.0 in
    let size : c.len-size.result ≡ length copy = omega (arith, c.len-size.ensures) in
    subst (λ (h : HeldToken). (j : ℕ) → j < length h.body.payload.items → published new h.position j ≡ byte_in h.body.payload.items j) (sym c.publish.ensures.held)
    (λ j below. published_more old new held.chunk held.position 0 c.len-size.result copy holding bytes (omega arith) (omega arith) (λ i less. absurd (omega arith)) j (omega arith))

pub returns-clause-none_held : goal.returns-clause-none_held
returns-clause-none_held g c =
    let view = g.W.Words.means.view in let won = c.in-Some.ensures.won in let held = c.begin-held.result in
    let old = view c.args.table.now c.args.seat.now in let began = view c.begin-held.new.self c.begin-held.new.seat in let shown = view c.publish.new.self c.publish.new.seat in
    let last = view c.complete.new.self c.complete.new.seat in
    let token = c.publish.new.held in
    let content = completed_content (g.W.Words.means.setup c.publish.new.self) (g.W.Words.means.place c.publish.new.seat) shown token in
    let words = c.publish.ensures.view.words in
    let draft : Draft = record (draft_at began held.position) { words = words } in
    let chunk_is = ap (λ (h : HeldToken). h.chunk) c.publish.ensures.held ∙ c.begin-held.ensures.held.chunk_is in
    let held_is = c.begin-held.ensures.held.position_is ∙ ap (λ (v : WriterView). length v.begun) won.view ∙ sym c.requires.next in
    let token_is = ap (λ (h : HeldToken). h.position) c.publish.ensures.held ∙ held_is in
    let is = round_any old (view c.claim_try.new.self c.claim_try.new.seat) began shown last c.in-Some.claimed.chunk c.args.next held.chunk held.position token.chunk token.position c.begin-held.ensures.view.words draft content
    (ap (λ (v : WriterView). v.begun) won.view) c.requires.next c.begin-held.ensures.held.chunk_is held_is chunk_is token_is
    c.begin-held.ensures.view.view c.publish.ensures.view.view c.complete.ensures.view in
    round_held old last c.in-Some.claimed.chunk content is c.requires.none_held

-- the four calls in a row are a step of the writer's seat
pub returns-clause-step : goal.returns-clause-step
returns-clause-step g c =
    let means = g.W.Words.means in
    let then = steps_follow means c.args.table.now c.args.seat.now in
    let begun = then c.claim_try.new.self c.claim_try.new.seat c.begin-held.new.self c.begin-held.new.seat c.in-Some.ensures.step c.begin-held.ensures.step in
    let shown = then c.begin-held.new.self c.begin-held.new.seat c.publish.new.self c.publish.new.seat begun c.publish.ensures.step in
    then c.publish.new.self c.publish.new.seat c.complete.new.self c.complete.new.seat shown c.complete.ensures.step
