use Rattle.std.proofs.Common.{◌≡◌, ℕ, ◌<◌, ◌≤◌, ◌∙◌, length, subst, sym, ap, refl, arith, rules}
use Rattle.std.proofs.lemmas.Grind.{common_steps}
use Rattle.chunk_plain.specs.declared.tokens.Held.{Held as HeldToken}
use Rattle.chunk_plain.specs.Setup.{Setup, spot, id_at}
use Rattle.chunk_plain.specs.Payload.{byte_at, sealed_to, HasFragments}
use Rattle.chunk_plain.specs.Views.{Draft, WriterView}
use Rattle.chunk_plain.specs.Steps.{redrafts, with_head}
use Rattle.chunk_plain.specs.Drafts.{draft_at, published, ends_by}
use Rattle.chunk_plain.specs.Words.{HasClaimed, KeepsSealed}
use Rattle.chunk_plain.proofs.Holding.{claims_has, begins_holds, redrafts_holds, redrafts_draft, published_more}
use Rattle.chunk_plain.proofs.SeatSteps.{steps_follow}
use Rattle.chunk_plain.proofs.LayingLemmas.{chunk_inside}
use Rattle.chunk_plain_rows.proofs.TestFragments.{short_fragment}
use Rattle.chunk_plain_rows.proofs.rounds.write.Goals as goal

pub begin-held-requires-clause-may : goal.begin-held-requires-clause-may
begin-held-requires-clause-may g c = record {
  claimed = let won = c.in_ok-claimed.ensures.won in
      subst (λ d. HasClaimed (g.W.Words.means.view c.claim_try.new.self c.claim_try.new.seat) d) (sym c.in_ok-claimed.ensures.chunk)
      (claims_has (g.W.Words.means.view c.args.table.now c.args.seat.now) (g.W.Words.means.view c.claim_try.new.self c.claim_try.new.seat) c.args.chunk won.found won.view);
  id_is = let won = c.in_ok-claimed.ensures.won in
      let place = g.W.Words.means.place c.args.seat.now in
      let stays = c.in_ok-claimed.ensures.step.place_stays in
      c.requires.id ∙ ap (id_at (g.W.Words.means.setup c.args.table.now) place) (sym (ap (λ (v : WriterView). length v.begun) won.view))
      ∙ ap (λ (s : Setup). id_at s place (length (g.W.Words.means.view c.claim_try.new.self c.claim_try.new.seat).begun)) (sym c.in_ok-claimed.ensures.step.setup_stays)
      ∙ ap (λ (p : ℕ). id_at (g.W.Words.means.setup c.claim_try.new.self) p (length (g.W.Words.means.view c.claim_try.new.self c.claim_try.new.seat).begun)) (sym stays);
  few_begun = first_of (search rules, grind (arith, common_steps));
}

pub publish-requires-clause-may : goal.publish-requires-clause-may
publish-requires-clause-may g c = record {
  held = let won = c.in_ok-claimed.ensures.won in
      let view0 = g.W.Words.means.view c.claim_try.new.self c.claim_try.new.seat in let view1 = g.W.Words.means.view c.begin-held.new.self c.begin-held.new.seat in
      let held = c.put_fragments.new.held in
      let holding = begins_holds (g.W.Words.means.setup c.claim_try.new.self) view0 view1 c.in_ok-claimed.claimed.chunk (length view0.begun) held.chunk held.position c.begin-held.ensures.view
      refl (c.put_fragments.ensures.chunk ∙ c.begin-held.ensures.held.chunk_is) (c.put_fragments.ensures.position ∙ c.begin-held.ensures.held.position_is) in
      holding;
  size = first_of (search rules, grind (arith, common_steps));
  order = first_of (search rules, grind (arith, common_steps));
  inside = first_of (search rules, grind (arith, common_steps));
  kept = first_of (search rules, grind (arith, common_steps));
}

pub set_header-requires-clause-may : goal.set_header-requires-clause-may
set_header-requires-clause-may g c = record {
  held = let won = c.in_ok-claimed.ensures.won in
      let view0 = g.W.Words.means.view c.claim_try.new.self c.claim_try.new.seat in let view1 = g.W.Words.means.view c.begin-held.new.self c.begin-held.new.seat in
      let held = c.put_fragments.new.held in
      let holding = begins_holds (g.W.Words.means.setup c.claim_try.new.self) view0 view1 c.in_ok-claimed.claimed.chunk (length view0.begun) held.chunk held.position c.begin-held.ensures.view
      refl (c.put_fragments.ensures.chunk ∙ c.begin-held.ensures.held.chunk_is) (c.put_fragments.ensures.position ∙ c.begin-held.ensures.held.position_is) in
      let view2 = g.W.Words.means.view c.publish.new.self c.publish.new.seat in
      let bytes = c.publish.ensures.view in let draft : Draft = record (draft_at view1 held.position) { words = bytes.words } in
      let copy = held.body.payload.items in
      let copy_size : (spot (g.W.Words.means.setup c.claim_try.new.self) c.in_ok-claimed.claimed.chunk).payload_size ≡ length copy =
      (let whole = c.begin-held.ensures.held.whole in let same = c.put_fragments.ensures.size in let joined = held.body.payload.ok.0 in omega arith) in
      let at_least = (g.met.W.Words.laid c.args.table.now).least c.args.chunk (chunk_inside (g.W.Words.means.setup c.args.table.now) _ c.args.chunk (g.met.W.Words.laid c.args.table.now) c.requires.chunk) in
      let spot_is : (spot (g.W.Words.means.setup c.claim_try.new.self) c.in_ok-claimed.claimed.chunk).payload_size ≡ (spot (g.W.Words.means.setup c.args.table.now) c.args.chunk).payload_size =
      ap (λ d. (spot (g.W.Words.means.setup c.claim_try.new.self) d).payload_size) c.in_ok-claimed.ensures.chunk ∙ ap (λ s. (spot s c.args.chunk).payload_size) c.in_ok-claimed.ensures.step.setup_stays in
      let all = published_more view1 view2 held.chunk held.position 0 6 copy holding bytes (omega arith) (omega arith) (λ j less. absurd (omega arith)) in
      let sealed = short_fragment (published view2 held.position) 2 (all 0 (omega arith) ∙ c.put_fragments.ensures.first) (omega arith) in
      redrafts_holds view1 view2 held c.publish.new.held draft bytes.view c.publish.ensures.held holding;
  count_fits = first_of (search rules, grind (arith, common_steps));
  flags_fit = first_of (search rules, grind (arith, common_steps));
  follows = first_of (search rules, grind (arith, common_steps));
  reads = let won = c.in_ok-claimed.ensures.won in
      let view0 = g.W.Words.means.view c.claim_try.new.self c.claim_try.new.seat in let view1 = g.W.Words.means.view c.begin-held.new.self c.begin-held.new.seat in
      let held = c.put_fragments.new.held in
      let holding = begins_holds (g.W.Words.means.setup c.claim_try.new.self) view0 view1 c.in_ok-claimed.claimed.chunk (length view0.begun) held.chunk held.position c.begin-held.ensures.view
      refl (c.put_fragments.ensures.chunk ∙ c.begin-held.ensures.held.chunk_is) (c.put_fragments.ensures.position ∙ c.begin-held.ensures.held.position_is) in
      let view2 = g.W.Words.means.view c.publish.new.self c.publish.new.seat in
      let bytes = c.publish.ensures.view in let draft : Draft = record (draft_at view1 held.position) { words = bytes.words } in
      let copy = held.body.payload.items in
      let copy_size : (spot (g.W.Words.means.setup c.claim_try.new.self) c.in_ok-claimed.claimed.chunk).payload_size ≡ length copy =
      (let whole = c.begin-held.ensures.held.whole in let same = c.put_fragments.ensures.size in let joined = held.body.payload.ok.0 in omega arith) in
      let at_least = (g.met.W.Words.laid c.args.table.now).least c.args.chunk (chunk_inside (g.W.Words.means.setup c.args.table.now) _ c.args.chunk (g.met.W.Words.laid c.args.table.now) c.requires.chunk) in
      let spot_is : (spot (g.W.Words.means.setup c.claim_try.new.self) c.in_ok-claimed.claimed.chunk).payload_size ≡ (spot (g.W.Words.means.setup c.args.table.now) c.args.chunk).payload_size =
      ap (λ d. (spot (g.W.Words.means.setup c.claim_try.new.self) d).payload_size) c.in_ok-claimed.ensures.chunk ∙ ap (λ s. (spot s c.args.chunk).payload_size) c.in_ok-claimed.ensures.step.setup_stays in
      let all = published_more view1 view2 held.chunk held.position 0 6 copy holding bytes (omega arith) (omega arith) (λ j less. absurd (omega arith)) in
      let sealed = short_fragment (published view2 held.position) 2 (all 0 (omega arith) ∙ c.put_fragments.ensures.first) (omega arith) in
      subst (λ (h : HeldToken). HasFragments (published view2 h.position) (ends_by view2 h.position 2)) (sym c.publish.ensures.held) sealed.0;
  inside = let won = c.in_ok-claimed.ensures.won in
      let view0 = g.W.Words.means.view c.claim_try.new.self c.claim_try.new.seat in let view1 = g.W.Words.means.view c.begin-held.new.self c.begin-held.new.seat in
      let held = c.put_fragments.new.held in
      let holding = begins_holds (g.W.Words.means.setup c.claim_try.new.self) view0 view1 c.in_ok-claimed.claimed.chunk (length view0.begun) held.chunk held.position c.begin-held.ensures.view
      refl (c.put_fragments.ensures.chunk ∙ c.begin-held.ensures.held.chunk_is) (c.put_fragments.ensures.position ∙ c.begin-held.ensures.held.position_is) in
      let view2 = g.W.Words.means.view c.publish.new.self c.publish.new.seat in
      let bytes = c.publish.ensures.view in let draft : Draft = record (draft_at view1 held.position) { words = bytes.words } in
      let copy = held.body.payload.items in
      let copy_size : (spot (g.W.Words.means.setup c.claim_try.new.self) c.in_ok-claimed.claimed.chunk).payload_size ≡ length copy =
      (let whole = c.begin-held.ensures.held.whole in let same = c.put_fragments.ensures.size in let joined = held.body.payload.ok.0 in omega arith) in
      let at_least = (g.met.W.Words.laid c.args.table.now).least c.args.chunk (chunk_inside (g.W.Words.means.setup c.args.table.now) _ c.args.chunk (g.met.W.Words.laid c.args.table.now) c.requires.chunk) in
      let spot_is : (spot (g.W.Words.means.setup c.claim_try.new.self) c.in_ok-claimed.claimed.chunk).payload_size ≡ (spot (g.W.Words.means.setup c.args.table.now) c.args.chunk).payload_size =
      ap (λ d. (spot (g.W.Words.means.setup c.claim_try.new.self) d).payload_size) c.in_ok-claimed.ensures.chunk ∙ ap (λ s. (spot s c.args.chunk).payload_size) c.in_ok-claimed.ensures.step.setup_stays in
      let all = published_more view1 view2 held.chunk held.position 0 6 copy holding bytes (omega arith) (omega arith) (λ j less. absurd (omega arith)) in
      let sealed = short_fragment (published view2 held.position) 2 (all 0 (omega arith) ∙ c.put_fragments.ensures.first) (omega arith) in
      let setup_is = c.publish.ensures.step.setup_stays ∙ (c.begin-held.ensures.step.setup_stays ∙ c.in_ok-claimed.ensures.step.setup_stays) in
      let chunk_is = c.put_fragments.ensures.chunk ∙ (c.begin-held.ensures.held.chunk_is ∙ c.in_ok-claimed.ensures.chunk) in
      let size_is : (spot (g.W.Words.means.setup c.publish.new.self) held.chunk).payload_size ≡ (spot (g.W.Words.means.setup c.args.table.now) c.args.chunk).payload_size =
      ap (λ s. (spot s held.chunk).payload_size) setup_is ∙ ap (λ d. (spot (g.W.Words.means.setup c.args.table.now) d).payload_size) chunk_is in
      subst (λ (h : HeldToken). sealed_to (ends_by view2 h.position 2) ≤ (spot (g.W.Words.means.setup c.publish.new.self) h.chunk).payload_size) (sym c.publish.ensures.held)
      (let three = sealed.1 in omega (arith, three, size_is, at_least));
}

pub returns-clause-holding : goal.returns-clause-holding
returns-clause-holding g c =
    let won = c.in_ok-claimed.ensures.won in
    let view0 = g.W.Words.means.view c.claim_try.new.self c.claim_try.new.seat in let view1 = g.W.Words.means.view c.begin-held.new.self c.begin-held.new.seat in
    let held = c.put_fragments.new.held in
    let holding = begins_holds (g.W.Words.means.setup c.claim_try.new.self) view0 view1 c.in_ok-claimed.claimed.chunk (length view0.begun) held.chunk held.position c.begin-held.ensures.view
    refl (c.put_fragments.ensures.chunk ∙ c.begin-held.ensures.held.chunk_is) (c.put_fragments.ensures.position ∙ c.begin-held.ensures.held.position_is) in
    let view2 = g.W.Words.means.view c.publish.new.self c.publish.new.seat in
    let bytes = c.publish.ensures.view in let draft : Draft = record (draft_at view1 held.position) { words = bytes.words } in
    let copy = held.body.payload.items in
    let copy_size : (spot (g.W.Words.means.setup c.claim_try.new.self) c.in_ok-claimed.claimed.chunk).payload_size ≡ length copy =
    (let whole = c.begin-held.ensures.held.whole in let same = c.put_fragments.ensures.size in let joined = held.body.payload.ok.0 in omega arith) in
    let at_least = (g.met.W.Words.laid c.args.table.now).least c.args.chunk (chunk_inside (g.W.Words.means.setup c.args.table.now) _ c.args.chunk (g.met.W.Words.laid c.args.table.now) c.requires.chunk) in
    let spot_is : (spot (g.W.Words.means.setup c.claim_try.new.self) c.in_ok-claimed.claimed.chunk).payload_size ≡ (spot (g.W.Words.means.setup c.args.table.now) c.args.chunk).payload_size =
    ap (λ d. (spot (g.W.Words.means.setup c.claim_try.new.self) d).payload_size) c.in_ok-claimed.ensures.chunk ∙ ap (λ s. (spot s c.args.chunk).payload_size) c.in_ok-claimed.ensures.step.setup_stays in
    let all = published_more view1 view2 held.chunk held.position 0 6 copy holding bytes (omega arith) (omega arith) (λ j less. absurd (omega arith)) in
    let sealed = short_fragment (published view2 held.position) 2 (all 0 (omega arith) ∙ c.put_fragments.ensures.first) (omega arith) in
    let view3 = g.W.Words.means.view c.set_header.new.self c.set_header.new.seat in
    let holding2 = redrafts_holds view1 view2 held c.publish.new.held draft bytes.view c.publish.ensures.held holding in
    redrafts_holds view2 view3 c.publish.new.held c.set_header.new.held (with_head (draft_at view2 c.publish.new.held.position) (record { count = 2; flags = 0 }) (ends_by view2 c.publish.new.held.position 2))
    c.set_header.ensures.view c.set_header.ensures.held holding2

pub returns-clause-sealed : goal.returns-clause-sealed
returns-clause-sealed g c =
    let won = c.in_ok-claimed.ensures.won in
    let view0 = g.W.Words.means.view c.claim_try.new.self c.claim_try.new.seat in let view1 = g.W.Words.means.view c.begin-held.new.self c.begin-held.new.seat in
    let held = c.put_fragments.new.held in
    let holding = begins_holds (g.W.Words.means.setup c.claim_try.new.self) view0 view1 c.in_ok-claimed.claimed.chunk (length view0.begun) held.chunk held.position c.begin-held.ensures.view
    refl (c.put_fragments.ensures.chunk ∙ c.begin-held.ensures.held.chunk_is) (c.put_fragments.ensures.position ∙ c.begin-held.ensures.held.position_is) in
    let view2 = g.W.Words.means.view c.publish.new.self c.publish.new.seat in
    let bytes = c.publish.ensures.view in let draft : Draft = record (draft_at view1 held.position) { words = bytes.words } in
    let copy = held.body.payload.items in
    let copy_size : (spot (g.W.Words.means.setup c.claim_try.new.self) c.in_ok-claimed.claimed.chunk).payload_size ≡ length copy =
    (let whole = c.begin-held.ensures.held.whole in let same = c.put_fragments.ensures.size in let joined = held.body.payload.ok.0 in omega arith) in
    let at_least = (g.met.W.Words.laid c.args.table.now).least c.args.chunk (chunk_inside (g.W.Words.means.setup c.args.table.now) _ c.args.chunk (g.met.W.Words.laid c.args.table.now) c.requires.chunk) in
    let spot_is : (spot (g.W.Words.means.setup c.claim_try.new.self) c.in_ok-claimed.claimed.chunk).payload_size ≡ (spot (g.W.Words.means.setup c.args.table.now) c.args.chunk).payload_size =
    ap (λ d. (spot (g.W.Words.means.setup c.claim_try.new.self) d).payload_size) c.in_ok-claimed.ensures.chunk ∙ ap (λ s. (spot s c.args.chunk).payload_size) c.in_ok-claimed.ensures.step.setup_stays in
    let all = published_more view1 view2 held.chunk held.position 0 6 copy holding bytes (omega arith) (omega arith) (λ j less. absurd (omega arith)) in
    let sealed = short_fragment (published view2 held.position) 2 (all 0 (omega arith) ∙ c.put_fragments.ensures.first) (omega arith) in
    let view3 = g.W.Words.means.view c.set_header.new.self c.set_header.new.seat in
    let holding2 = redrafts_holds view1 view2 held held draft bytes.view refl holding in
    let later = with_head (draft_at view2 held.position) (record { count = 2; flags = 0 }) (ends_by view2 held.position 2) in
    let view3_is : view3 ≡ redrafts view2 held.chunk held.position later = subst (λ (h : HeldToken). view3 ≡ redrafts view2 h.chunk h.position (with_head (draft_at view2 h.position) (record { count = 2; flags = 0 }) (ends_by view2 h.position 2))) c.publish.ensures.held c.set_header.ensures.view in
    let draft_is : draft_at view3 held.position ≡ later = ap (λ v. draft_at v held.position) view3_is ∙ redrafts_draft view2 held.chunk held.position later holding2 in
    let keeps : KeepsSealed view3 held.position copy = λ j below.
    let low : j < 3 = let three = sealed.1 in let most = subst (λ (d : Draft). j < sealed_to d.ends) draft_is below in omega arith in
    ((omega (arith, copy_size, spot_is, at_least)), ap (λ (d : Draft). byte_at d.words j) draft_is ∙ all j (omega arith)) in
    subst (λ (h : HeldToken). KeepsSealed view3 h.position h.body.payload.items) (sym (c.set_header.ensures.held ∙ c.publish.ensures.held)) keeps

pub returns-clause-step : goal.returns-clause-step
returns-clause-step g c =
    let one = steps_follow g.W.Words.means c.args.table.now c.args.seat.now c.claim_try.new.self c.claim_try.new.seat c.begin-held.new.self c.begin-held.new.seat c.in_ok-claimed.ensures.step c.begin-held.ensures.step in
    let two = steps_follow g.W.Words.means c.args.table.now c.args.seat.now c.begin-held.new.self c.begin-held.new.seat c.publish.new.self c.publish.new.seat one c.publish.ensures.step in
    steps_follow g.W.Words.means c.args.table.now c.args.seat.now c.publish.new.self c.publish.new.seat c.set_header.new.self c.set_header.new.seat two c.set_header.ensures.step
