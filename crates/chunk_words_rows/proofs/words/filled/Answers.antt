use Rattle.std.proofs.Common.{◌≡◌, ℕ, ◌<◌, ◌∙◌, length, subst, sym, refl, ap, arith, rules}
use Rattle.std.proofs.lemmas.Grind.{common_steps}
use Rattle.chunk_plain.specs.declared.tokens.Held.{Held as HeldToken}
use Rattle.chunk_plain.specs.Payload.{byte_in}
use Rattle.chunk_plain.specs.Setup.{IsChunkOf, producer_of, from_of}
use Rattle.chunk_plain.specs.Views.{Draft, WriterView}
use Rattle.chunk_plain.specs.Drafts.{draft_at, published}
use Rattle.chunk_plain.specs.Words.{HasClaimed}
use Rattle.chunk_plain.proofs.Holding.{claims_has, begins_holds, redrafts_holds, published_more}
use Rattle.chunk_words.specs.Sits.{setup_in, known_by}
use Rattle.chunk_words_rows.proofs.words.filled.Goals as goal
use Rattle.trace_base.specs.Ids.{id_of}

pub claim_try-requires-clause-chunk : goal.claim_try-requires-clause-chunk
claim_try-requires-clause-chunk c =
    let setup = setup_in c.args.host.now in
    subst (λ p. IsChunkOf setup (producer_of setup p) 0) (sym c.requires.writer.0) (c.requires.page.chunks 0 0 (omega arith) (omega arith))

pub begin-held-requires-clause-may : goal.begin-held-requires-clause-may
begin-held-requires-clause-may c =
    let won = c.in_ok-claimed.ensures.won in
    let none = ap (λ (v : WriterView). length v.begun) won.view ∙ ap (λ (v : WriterView). length v.begun) c.requires.writer.2 in
    let count : ℕ = length (known_by c.claim_try.new.seat).begun in
    let place_is = c.in_ok-claimed.ensures.place ∙ c.requires.writer.0 in
    let from_is = ap (from_of (setup_in c.args.host.now)) place_is ∙ c.requires.page.froms 0 (omega arith) in
    record {
      claimed = subst (λ k. HasClaimed (known_by c.claim_try.new.seat) k) (sym c.in_ok-claimed.ensures.chunk)
          (claims_has (known_by c.args.writer.now) (known_by c.claim_try.new.seat) 0 won.found won.view);
      id_is = c.id_of.ensures ∙ ap (id_of 4294967000) (sym none) ∙ ap (λ (f : ℕ). id_of f count) (sym from_is);
      few_begun = omega (arith, none);
    }

pub publish-requires-clause-may : goal.publish-requires-clause-may
publish-requires-clause-may c =
    let held = c.begin-held.result in
    record {
      held = begins_holds (setup_in c.args.host.now) (known_by c.claim_try.new.seat) (known_by c.begin-held.new.seat) c.in_ok-claimed.claimed.chunk (length (known_by c.claim_try.new.seat).begun) held.chunk held.position
          c.begin-held.ensures.view refl c.begin-held.ensures.held.chunk_is c.begin-held.ensures.held.position_is;
      size = first_of (search rules, grind (arith, common_steps));
      order = first_of (search rules, grind (arith, common_steps));
      inside = first_of (search rules, grind (arith, common_steps));
      kept = first_of (search rules, grind (arith, common_steps));
    }

pub complete-requires-clause-held : goal.complete-requires-clause-held
complete-requires-clause-held c =
    let held = c.begin-held.result in
    let old = known_by c.begin-held.new.seat in let new = known_by c.publish.new.seat in
    let holding = begins_holds (setup_in c.args.host.now) (known_by c.claim_try.new.seat) old c.in_ok-claimed.claimed.chunk (length (known_by c.claim_try.new.seat).begun) held.chunk held.position
    c.begin-held.ensures.view refl c.begin-held.ensures.held.chunk_is c.begin-held.ensures.held.position_is in
    let bytes = c.publish.ensures.view in
    let draft : Draft = record (draft_at old held.position) { words = bytes.words } in
    redrafts_holds old new held c.publish.new.held draft bytes.view c.publish.ensures.held holding

pub complete-requires-clause-published : goal.complete-requires-clause-published
complete-requires-clause-published c =
    let held = c.begin-held.result in
    let old = known_by c.begin-held.new.seat in let new = known_by c.publish.new.seat in
    let holding = begins_holds (setup_in c.args.host.now) (known_by c.claim_try.new.seat) old c.in_ok-claimed.claimed.chunk (length (known_by c.claim_try.new.seat).begun) held.chunk held.position
    c.begin-held.ensures.view refl c.begin-held.ensures.held.chunk_is c.begin-held.ensures.held.position_is in
    let bytes = c.publish.ensures.view in
    let copy = held.body.payload.items in
    let joined = held.body.payload.ok.0 in
    let size : c.len-size.result ≡ length copy = omega (arith, c.len-size.ensures) in
    subst (λ (h : HeldToken). (j : ℕ) → j < length h.body.payload.items → published new h.position j ≡ byte_in h.body.payload.items j) (sym c.publish.ensures.held)
    (λ j below. published_more old new held.chunk held.position 0 c.len-size.result copy holding bytes (omega arith) (omega arith) (λ i less. absurd (omega arith)) j (omega arith))
