-- What a writer's view has after its own steps, as the next step asks it.
use Rattle.std.proofs.Common.{◌≡◌, ℕ, ◌^◌, ◌<◌, ◌≤◌, true, [], ◌∷◌, ◌++◌, List, Option, length, subst, sym, refl, ap, ◌∙◌, arith, ⊎_elim}
use Rattle.std.proofs.lemmas.List.{get_or-set_same}
use Rattle.std.proofs.Math.Seq.{get_or-append_seam}
use native.Mathlib.Decide.{dec_le}
use mathlib.Core.Logic.{dite}
use Rattle.atomic_table.proofs.Lists.{set_here, at_last}
use Rattle.chunk_plain.specs.declared.tokens.Held.{Held as HeldToken}
use Rattle.chunk_plain.specs.Setup.{Setup, from_of, id_at, position_at}
use Rattle.chunk_plain.specs.Payload.{byte_at, byte_in}
use Rattle.chunk_plain.specs.Views.{At, Draft, fresh, no_draft, Content, Held, Found, WriterView, ServiceView}
use Rattle.chunk_plain.specs.Steps.{claims, stamps, begins, redrafts, looks_at, takes_in, learns}
use Rattle.chunk_plain.specs.Owned.{times}
use Rattle.chunk_plain.specs.Drafts.{draft_in, draft_at, published, IsHolding}
use Rattle.chunk_plain.specs.Words.{HasClaimed, BeginsChunk, PublishesBytes}
use Rattle.chunk_plain.proofs.Lists.{times-here, at_inside}
use Rattle.trace_base.specs.Ids.{position_of}
use Rattle.trace_base.proofs.IdLemmas.{position_of_id}

-- a claim that won
pub claims_has : (view new : WriterView) (chunk found : ℕ) → new ≡ claims view chunk found true → HasClaimed new chunk
claims_has view new chunk found is = subst (λ v. HasClaimed v chunk) (sym is) (let one = times-here chunk view.claimed in omega arith)

-- what stands in a chunk that was just begun
pub begins_draft : (view : WriterView) (chunk : ℕ) (words : List ℕ) → draft_at (begins (stamps view chunk) chunk words) (length view.begun) ≡ fresh words
begins_draft view chunk words = ap draft_in (get_or-append_seam view.begun (Held chunk (fresh words)) [] (Held 0 no_draft))

-- a chunk that was begun
pub begins_holds : (setup : Setup) (view new : WriterView) (chunk position d i : ℕ) → BeginsChunk setup chunk view new → position ≡ length view.begun → d ≡ chunk → i ≡ position → IsHolding new d i
begins_holds setup view new chunk position d i begun id_is chunk_is i_is =
    let words = begun.words in let next = begins (stamps view chunk) chunk words in let n = length view.begun in
    let at : At next.begun n (Held chunk (fresh words)) = at_last view.begun (Held chunk (fresh words)) n refl in
    let here : IsHolding next chunk n = subst (λ x. At next.begun n (Held chunk x)) (sym (begins_draft view chunk words)) at in
    subst (λ v. IsHolding v d i) (sym begun.view) (subst (λ c. IsHolding next c i) (sym chunk_is) (subst (λ j. IsHolding next chunk j) (sym (i_is ∙ id_is)) here))

-- what stands in a held chunk after its own step
pub redrafts_draft : (view : WriterView) (chunk position : ℕ) (draft : Draft) → IsHolding view chunk position → draft_at (redrafts view chunk position draft) position ≡ draft
redrafts_draft view chunk position draft holding =
    ap draft_in (get_or-set_same view.begun position (Held chunk draft) (Held 0 no_draft) (at_inside view.begun (Held chunk (draft_at view position)) position holding))

-- a chunk of which a header or payload words were stored
pub redrafts_holds : (view new : WriterView) (before after : HeldToken) (draft : Draft) → new ≡ redrafts view before.chunk before.position draft → after ≡ before → IsHolding view before.chunk before.position → IsHolding new after.chunk after.position
redrafts_holds view new before after draft is same holding =
    let entry = Held before.chunk draft in let next = redrafts view before.chunk before.position draft in
    let inside : before.position < length view.begun = at_inside view.begun (Held before.chunk (draft_at view before.position)) before.position holding in
    let here : IsHolding next before.chunk before.position = subst (λ x. At next.begun before.position (Held before.chunk x)) (sym (redrafts_draft view before.chunk before.position draft holding)) (set_here view.begun before.position entry inside) in
    subst (λ v. IsHolding v after.chunk after.position) (sym is) (subst (λ (t : HeldToken). IsHolding next t.chunk t.position) (sym same) here)

-- Bytes below a place were published as they stand in the copy; now those from there on up to another place are too.
pub published_more : (view new : WriterView) (chunk position from to : ℕ) (copy : List ℕ) → IsHolding view chunk position → PublishesBytes chunk position from to copy view new → from ≤ to → to ≤ length copy
    → ((j : ℕ) → j < from → published view position j ≡ byte_in copy j) → (j : ℕ) → j < to → published new position j ≡ byte_in copy j
published_more view new chunk position from to copy holding bytes order inside before j below =
    let draft : Draft = record (draft_at view position) { words = bytes.words } in
    let now : published new position j ≡ byte_at bytes.words j =
    ap (λ v. published v position j) bytes.view ∙ ap (λ (d : Draft). byte_at d.words j) (redrafts_draft view chunk position draft holding) in
    now ∙ dite (dec_le from j)
    (λ least. bytes.bytes.range j least below)
    (λ less. ⊎_elim (λ as_before. as_before ∙ before j (omega arith)) (λ of_copy. of_copy) (bytes.bytes.others j (omega arith)))

-- publishing changes neither header nor ends
pub published_draft : (view new : WriterView) (chunk position from to : ℕ) (copy : List ℕ) → IsHolding view chunk position → (bytes : PublishesBytes chunk position from to copy view new)
    → draft_at new position ≡ record (draft_at view position) { words = bytes.words }
published_draft view new chunk position from to copy holding bytes =
    ap (λ v. draft_at v position) bytes.view ∙ redrafts_draft view chunk position (record (draft_at view position) { words = bytes.words }) holding

-- a chunk that was just taken is being read
pub takes_reads : (view new : ServiceView) (chunk d word header place : ℕ) (found : Option Found) (content : Content) → new ≡ learns (takes_in (looks_at view chunk word header found) place chunk) place content → d ≡ chunk → 0 < times d new.reading
takes_reads view new chunk d word header place found content is same =
    subst (λ (v : ServiceView). 0 < times d v.reading) (sym is) (subst (λ c. 0 < times c (view.reading ++ chunk ∷ [])) (sym same) (let one = times-here chunk view.reading in omega arith))

-- the position of an id that is the one of this position
pub begun_at : (setup : Setup) (place position id result : ℕ) → id ≡ id_at setup place position → position < 2 ^ 32 → result ≡ position_at setup place id → result ≡ position
begun_at setup place position id result id_is small is =
    is ∙ (ap (position_of (from_of setup place)) id_is ∙ position_of_id (from_of setup place) position small)
