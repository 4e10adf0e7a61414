-- What of a held chunk was published, once its next fragment is counted, or the chunk is to be completed.
use Rattle.std.proofs.Common.{◌≡◌, ◌∙◌, ℕ, zero, suc, ◌+◌, ◌-◌, ◌^◌, ◌%◌, ◌<◌, ◌≤◌, Bool, true, false, List, [], ◌∷◌, ◌++◌, length, set, vec_len, refl, sym, ap, subst, arith, length-append}
use Rattle.std.specs.List.{AllByRecursion as ByRecursion}
use Rattle.std.proofs.lemmas.List.Elements.{All-from_recursion}
use Rattle.std.proofs.lemmas.List.{set-set}
use Rattle.trace_model.specs.Pages.{framed}
use Rattle.trace_model.specs.Images.{Patch}
use Rattle.commit_body.specs.declared.body.CommitBody.{CommitBody}
use Rattle.chunk_plain.specs.Shows.{content_of, patches_in}
use Rattle.chunk_plain.specs.declared.tokens.Held.{Held as HeldToken}
use Rattle.chunk_plain.specs.Setup.{Setup, spot}
use Rattle.chunk_plain.specs.Payload.{byte_at, byte_in, sealed_to, HasFragments, ends_from}
use Rattle.chunk_plain.specs.Views.{BegunChunk, Held, Completed, Head, Draft, fresh, Content, WriterView}
use Rattle.chunk_plain.specs.Drafts.{IsHolding, MayFollow, draft_at, head_at, published, ends_by}
use Rattle.chunk_plain.specs.Steps.{redrafts, with_head, completes}
use Rattle.chunk_plain.specs.Words.{KeepsSealed, IsPublished, PublishesBytes}
use Rattle.chunk_plain.proofs.Frames.{frames_read}
use Rattle.chunk_plain.proofs.Holding.{redrafts_draft, redrafts_holds, published_more, published_draft}
use Rattle.trace_writer.specs.declared.chunk.HeldChunk.{HeldChunk}
use Rattle.trace_writer.specs.Headers.{flags_value, held_head, completed_chunk}
use Rattle.trace_writer.specs.Filled.{frames}
use Rattle.trace_writer.specs.Drafted.{IsDrafted, IsFit, CountsNext}
use Rattle.trace_writer.proofs.holding.Payloads.{length-framed}
use Rattle.trace_writer.proofs.holding.Seats.{draft_here, holds_here}

-- Bytes

-- the first bytes of two lists, one behind the other
pub byte_front : (xs ys : List ℕ) (j : ℕ) → j < length xs → byte_in (xs ++ ys) j ≡ byte_in xs j
byte_front [] ys j below = absurd (omega (arith, below))
byte_front (x ∷ xs) ys zero below = refl
byte_front (x ∷ xs) ys (suc j) below = byte_front xs ys j (omega (arith, below))

-- fragments of a payload are small
small_each : (done : List (List ℕ)) → length (frames done) ≤ 65536 → ByRecursion (λ (fragment : List ℕ). length fragment < 2 ^ 28) done
small_each [] few = tt
small_each (one ∷ done) few =
    let both = length-append (framed one) (frames done) in let long = length-framed one in
    (omega (arith, few, both, long), small_each done (omega (arith, few, both)))

-- What a held chunk has, as a step asks it.
pub fits : (setup : Setup) (view : WriterView) (chunk : HeldChunk) (draft : Draft) (continues : Bool) (completed later : List BegunChunk) (count many to : ℕ)
    (done before : List (List ℕ)) (rest other : List ℕ) → view.begun ≡ completed ++ Held chunk.held.chunk draft ∷ later → chunk.held.position ≡ length completed
    → vec_len chunk.held.body.payload ≡ (spot setup chunk.held.chunk).payload_size → chunk.held.body.payload.items ≡ frames done ++ rest
    → count ≡ length done → length (frames done) ≤ to → chunk.held.body.payload.items ≡ frames before ++ other → chunk.sealed ≡ length (frames before)
    → IsDrafted draft many continues before → IsFit setup view chunk count to
fits setup view chunk draft continues completed later count many to done before rest other begun position size payload count_is inside begins sealed drafted =
    let here : draft_at view chunk.held.position ≡ draft = draft_here view completed later chunk.held.chunk chunk.held.position draft begun position in
    record {
      holds = holds_here view completed later chunk.held.chunk chunk.held.position draft begun position;
      size = size;
      done = done;
      rest = rest;
      payload_is = payload;
      count_is = count_is;
      inside = inside;
      bytes = λ j below.
          let lower : j < length (frames before) = omega (arith, below, sealed) in
          ap (λ (d : Draft). byte_at d.words j) here ∙ drafted.bytes j lower
          ∙ sym (byte_front (frames before) other j lower) ∙ ap (λ (xs : List ℕ). byte_in xs j) (sym begins);
      sealed = subst (λ (d : Draft). sealed_to d.ends ≤ chunk.sealed) (sym here) (let most = drafted.sealed in omega (arith, most, sealed));
    }

-- a chunk that was just begun has no fragment
pub fits_new : (setup : Setup) (view : WriterView) (chunk : HeldChunk) (words : List ℕ) (completed later : List BegunChunk)
    → view.begun ≡ completed ++ Held chunk.held.chunk (fresh words) ∷ later → chunk.held.position ≡ length completed
    → vec_len chunk.held.body.payload ≡ (spot setup chunk.held.chunk).payload_size → chunk.sealed ≡ 0 → chunk.at ≡ 0 → chunk.count ≡ 0
    → IsFit setup view chunk chunk.count chunk.at
fits_new setup view chunk words completed later begun position size sealed at count =
    let here : draft_at view chunk.held.position ≡ fresh words = draft_here view completed later chunk.held.chunk chunk.held.position (fresh words) begun position in
    record {
      holds = holds_here view completed later chunk.held.chunk chunk.held.position (fresh words) begun position;
      size = size;
      done = [];
      rest = chunk.held.body.payload.items;
      payload_is = refl;
      count_is = count;
      inside = omega arith;
      bytes = λ j below. absurd (omega (arith, below, sealed));
      sealed = subst (λ (d : Draft). sealed_to d.ends ≤ chunk.sealed) (sym here) (omega arith);
    }

-- The header of it has no fragment either.
pub heads_new : (view : WriterView) (chunk position : ℕ) (words : List ℕ) (completed later : List BegunChunk) (next : Head)
    → view.begun ≡ completed ++ Held chunk (fresh words) ∷ later → position ≡ length completed → MayFollow (head_at view position) next
heads_new view chunk position words completed later next begun position_is =
    subst (λ (d : Draft). MayFollow d.head next) (sym (draft_here view completed later chunk position (fresh words) begun position_is))
    (record { count_grows = omega arith; front_stays = λ some. absurd (some refl) })

-- flag 1 tells of the first fragment alone
flag_stays : (continues runs_on awaits : Bool) → flags_value continues runs_on awaits % 2 ≡ flags_value continues false false % 2
flag_stays true true true = refl
flag_stays true true false = refl
flag_stays true false true = refl
flag_stays true false false = refl
flag_stays false true true = refl
flag_stays false true false = refl
flag_stays false false true = refl
flag_stays false false false = refl

-- the last header of a chunk may follow the one that counts its fragments
pub heads_last : (view mid : WriterView) (chunk : HeldChunk) (held : HeldToken) (flags : ℕ) (runs_on awaits : Bool)
    → head_at mid chunk.held.position ≡ head_at view chunk.held.position → held ≡ chunk.held
    → head_at view chunk.held.position ≡ held_head chunk.count chunk.continues → flags ≡ flags_value chunk.continues runs_on awaits
    → MayFollow (head_at mid held.position) (record { count = chunk.count; flags = flags })
heads_last view mid chunk held flags runs_on awaits stays same head flags_are =
    let last : Head = record { count = chunk.count; flags = flags } in
    let before : held_head chunk.count chunk.continues ≡ head_at mid held.position =
    sym (ap (λ (h : HeldToken). head_at mid h.position) same ∙ stays ∙ head) in
    subst (λ (h : Head). MayFollow h last) before (record {
      count_grows = omega arith;
      front_stays = λ some. ap (λ (n : ℕ). n % 2) flags_are ∙ flag_stays chunk.continues runs_on awaits;
    })

-- The steps

-- what was finished stands in the copy as it was published
pub keeps_sealed : (setup : Setup) (view : WriterView) (chunk : HeldChunk) (count to : ℕ) → IsFit setup view chunk count to
    → KeepsSealed view chunk.held.position chunk.held.body.payload.items
keeps_sealed setup view chunk count to fit = λ j below.
    let long : length chunk.held.body.payload.items ≡ vec_len chunk.held.body.payload = sym chunk.held.body.payload.ok.0 in
    let order = chunk.order in let within = chunk.within in let most = fit.sealed in
    (omega (arith, below, most, order, within, long), fit.bytes j (omega (arith, below, most)))

module _ (setup : Setup) (view mid : WriterView) (chunk : HeldChunk) (count to : ℕ) (fit : IsFit setup view chunk count to) where
  module _ (order : chunk.sealed ≤ to) (inside : to ≤ vec_len chunk.held.body.payload)
      (publishes : PublishesBytes chunk.held.chunk chunk.held.position chunk.sealed to chunk.held.body.payload.items view mid) where
    pub published_up : (j : ℕ) → j < to → published mid chunk.held.position j ≡ byte_in chunk.held.body.payload.items j
    published_up j below =
        let long : length chunk.held.body.payload.items ≡ vec_len chunk.held.body.payload = sym chunk.held.body.payload.ok.0 in
        published_more view mid chunk.held.chunk chunk.held.position chunk.sealed to chunk.held.body.payload.items fit.holds publishes order (omega (arith, inside, long)) fit.bytes j below

    pub reads_so : (many : ℕ) → many - 1 ≡ count
        → HasFragments (published mid chunk.held.position) (ends_by mid chunk.held.position many) × (sealed_to (ends_by mid chunk.held.position many) ≡ length (frames fit.done))
    reads_so many many_is =
        let byte : ℕ → ℕ = published mid chunk.held.position in
        let few : length (frames fit.done) ≤ 65536 = let most = chunk.small in let within = fit.inside in omega (arith, most, within, inside) in
        subst (λ (n : ℕ). HasFragments byte (ends_from byte 0 n) × (sealed_to (ends_from byte 0 n) ≡ length (frames fit.done))) (sym (many_is ∙ fit.count_is))
        (frames_read byte fit.done (All-from_recursion (λ (fragment : List ℕ). length fragment < 2 ^ 28) fit.done (small_each fit.done few))
        (λ j below.
        let within = fit.inside in
        published_up j (omega (arith, below, within)) ∙ ap (λ (xs : List ℕ). byte_in xs j) fit.payload_is ∙ byte_front (frames fit.done) fit.rest j below))

    pub head_stays : head_at mid chunk.held.position ≡ head_at view chunk.held.position
    head_stays = ap (λ (d : Draft). d.head) (published_draft view mid chunk.held.chunk chunk.held.position chunk.sealed to chunk.held.body.payload.items fit.holds publishes)

    pub holds_still : (held : HeldToken) → held ≡ chunk.held → IsHolding mid held.chunk held.position
    holds_still held same = redrafts_holds view mid chunk.held held (record (draft_at view chunk.held.position) { words = publishes.words }) publishes.view same fit.holds

-- The header counts one fragment more.
pub counts_next : (setup : Setup) (view mid new : WriterView) (chunk : HeldChunk) (fit : IsFit setup view chunk chunk.count chunk.at) (held : HeldToken) (flags : ℕ)
    → PublishesBytes chunk.held.chunk chunk.held.position chunk.sealed chunk.at chunk.held.body.payload.items view mid → held ≡ chunk.held
    → record { count = chunk.count + 1; flags = flags } ≡ held_head (chunk.count + 1) chunk.continues
    → new ≡ redrafts mid held.chunk held.position (with_head (draft_at mid held.position) (record { count = chunk.count + 1; flags = flags }) (ends_by mid held.position (chunk.count + 1)))
    → CountsNext chunk view new
counts_next setup view mid new chunk fit held flags publishes same head is =
    let count : ℕ = chunk.count + 1 in
    let c : ℕ = chunk.held.chunk in
    let position : ℕ = chunk.held.position in
    let next : Draft = with_head (draft_at mid position) (record { count = count; flags = flags }) (ends_by mid position count) in
    let one : Draft = record (draft_at view position) { words = publishes.words } in
    let here : new ≡ redrafts mid c position next =
    is ∙ ap (λ (t : HeldToken). redrafts mid t.chunk t.position (with_head (draft_at mid t.position) (record { count = count; flags = flags }) (ends_by mid t.position count))) same in
    record {
      draft = next;
      head = head;
      bytes = published_up setup view mid chunk chunk.count chunk.at fit chunk.order chunk.within publishes;
      sealed = let reads = (reads_so setup view mid chunk chunk.count chunk.at fit chunk.order chunk.within publishes count (omega arith)).1 in
          let inside = fit.inside in omega (arith, reads, inside);
      view = here
          ∙ ap (λ (v : WriterView). redrafts v c position next) publishes.view
          ∙ ap (λ (xs : List BegunChunk). record view { begun = xs }) (set-set view.begun position (Held c one) (Held c next));
    }

-- The chunk is completed behind the publishing of all its bytes and the storing of its last header.
pub completes_all : (view mid two new : WriterView) (chunk : HeldChunk) (held other : HeldToken) (words : List ℕ) (draft : Draft) (content : Content)
    → mid ≡ redrafts view chunk.held.chunk chunk.held.position (record (draft_at view chunk.held.position) { words = words })
    → held.chunk ≡ chunk.held.chunk → held.position ≡ chunk.held.position → two ≡ redrafts mid held.chunk held.position draft
    → other.chunk ≡ chunk.held.chunk → other.position ≡ chunk.held.position → new ≡ completes two other.chunk other.position content
    → new ≡ completes view chunk.held.chunk chunk.held.position content
completes_all view mid two new chunk held other words draft content publishes chunk_is position_is heads other_chunk other_position is =
    let c : ℕ = chunk.held.chunk in
    let position : ℕ = chunk.held.position in
    let one : Draft = record (draft_at view position) { words = words } in
    is
    ∙ ap (λ (d : ℕ). completes two d other.position content) other_chunk
    ∙ ap (λ (i : ℕ). completes two c i content) other_position
    ∙ ap (λ (v : WriterView). completes v c position content) heads
    ∙ ap (λ (d : ℕ). completes (redrafts mid d held.position draft) c position content) chunk_is
    ∙ ap (λ (i : ℕ). completes (redrafts mid c i draft) c position content) position_is
    ∙ ap (λ (v : WriterView). completes (redrafts v c position draft) c position content) publishes
    ∙ ap (λ (xs : List BegunChunk). record view { begun = xs })
    (ap (λ (ys : List BegunChunk). set ys position (Completed c content)) (set-set view.begun position (Held c one) (Held c draft)) ∙ set-set view.begun position (Held c draft) (Completed c content))

-- All bytes are published, whatever header is stored behind that.
pub published_all : (setup : Setup) (view mid two : WriterView) (chunk : HeldChunk) (count : ℕ) (fit : IsFit setup view chunk count (vec_len chunk.held.body.payload))
    → PublishesBytes chunk.held.chunk chunk.held.position chunk.sealed (vec_len chunk.held.body.payload) chunk.held.body.payload.items view mid
    → (before after : HeldToken) (head : Head) (ends : List ℕ) → before.chunk ≡ chunk.held.chunk → before.position ≡ chunk.held.position
    → before.body.payload.items ≡ chunk.held.body.payload.items → after ≡ before
    → two ≡ redrafts mid before.chunk before.position (with_head (draft_at mid before.position) head ends) → IsPublished two after.position after.body.payload.items
published_all setup view mid two chunk count fit publishes before after head ends chunk_is position_is payload same is =
    let position : ℕ = chunk.held.position in
    let order : chunk.sealed ≤ vec_len chunk.held.body.payload = let less = chunk.order in let within = chunk.within in omega (arith, less, within) in
    let here : IsHolding mid chunk.held.chunk position = holds_still setup view mid chunk count (vec_len chunk.held.body.payload) fit order (omega arith) publishes chunk.held refl in
    let there : two ≡ redrafts mid chunk.held.chunk position (with_head (draft_at mid position) head ends) =
    is ∙ ap (λ (c : ℕ). redrafts mid c before.position (with_head (draft_at mid before.position) head ends)) chunk_is
    ∙ ap (λ (i : ℕ). redrafts mid chunk.held.chunk i (with_head (draft_at mid i) head ends)) position_is in
    let draft : draft_at two position ≡ with_head (draft_at mid position) head ends =
    ap (λ (v : WriterView). draft_at v position) there ∙ redrafts_draft mid chunk.held.chunk position (with_head (draft_at mid position) head ends) here in
    let all : IsPublished two position chunk.held.body.payload.items = λ j below.
    ap (λ (d : Draft). byte_at d.words j) draft
    ∙ published_up setup view mid chunk count (vec_len chunk.held.body.payload) fit order (omega arith) publishes j (let long = chunk.held.body.payload.ok.0 in omega (arith, below, long)) in
    subst (λ (t : HeldToken). IsPublished two t.position t.body.payload.items) (sym same)
    (subst (λ (i : ℕ). IsPublished two i before.body.payload.items) (sym position_is) (subst (λ (xs : List ℕ). IsPublished two position xs) (sym payload) all))

-- what the chunk is completed with
pub content_made : (from place moved position other : ℕ) (head next : Head) (body : CommitBody) (payload : List ℕ) (patches : List Patch) (buffer : ℕ) → moved ≡ place → other ≡ position → next ≡ head
    → body.payload.items ≡ payload → patches_in from body ≡ patches → body.target ≡ buffer
    → content_of from moved other next body ≡ completed_chunk place position head.count head.flags payload patches buffer
content_made from place moved position other head next body payload patches buffer place_is position_is head_is payload_is patches_is buffer_is =
    let sent : List Patch = patches_in from body in
    ap (λ (p : ℕ). completed_chunk p other next.count next.flags body.payload.items sent body.target) place_is
    ∙ ap (λ (i : ℕ). completed_chunk place i next.count next.flags body.payload.items sent body.target) position_is
    ∙ ap (λ (h : Head). completed_chunk place position h.count h.flags body.payload.items sent body.target) head_is
    ∙ ap (λ (xs : List ℕ). completed_chunk place position head.count head.flags xs sent body.target) payload_is
    ∙ ap (λ (ps : List Patch). completed_chunk place position head.count head.flags payload ps body.target) patches_is
    ∙ ap (λ (n : ℕ). completed_chunk place position head.count head.flags payload patches n) buffer_is

-- the header that was stored
pub heads_as : (mid two : WriterView) (held : HeldToken) (head : Head) (ends : List ℕ) → IsHolding mid held.chunk held.position
    → two ≡ redrafts mid held.chunk held.position (with_head (draft_at mid held.position) head ends) → head_at two held.position ≡ head
heads_as mid two held head ends holding is =
    ap (λ (v : WriterView). head_at v held.position) is ∙ ap (λ (d : Draft). d.head) (redrafts_draft mid held.chunk held.position (with_head (draft_at mid held.position) head ends) holding)
