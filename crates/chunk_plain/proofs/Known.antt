-- What the code of the table of one thread knows of its world, and what its steps keep, as its goals say it.
use Rattle.std.proofs.Common.{◌≡◌, ℕ, ◌+◌, ◌-◌, ◌*◌, ◌^◌, ◌<◌, ◌≤◌, ◌↔◌, IsTrue, IsSome, IfSome, not, Bool, false, Option, Some, None, List, length, set, get_or, vec_len, subst, sym, refl, ap, ◌∙◌, arith}
use Rattle.std.proofs.Math.Logic.{∥∥₁_map, ∥∥₁_elim}
use Rattle.std.proofs.Math.Nat.{ℕ_set}
use Rattle.std.proofs.Math.Bool.{Bool-set}
use mathlib.Core.List.{is_set as list_set}
use Rattle.std.specs.Coded.{le_prop}
use Rattle.std.specs.Int.{bit_at}
use Rattle.std.proofs.lemmas.List.{get_or-set_same}
use Rattle.std.proofs.lemmas.Nat.Bits.{bit_at-lt}
use Rattle.page_geometry.specs.Header.{packed}
use Rattle.page_geometry.specs.PageBits.{HasState, SetsState, Claims, Releases, KeepsOthers, IsClaimed}
use Rattle.page_geometry.specs.declared.chunk_header.ChunkHeader.{ChunkHeader}
use Rattle.page_geometry.specs.declared.chunk_state.ChunkState.TheVariants as state
use Rattle.commit_body.specs.declared.body.CommitBody.{CommitBody}
use Rattle.trace_model.specs.Calls as call
use Rattle.chunk_plain.specs.declared.setup.Spot.{Spot}
use Rattle.chunk_plain.specs.declared.step.Step.TheVariants.{Claim, Stamp, SetHeader, Look, Take}
use Rattle.chunk_plain.specs.Setup.{Setup, spot, IsLaid, IsChunkOf, producer_of, from_of, id_at}
use Rattle.chunk_plain.specs.Payload.{byte_at, sealed_to, HasFragments}
use Rattle.chunk_plain.specs.Views.{Content, WriterView, ServiceView, newcomer, fresh, taken_of}
use Rattle.chunk_plain.specs.World.{World, Status, Unclaimed, Writing, Ready, Reading, status, writer}
use Rattle.chunk_plain.specs.Steps.{begins, with_words, drafted, completes, notes_call, looks_at, takes_in, learns, lets_go, moved, served, with_writer_view, serviced}
use Rattle.chunk_plain.specs.Owned.{times, claims_of}
use Rattle.chunk_plain.specs.Drafts.{MayFollow, draft_at, head_at, published, ends_by, IsHolding}
use Rattle.chunk_plain.specs.Stored.{Stored, stored_at}
use Rattle.chunk_plain.specs.Shows.{claim_of, content_of, page_word}
use Rattle.chunk_plain.specs.Plain.{IsLent, StandsWhole, world_after, read_as, IsKept}
use Rattle.chunk_plain.specs.Words.{WasHad}
use Rattle.chunk_plain.proofs.Kept.{claim_kept, claim_seen, claim_bit_free}
use Rattle.chunk_plain.proofs.KeptWriter.{claimed_by, is_chunk, body_of_claimed, stamp_kept, begin_kept, lent_inside, body_kept, held_status, held_chunk, held_slot, header_kept, publish_kept, complete_kept, call_kept}
use Rattle.chunk_plain.proofs.KeptService.{serviced_kept, look_kept, take_kept, learn_kept, reading_of, read_chunk, release_kept}

words_set : IsSet (List ℕ)
words_set = hlevel (ℕ_set, list_set)

-- the claim bit at the chunk's spot
pub bit_set : (setup : Setup) (chunk found : ℕ) (at : Spot) → at ≡ spot setup chunk → IsClaimed found at.place → bit_at found (32 + (spot setup chunk).place) ≡ 1
bit_set setup chunk found at at_is claimed = subst (λ (s : Spot). bit_at found (32 + s.place) ≡ 1) at_is claimed

pub bit_clear : (setup : Setup) (chunk found : ℕ) (at : Spot) → at ≡ spot setup chunk → (IsClaimed found at.place → ⊥) → bit_at found (32 + (spot setup chunk).place) ≡ 0
bit_clear setup chunk found at at_is clear =
    subst (λ (s : Spot). bit_at found (32 + s.place) ≡ 0) at_is (zero_or_one (bit_at found (32 + at.place)) (bit_at-lt found (32 + at.place)) clear)
  where
    zero_or_one : (b : ℕ) → b < 2 → (b ≡ 1 → ⊥) → b ≡ 0
    zero_or_one b low apart = omega arith

-- a body is there where some body is known to be
pub is_some_by : (there : Option CommitBody) → ∥ ((body : CommitBody) × (there ≡ Some body)) ∥₁ → IsSome there
is_some_by (Some body) known = refl
is_some_by None known = ∥∥₁_elim known (Bool-set _ _) (λ e. absurd (let same = e.1 in cc))

pub some_there : (there : Option CommitBody) → IsSome there → (body : CommitBody) × (there ≡ Some body)
some_there (Some body) is = (body, refl)
some_there None is = absurd cc

-- what holds of a body that is there
pub some_is : (P : CommitBody → Type 0) (there : Option CommitBody) (body : CommitBody) → there ≡ Some body → IfSome there P → P body
some_is P (Some other) body is holds = subst P (let same : other ≡ body = cc in same) holds
some_is P None body is holds = absurd cc

module _ (setup : Setup) (words : List ℕ) (slots : List Stored) (world : World) (kept : ∥ IsKept setup words slots world ∥₁) where
  pub seat_inside : (place : ℕ) → place < length setup.writers → place < length world.writers
  seat_inside place inside = ∥∥₁_elim kept (hlevel le_prop) (λ k. let many = k.writers in omega arith)

  pub chunks_inside : length world.chunks ≡ length setup.spots
  chunks_inside = ∥∥₁_elim kept (ℕ_set _ _) (λ k. k.shown.chunk_count)

  pub claimed_inside : (place chunk : ℕ) → 0 < times chunk (writer world place).claimed → chunk < length setup.spots
  claimed_inside place chunk mine = ∥∥₁_elim kept (hlevel le_prop) (λ k. let was = claimed_by world place chunk k.owned mine in is_chunk setup world chunk k.shown.chunk_count (λ free. absurd cc))

  pub stamped_inside : (place chunk position : ℕ) → (writer world place).stamped ≡ Some (record { chunk = chunk; position = position }) → chunk < length setup.spots
  stamped_inside place chunk position stamped = ∥∥₁_elim kept (hlevel le_prop) (λ k. let was = (k.owned.owns place chunk).stamp_is position stamped in is_chunk setup world chunk k.shown.chunk_count (λ free. absurd cc))

  pub held_inside : (place chunk position : ℕ) → IsHolding (writer world place) chunk position → chunk < length setup.spots
  held_inside place chunk position holding = ∥∥₁_elim kept (hlevel le_prop) (λ k. held_chunk setup words slots world place chunk position k holding)

  pub out_inside : (chunk : ℕ) → ∥ IsLent (status world chunk) ∥₁ → chunk < length setup.spots
  out_inside chunk lent = ∥∥₁_elim kept (hlevel le_prop) (λ k. ∥∥₁_elim lent (hlevel le_prop) (λ l. lent_inside setup words slots world chunk k l))

  pub read_inside : (chunk : ℕ) → 0 < times chunk world.service.reading → chunk < length setup.spots
  read_inside chunk reading = ∥∥₁_elim kept (hlevel le_prop) (λ k. read_chunk setup words slots world chunk k reading)

  pub claimed_body : (place chunk : ℕ) → 0 < times chunk (writer world place).claimed → IsSome (stored_at slots chunk).body
  claimed_body place chunk mine = is_some_by (stored_at slots chunk).body (∥∥₁_map kept (λ k. let b = body_of_claimed setup words slots world place chunk k mine in (b.0, b.1)))

  pub claimed_size : (place chunk : ℕ) (body : CommitBody) → 0 < times chunk (writer world place).claimed → (stored_at slots chunk).body ≡ Some body → vec_len body.payload ≡ (spot setup chunk).payload_size
  claimed_size place chunk body mine is = ∥∥₁_elim kept (ℕ_set _ _) (λ k. let b = body_of_claimed setup words slots world place chunk k mine in
      let some_same : Some b.0 ≡ Some body = sym b.1 ∙ is in let same : b.0 ≡ body = cc in subst (λ (x : CommitBody). vec_len x.payload ≡ (spot setup chunk).payload_size) same b.2.whole)

  -- a chunk that a writer holds, or that the service reads, may have its body with a token
  pub held_lent : (place chunk position : ℕ) → IsHolding (writer world place) chunk position → ∥ IsLent (status world chunk) ∥₁
  held_lent place chunk position holding = ∥∥₁_map kept (λ k. subst IsLent (sym (held_status setup words slots world place chunk position k holding)) tt)

  pub read_lent : (chunk : ℕ) → 0 < times chunk world.service.reading → ∥ IsLent (status world chunk) ∥₁
  read_lent chunk reading = ∥∥₁_map kept (λ k. subst IsLent (sym (reading_of world chunk k.owned reading).3) tt)

  -- the slot of a chunk has room for its payload
  pub room : (chunk : ℕ) → chunk < length setup.spots → (spot setup chunk).payload_size ≤ 8 * length (stored_at slots chunk).words
  room chunk inside = ∥∥₁_elim kept (hlevel le_prop) (λ k. (k.shown.slot chunk inside).room)

  -- the words of a held chunk are the draft's
  pub draft_here : (place chunk position : ℕ) → IsHolding (writer world place) chunk position → (stored_at slots chunk).words ≡ (draft_at (writer world place) position).words
  draft_here place chunk position holding = ∥∥₁_elim kept (words_set _ _) (λ k. (held_slot setup words slots world place chunk position k holding).words.0)

  -- ---- claim

  pub claim_vain : (next : World) (place chunk found : ℕ) (at : Spot) → at ≡ spot setup chunk → IsLaid setup → place < length setup.writers → chunk < length setup.spots
      → IsChunkOf setup (producer_of setup place) chunk
      → found ≡ get_or words at.page 0 → IsClaimed found at.place → next ≡ world_after world (Claim place chunk found false) → ∥ IsKept setup words slots next ∥₁
  claim_vain next place chunk found at at_is laid inside_w inside_c of is claimed next_is =
      ∥∥₁_map kept (λ k. subst (IsKept setup words slots) (sym next_is)
      (claim_seen setup words slots world place chunk found laid k inside_w inside_c of (is ∙ ap (λ (s : Spot). get_or words s.page 0) at_is) (subst (λ (s : Spot). IsClaimed found s.place) at_is claimed)))

  pub claim_step : (next : World) (place chunk found new : ℕ) (claimed : Bool) (at : Spot) → at ≡ spot setup chunk → IsLaid setup → place < length setup.writers → chunk < length setup.spots
      → IsChunkOf setup (producer_of setup place) chunk
      → found ≡ get_or words at.page 0 → Claims found new at.place at.layout → KeepsOthers found new at.place → (IsTrue claimed ↔ IsClaimed found at.place)
      → next ≡ world_after world (Claim place chunk found (not claimed)) → ∥ IsKept setup (set words at.page new) slots next ∥₁
  claim_step next place chunk found new claimed at at_is laid inside_w inside_c of is step keeps tells next_is =
      subst (λ w. ∥ IsKept setup (set words at.page new) slots w ∥₁) (sym next_is)
      (∥∥₁_map kept (λ k. claim_kept setup words slots world place chunk found new claimed at at_is laid k inside_w inside_c of is step keeps tells))

  pub claim_free : (chunk found : ℕ) (at : Spot) → at ≡ spot setup chunk → chunk < length setup.spots → found ≡ get_or words at.page 0 → (IsClaimed found at.place → ⊥) → ∥ status world chunk ≡ Unclaimed ∥₁
  claim_free chunk found at at_is inside is clear =
      ∥∥₁_map kept (λ k. subst (λ (s : Spot). found ≡ get_or words s.page 0 → (IsClaimed found s.place → ⊥) → status world chunk ≡ Unclaimed) (sym at_is)
      (λ read free. claim_bit_free found (spot setup chunk).place (status world chunk) (ap (λ w. bit_at w (32 + (spot setup chunk).place)) read ∙ (k.shown.page chunk inside).claim) free) is clear)

  -- a chunk that was free is claimed by nobody
  pub claim_fresh : (place chunk : ℕ) → ∥ status world chunk ≡ Unclaimed ∥₁ → times chunk (writer world place).claimed ≡ 0
  claim_fresh place chunk free = ∥∥₁_elim kept (ℕ_set _ _) (λ k. ∥∥₁_elim free (ℕ_set _ _) (λ f.
      (k.owned.owns place chunk).claimed ∙ ap (λ t. claims_of place t) f))

  -- the page word that a claim found has the claim bit set, so the chunk isn't free
  pub claim_taken : (chunk found : ℕ) (at : Spot) → at ≡ spot setup chunk → chunk < length setup.spots → found ≡ get_or words at.page 0 → IsClaimed found at.place → status world chunk ≡ Unclaimed → ⊥
  claim_taken chunk found at at_is inside is claimed free =
      ∥∥₁_elim kept (λ x y. absurd x) (λ k.
      let shown : bit_at (page_word setup words chunk) (32 + (spot setup chunk).place) ≡ claim_of (status world chunk) = (k.shown.page chunk inside).claim in
      let none : claim_of (status world chunk) ≡ 0 = ap claim_of free in
      let same : bit_at found (32 + at.place) ≡ bit_at (page_word setup words chunk) (32 + (spot setup chunk).place) =
      ap (λ w. bit_at w (32 + at.place)) (is ∙ ap (λ (s : Spot). get_or words s.page 0) at_is) ∙ ap (λ (s : Spot). bit_at (page_word setup words chunk) (32 + s.place)) at_is in
      let one : bit_at found (32 + at.place) ≡ 1 = claimed in
      omega arith)

  -- ---- begin

  pub stamp_step : (next : World) (place chunk id index header : ℕ) → index ≡ setup.pages + chunk → IsLaid setup → place < length setup.writers → place + 1 < 2 ^ 16
      → 0 < times chunk (writer world place).claimed → (writer world place).stamped ≡ None → id ≡ id_at setup place (length (writer world place).begun) → length (writer world place).begun < 2 ^ 32 - 1
      → header ≡ packed (record { chunk_id = id; writer_id = place + 1; count = 0; flags = 0 })
      → next ≡ world_after world (Stamp place chunk) → ∥ IsKept setup (set words index header) slots next ∥₁
  stamp_step next place chunk id index header index_is laid inside_w number_fits mine unstamped id_is few header_is next_is =
      subst (λ w. ∥ IsKept setup (set words index header) slots w ∥₁) (sym next_is)
      (subst (λ i. ∥ IsKept setup (set words i header) slots (world_after world (Stamp place chunk)) ∥₁) (sym index_is)
      (∥∥₁_map kept (λ k. stamp_kept setup words slots world place chunk header laid k inside_w (claimed_inside place chunk mine) mine unstamped
      record {
        word_is = header_is ∙ ap (λ (i : ℕ). packed (record { chunk_id = i; writer_id = place + 1; count = 0; flags = 0 })) id_is;
        position_fits = omega (arith, few);
        writer_fits = number_fits;
        count_fits = omega arith;
        flags_fit = omega arith;
      })))

  pub begin_step : (next : World) (place chunk found new : ℕ) (at : Spot) → at ≡ spot setup chunk → IsLaid setup → place < length setup.writers
      → (writer world place).stamped ≡ Some (record { chunk = chunk; position = length (writer world place).begun })
      → found ≡ get_or words at.page 0
      → (HasState found at.place state.Free → SetsState found new at.place state.BeingWritten) → KeepsOthers found new at.place
      → next ≡ moved world place (begins (writer world place) chunk (stored_at slots chunk).words) chunk (Writing place (length (writer world place).begun) (fresh (stored_at slots chunk).words))
      → ∥ IsKept setup (set words at.page new) slots next ∥₁
  begin_step next place chunk found new at at_is laid inside_w stamped is sets keeps next_is =
      subst (λ w. ∥ IsKept setup (set words at.page new) slots w ∥₁) (sym next_is)
      (subst (λ (s : Spot). found ≡ get_or words s.page 0 → (HasState found s.place state.Free → SetsState found new s.place state.BeingWritten) → KeepsOthers found new s.place
      → ∥ IsKept setup (set words s.page new) slots (moved world place (begins (writer world place) chunk (stored_at slots chunk).words) chunk (Writing place (length (writer world place).begun) (fresh (stored_at slots chunk).words))) ∥₁) (sym at_is)
      (λ read steps others. ∥∥₁_map kept (λ k. begin_kept setup words slots world place chunk new laid k inside_w (stamped_inside place chunk (length (writer world place).begun) stamped) stamped
      (subst (λ w. HasState w (spot setup chunk).place state.Free → SetsState w new (spot setup chunk).place state.BeingWritten) read steps)
      (subst (λ w. KeepsOthers w new (spot setup chunk).place) read others)))
      is sets keeps)

  -- ---- a body goes out or comes back

  pub body_step : (slots' : List Stored) (chunk : ℕ) (body : Option CommitBody) → IsLaid setup → ∥ IsLent (status world chunk) ∥₁
      → slots' ≡ set slots chunk (record (stored_at slots chunk) { body = body }) → ∥ IsKept setup words slots' world ∥₁
  body_step slots' chunk body laid lent is =
      subst (λ l. ∥ IsKept setup words l world ∥₁) (sym is)
      (∥∥₁_elim lent squash₁ (λ out. ∥∥₁_map kept (λ k. body_kept setup words slots world chunk body laid k out)))

  -- ---- set_header and publish

  pub header_step : (next : World) (place chunk position index header count flags : ℕ) → index ≡ setup.pages + chunk → IsLaid setup → place < length setup.writers → place + 1 < 2 ^ 16
      → IsHolding (writer world place) chunk position → position < 2 ^ 32 → count < 2 ^ 10 → flags < 2 ^ 6
      → header ≡ packed (record { chunk_id = id_at setup place position; writer_id = place + 1; count = count; flags = flags })
      → MayFollow (head_at (writer world place) position) (record { count = count; flags = flags })
      → HasFragments (published (writer world place) position) (ends_by (writer world place) position count)
      → sealed_to (ends_by (writer world place) position count) ≤ (spot setup chunk).payload_size
      → next ≡ world_after world (SetHeader place chunk position count flags) → ∥ IsKept setup (set words index header) slots next ∥₁
  header_step next place chunk position index header count flags index_is laid inside_w number_fits holding position_fits count_fits flags_fit header_is follows reads inside next_is =
      subst (λ w. ∥ IsKept setup (set words index header) slots w ∥₁) (sym next_is)
      (subst (λ i. ∥ IsKept setup (set words i header) slots (world_after world (SetHeader place chunk position count flags)) ∥₁) (sym index_is)
      (∥∥₁_map kept (λ k. header_kept setup words slots world place chunk position header (record { count = count; flags = flags }) laid k inside_w holding
      record { word_is = header_is; position_fits = position_fits; writer_fits = number_fits; count_fits = count_fits; flags_fit = flags_fit } follows reads inside)))

  pub words_step : (next : World) (slots' : List Stored) (place chunk position : ℕ) (stored : List ℕ) → IsLaid setup → place < length setup.writers
      → IsHolding (writer world place) chunk position → length stored ≡ length (stored_at slots chunk).words
      → ((j : ℕ) → j < sealed_to (draft_at (writer world place) position).ends → byte_at stored j ≡ byte_at (draft_at (writer world place) position).words j)
      → slots' ≡ set slots chunk (record (stored_at slots chunk) { words = stored })
      → next ≡ drafted world place chunk position (with_words (draft_at (writer world place) position) stored) → ∥ IsKept setup words slots' next ∥₁
  words_step next slots' place chunk position stored laid inside_w holding many same is next_is =
      subst (λ w. ∥ IsKept setup words slots' w ∥₁) (sym next_is)
      (subst (λ l. ∥ IsKept setup words l (drafted world place chunk position (with_words (draft_at (writer world place) position) stored)) ∥₁) (sym is)
      (∥∥₁_map kept (λ k. publish_kept setup words slots world place chunk position stored laid k inside_w holding many same)))

  -- ---- complete

  pub complete_step : (next : World) (place chunk position found new : ℕ) (body : CommitBody) (at : Spot) → at ≡ spot setup chunk → IsLaid setup → place < length setup.writers
      → IsHolding (writer world place) chunk position → (stored_at slots chunk).body ≡ Some body
      → StandsWhole (spot setup chunk).payload_size (writer world place) position body
      → found ≡ get_or words at.page 0
      → (HasState found at.place state.BeingWritten → SetsState found new at.place state.Complete) → KeepsOthers found new at.place
      → next ≡ moved world place (completes (writer world place) chunk position (content_of (from_of setup place) place position (head_at (writer world place) position) body)) chunk (Ready place position (content_of (from_of setup place) place position (head_at (writer world place) position) body))
      → ∥ IsKept setup (set words at.page new) slots next ∥₁
  complete_step next place chunk position found new body at at_is laid inside_w holding there whole is sets keeps next_is =
      subst (λ w. ∥ IsKept setup (set words at.page new) slots w ∥₁) (sym next_is)
      (subst (λ (s : Spot). found ≡ get_or words s.page 0 → (HasState found s.place state.BeingWritten → SetsState found new s.place state.Complete) → KeepsOthers found new s.place
      → ∥ IsKept setup (set words s.page new) slots (moved world place (completes (writer world place) chunk position (content_of (from_of setup place) place position (head_at (writer world place) position) body)) chunk (Ready place position (content_of (from_of setup place) place position (head_at (writer world place) position) body))) ∥₁) (sym at_is)
      (λ read steps others. ∥∥₁_map kept (λ k. complete_kept setup words slots world place chunk position new body laid k inside_w holding there whole
      (subst (λ w. HasState w (spot setup chunk).place state.BeingWritten → SetsState w new (spot setup chunk).place state.Complete) read steps)
      (subst (λ w. KeepsOthers w new (spot setup chunk).place) read others)))
      is sets keeps)

  -- ---- notes and looks

  pub call_step : (next : World) (place : ℕ) (noted_call : call.Call) → place < length setup.writers → next ≡ with_writer_view world place (notes_call (writer world place) noted_call) → ∥ IsKept setup words slots next ∥₁
  call_step next place noted_call inside next_is =
      subst (λ w. ∥ IsKept setup words slots w ∥₁) (sym next_is) (∥∥₁_map kept (λ k. call_kept setup words slots world place noted_call k inside))

  pub service_step : (next : World) (service : ServiceView) → service.looks ≡ world.service.looks → service.taken ≡ world.service.taken → service.reading ≡ world.service.reading
      → next ≡ serviced world service → ∥ IsKept setup words slots next ∥₁
  service_step next service looks taken reading next_is =
      subst (λ w. ∥ IsKept setup words slots w ∥₁) (sym next_is) (∥∥₁_map kept (λ k. serviced_kept setup words slots world service k looks taken reading))

  pub look_step : (next : World) (chunk word : ℕ) (header : ChunkHeader) → next ≡ world_after world (Look chunk word header) → ∥ IsKept setup words slots next ∥₁
  look_step next chunk word header next_is =
      subst (λ w. ∥ IsKept setup words slots w ∥₁) (sym next_is) (∥∥₁_map kept (λ k. look_kept setup words slots world chunk word (packed header) k))

  -- the view of the seat after a step that changes it alone
  pub view_now : (next : World) (place : ℕ) (view : WriterView) → place < length setup.writers → next.writers ≡ set world.writers place view → writer next place ≡ view
  view_now next place view inside is = ap (λ l. get_or l place newcomer) is ∙ get_or-set_same world.writers place view newcomer (seat_inside place inside)

  -- a step that changes one writer's view, told with the view that the seat has then
  pub told_noted : (next : World) (place : ℕ) (view : WriterView) → place < length setup.writers → next ≡ with_writer_view world place view → next ≡ with_writer_view world place (writer next place)
  told_noted next place view inside is = is ∙ ap (λ v. with_writer_view world place v) (sym (view_now next place view inside (ap (λ (w : World). w.writers) is)))

  pub told_moved : (next : World) (place chunk : ℕ) (view : WriterView) (to : Status) → place < length setup.writers → next ≡ moved world place view chunk to → next ≡ moved world place (writer next place) chunk to
  told_moved next place chunk view to inside is = is ∙ ap (λ v. moved world place v chunk to) (sym (view_now next place view inside (ap (λ (w : World). w.writers) is)))

  -- somebody has a chunk whose claim is in vain
  pub claim_had : (next : World) (place chunk found : ℕ) (at : Spot) → at ≡ spot setup chunk → IsLaid setup → place < length setup.writers → chunk < length setup.spots
      → IsChunkOf setup (producer_of setup place) chunk
      → found ≡ get_or words at.page 0 → IsClaimed found at.place → next ≡ world_after world (Claim place chunk found false) → ∥ WasHad setup place chunk (writer next place) ∥₁
  claim_had next place chunk found at at_is laid inside_w inside_c of is claimed next_is =
      ∥∥₁_map (claim_vain next place chunk found at at_is laid inside_w inside_c of is claimed next_is) (λ k. record {
        world = next;
        may_be = record { writers = k.writers; chunks = k.shown.chunk_count; owned = k.owned; own = k.own };
        view_is = refl;
        had = λ free. claim_taken chunk found at at_is inside_c is claimed (ap (λ (w : World). status w chunk) (sym next_is) ∙ free);
      })

  -- ---- take

  pub take_step : (next : World) (place chunk word new : ℕ) (header : ChunkHeader) → IsLaid setup → place < length setup.writers → chunk < length setup.spots
      → word ≡ page_word setup words chunk
      → ∥ ((content : Content) × (status world chunk ≡ Ready place (taken_of world.service place).count content)) ∥₁
      → (HasState word (spot setup chunk).place state.Complete → SetsState word new (spot setup chunk).place state.BeingRead) → KeepsOthers word new (spot setup chunk).place
      → next ≡ world_after world (Take place chunk word header)
      → ∥ IsKept setup (set words (spot setup chunk).page new) slots next ∥₁
  take_step next place chunk word new header laid inside_w inside_c word_is ready sets keeps next_is =
      ∥∥₁_elim ready squash₁ (λ r. ∥∥₁_map kept (λ k.
      subst (λ w. IsKept setup (set words (spot setup chunk).page new) slots w) (sym next_is)
      (subst (λ t. IsKept setup (set words (spot setup chunk).page new) slots (served world (takes_in (looks_at world.service chunk word (packed header) None) place chunk) chunk t)) (sym (ap read_as r.1))
      (take_kept setup words slots world place chunk word (packed header) new r.0 laid k inside_w inside_c r.1
      (subst (λ w. HasState w (spot setup chunk).place state.Complete → SetsState w new (spot setup chunk).place state.BeingRead) word_is sets)
      (subst (λ w. KeepsOthers w new (spot setup chunk).place) word_is keeps)))))

  pub learn_step : (next : World) (place chunk : ℕ) (header : ChunkHeader) (body : CommitBody) → place < length setup.writers
      → (taken_of world.service place).count ≡ length (taken_of world.service place).contents + 1
      → ∥ status world chunk ≡ Reading place (length (taken_of world.service place).contents) (content_of (from_of setup place) place (length (taken_of world.service place).contents) (record { count = header.count; flags = header.flags }) body) ∥₁
      → next ≡ serviced world (learns world.service place (content_of (from_of setup place) place (length (taken_of world.service place).contents) (record { count = header.count; flags = header.flags }) body))
      → ∥ IsKept setup words slots next ∥₁
  learn_step next place chunk header body inside last reading next_is =
      subst (λ w. ∥ IsKept setup words slots w ∥₁) (sym next_is)
      (∥∥₁_elim reading squash₁ (λ r. ∥∥₁_map kept (λ k. learn_kept setup words slots world place chunk (content_of (from_of setup place) place (length (taken_of world.service place).contents) (record { count = header.count; flags = header.flags }) body) k inside last r)))

  -- ---- release

  pub free_step : (next : World) (chunk found new : ℕ) (body : CommitBody) (at : Spot) → at ≡ spot setup chunk → IsLaid setup → 0 < times chunk world.service.reading
      → (stored_at slots chunk).body ≡ Some body → vec_len body.payload ≡ (spot setup chunk).payload_size
      → found ≡ get_or words at.page 0
      → (HasState found at.place state.BeingRead → Releases found new at.place) → KeepsOthers found new at.place
      → next ≡ served world (lets_go world.service chunk) chunk Unclaimed → ∥ IsKept setup (set words at.page new) slots next ∥₁
  free_step next chunk found new body at at_is laid reading there size is sets keeps next_is =
      subst (λ w. ∥ IsKept setup (set words at.page new) slots w ∥₁) (sym next_is)
      (subst (λ (s : Spot). found ≡ get_or words s.page 0 → (HasState found s.place state.BeingRead → Releases found new s.place) → KeepsOthers found new s.place
      → ∥ IsKept setup (set words s.page new) slots (served world (lets_go world.service chunk) chunk Unclaimed) ∥₁) (sym at_is)
      (λ read steps others. ∥∥₁_map kept (λ k. release_kept setup words slots world chunk new body laid k reading there record { whole = size }
      (subst (λ w. HasState w (spot setup chunk).place state.BeingRead → Releases w new (spot setup chunk).place) read steps)
      (subst (λ w. KeepsOthers w new (spot setup chunk).place) read others)))
      is sets keeps)
