-- Each other step of a writer of the table of one thread keeps what the table keeps.
use Rattle.std.proofs.Common.{◌≡◌, ℕ, zero, suc, ◌+◌, ◌-◌, ◌<◌, ◌≤◌, Option, Some, None, List, [], ◌∷◌, ◌++◌, length, set, get_or, subst, sym, refl, ap, ◌∙◌, arith, length-set}
use Rattle.std.proofs.lemmas.List.{get_or-set_same, get_or-set_other}
use Rattle.trace_model.specs.Calls as call
use Rattle.page_geometry.specs.PageBits.{HasState, SetsState, KeepsOthers}
use Rattle.page_geometry.specs.declared.chunk_state.ChunkState.TheVariants as state
use Rattle.commit_body.specs.declared.body.CommitBody.{CommitBody}
use Rattle.chunk_plain.specs.Setup.{Setup, spot, IsLaid, from_of}
use Rattle.chunk_plain.specs.Payload.{byte_at, sealed_to, HasFragments}
use Rattle.chunk_plain.specs.Views.{Head, no_head, fresh, Letters, WriterView}
use Rattle.chunk_plain.specs.World.{World, Status, Unclaimed, Claimed, Stamped, Writing, Ready, Reading, status, writer}
use Rattle.chunk_plain.specs.Steps.{stamps, begins, redrafts, with_head, with_words, completes, notes_call, drafted, moved, with_writer_view}
use Rattle.chunk_plain.specs.Owned.{times, IsOwned}
use Rattle.chunk_plain.specs.Drafts.{MayFollow, draft_at, head_at, published, ends_by, IsHolding}
use Rattle.chunk_plain.specs.Stored.{Stored, stored_at}
use Rattle.chunk_plain.specs.Shows.{state_of, claim_of, NeverAsked, ShowsPage, ShowsHeader, ShowsSlot, IsHeader, IsFreeBody, content_of, page_word, header_word}
use Rattle.chunk_plain.specs.Plain.{IsLent, StandsWhole, IsKept}
use Rattle.chunk_plain.proofs.Owned.{claimed_status}
use Rattle.chunk_plain.proofs.WriterSteps.{stamps_owned, begins_owned, notes_owned}
use Rattle.chunk_plain.proofs.EntrySteps.{heads_owned, stores_owned, completes_owned}
use Rattle.chunk_plain.proofs.PageSteps.{sets_page, same_page}
use Rattle.chunk_plain.proofs.Sealing.{length-ends_from}
use Rattle.chunk_plain.proofs.Shown.{shown_page_only, shown_header, shown_slot}
use Rattle.chunk_plain.proofs.Kept.{never_same, own_same}

-- a chunk that a writer's view has as claimed is claimed by it
pub claimed_by : (world : World) (place chunk : ℕ) → IsOwned world → 0 < times chunk (writer world place).claimed → status world chunk ≡ Claimed place
claimed_by world place chunk owned mine = claimed_status place (status world chunk) (subst (λ n. 0 < n) ((owned.owns place chunk).claimed) mine)

below : (chunks : List Status) (i : ℕ) → (get_or chunks i Unclaimed ≡ Unclaimed → ⊥) → i < length chunks
below [] i taken = absurd (taken refl)
below (x ∷ xs) zero taken = omega arith
below (x ∷ xs) (suc i) taken = let tail = below xs i taken in omega arith

-- a chunk that somebody has is one of the table's
pub is_chunk : (setup : Setup) (world : World) (chunk : ℕ) → length world.chunks ≡ length setup.spots → (status world chunk ≡ Unclaimed → ⊥) → chunk < length setup.spots
is_chunk setup world chunk same taken = subst (λ n. chunk < n) same (below world.chunks chunk taken)

-- the body of a claimed chunk is in the table
pub body_of_claimed : (setup : Setup) (words : List ℕ) (slots : List Stored) (world : World) (place chunk : ℕ) → IsKept setup words slots world
    → 0 < times chunk (writer world place).claimed → (body : CommitBody) × ((stored_at slots chunk).body ≡ Some body) × IsFreeBody (spot setup chunk).payload_size body
body_of_claimed setup words slots world place chunk kept mine =
    let was = claimed_by world place chunk kept.owned mine in
    let inside : chunk < length setup.spots = is_chunk setup world chunk kept.shown.chunk_count (λ free. absurd cc) in
    let slot : ShowsSlot setup (spot setup chunk).payload_size (Claimed place) (stored_at slots chunk) = subst (λ t. ShowsSlot setup (spot setup chunk).payload_size t (stored_at slots chunk)) was (kept.shown.slot chunk inside) in
    slot.body

-- ---- the two steps of begin

pub stamp_kept : (setup : Setup) (words : List ℕ) (slots : List Stored) (world : World) (place chunk header : ℕ)
    → IsLaid setup → IsKept setup words slots world → place < length setup.writers → chunk < length setup.spots
    → 0 < times chunk (writer world place).claimed → (writer world place).stamped ≡ None
    → IsHeader setup header place (length (writer world place).begun) no_head
    → IsKept setup (set words (setup.pages + chunk) header) slots (moved world place (stamps (writer world place) chunk) chunk (Stamped place (length (writer world place).begun)))
stamp_kept setup words slots world place chunk header laid kept inside_w inside_c mine unstamped is_header =
    let shown = kept.shown in let at = spot setup chunk in let v = writer world place in
    let was : status world chunk ≡ Claimed place = claimed_by world place chunk kept.owned mine in
    let w_inside : place < length world.writers = let many = kept.writers in omega arith in
    let c_inside : chunk < length world.chunks = let many = shown.chunk_count in omega arith in
    let is = Stamped place (length v.begun) in let view = stamps v chunk in
    let next = moved world place view chunk is in
    let now : status next chunk ≡ is = get_or-set_same world.chunks chunk is Unclaimed c_inside in
    let never : (number : ℕ) → NeverAsked setup world number → NeverAsked setup next number = never_same setup world place view next.chunks world.service w_inside refl in
    let slot : ShowsSlot setup at.payload_size (Claimed place) (stored_at slots chunk) = subst (λ t. ShowsSlot setup at.payload_size t (stored_at slots chunk)) was (shown.slot chunk inside_c) in
    record {
      shown = shown_header setup words slots world next chunk header laid shown inside_c (length-set world.chunks chunk is)
          (λ other differs. get_or-set_other world.chunks chunk other is Unclaimed differs) (λ number _. never number)
          (subst (λ t. ShowsPage setup next at (page_word setup words chunk) t) (sym now) (same_page setup world next at (page_word setup words chunk) (status world chunk) is (sym (ap state_of was)) (sym (ap claim_of was)) (never at.page) (shown.page chunk inside_c)))
          (subst (λ t. ShowsHeader setup header t) (sym now) is_header)
          (subst (λ t. ShowsSlot setup at.payload_size t (stored_at slots chunk)) (sym now) (record { room = slot.room; words = tt; body = slot.body }));
      owned = stamps_owned world place chunk kept.owned w_inside c_inside mine unstamped;
      writers = length-set world.writers place view ∙ kept.writers;
      own = own_same setup world.writers place view w_inside refl kept.own;
    }

pub begin_kept : (setup : Setup) (words : List ℕ) (slots : List Stored) (world : World) (place chunk new : ℕ)
    → IsLaid setup → IsKept setup words slots world → place < length setup.writers → chunk < length setup.spots
    → (writer world place).stamped ≡ Some (record { chunk = chunk; position = length (writer world place).begun })
    → (HasState (page_word setup words chunk) (spot setup chunk).place state.Free → SetsState (page_word setup words chunk) new (spot setup chunk).place state.BeingWritten)
    → KeepsOthers (page_word setup words chunk) new (spot setup chunk).place
    → IsKept setup (set words (spot setup chunk).page new) slots
    (moved world place (begins (writer world place) chunk (stored_at slots chunk).words) chunk (Writing place (length (writer world place).begun) (fresh (stored_at slots chunk).words)))
begin_kept setup words slots world place chunk new laid kept inside_w inside_c stamped sets keeps =
    let shown = kept.shown in let at = spot setup chunk in let v = writer world place in let n = length v.begun in
    let payload = (stored_at slots chunk).words in
    let was : status world chunk ≡ Stamped place n = (kept.owned.owns place chunk).stamp_is n stamped in
    let w_inside : place < length world.writers = let many = kept.writers in omega arith in
    let c_inside : chunk < length world.chunks = let many = shown.chunk_count in omega arith in
    let is = Writing place n (fresh payload) in let view = begins v chunk payload in
    let next = moved world place view chunk is in
    let now : status next chunk ≡ is = get_or-set_same world.chunks chunk is Unclaimed c_inside in
    let never : (number : ℕ) → NeverAsked setup world number → NeverAsked setup next number = never_same setup world place view next.chunks world.service w_inside refl in
    let page : ShowsPage setup world at (page_word setup words chunk) (Stamped place n) = subst (λ t. ShowsPage setup world at (page_word setup words chunk) t) was (shown.page chunk inside_c) in
    let header : IsHeader setup (header_word setup words chunk) place n no_head = subst (λ t. ShowsHeader setup (header_word setup words chunk) t) was (shown.header chunk inside_c) in
    let slot : ShowsSlot setup at.payload_size (Stamped place n) (stored_at slots chunk) = subst (λ t. ShowsSlot setup at.payload_size t (stored_at slots chunk)) was (shown.slot chunk inside_c) in
    record {
      shown = shown_page_only setup words slots world next chunk new laid shown inside_c (length-set world.chunks chunk is)
          (λ other differs. get_or-set_other world.chunks chunk other is Unclaimed differs) (λ number _. never number)
          keeps
          (subst (λ t. ShowsPage setup next at new t) (sym now) (sets_page setup world next at (page_word setup words chunk) new (Stamped place n) is (laid.place chunk inside_c) (laid.chunks chunk inside_c) (sets page.state) refl (never at.page) page))
          (subst (λ t. ShowsHeader setup (header_word setup words chunk) t) (sym now) header)
          (subst (λ t. ShowsSlot setup at.payload_size t (stored_at slots chunk)) (sym now) (record { room = slot.room; words = (refl, omega arith); body = tt }));
      owned = begins_owned world place chunk payload kept.owned w_inside c_inside stamped;
      writers = length-set world.writers place view ∙ kept.writers;
      own = own_same setup world.writers place view w_inside refl kept.own;
    }

-- ---- a body that goes out or comes back

lent_slot : (setup : Setup) (size : ℕ) (is : Status) (slot : Stored) (body : Option CommitBody) → IsLent is → ShowsSlot setup size is slot → ShowsSlot setup size is (record slot { body = body })
lent_slot setup size Unclaimed slot body lent was = absurd lent
lent_slot setup size (Claimed place) slot body lent was = absurd lent
lent_slot setup size (Stamped place position) slot body lent was = absurd lent
lent_slot setup size (Writing place position draft) slot body lent was = record { room = was.room; words = was.words; body = tt }
lent_slot setup size (Ready place position content) slot body lent was = absurd lent
lent_slot setup size (Reading place position content) slot body lent was = record { room = was.room; words = was.words; body = tt }

lent_chunk : (is : Status) → IsLent is → is ≡ Unclaimed → ⊥
lent_chunk Unclaimed lent free = lent
lent_chunk (Claimed place) lent free = absurd cc
lent_chunk (Stamped place position) lent free = absurd cc
lent_chunk (Writing place position draft) lent free = absurd cc
lent_chunk (Ready place position content) lent free = absurd cc
lent_chunk (Reading place position content) lent free = absurd cc

pub lent_inside : (setup : Setup) (words : List ℕ) (slots : List Stored) (world : World) (chunk : ℕ) → IsKept setup words slots world → IsLent (status world chunk) → chunk < length setup.spots
lent_inside setup words slots world chunk kept lent = is_chunk setup world chunk kept.shown.chunk_count (lent_chunk (status world chunk) lent)

pub body_kept : (setup : Setup) (words : List ℕ) (slots : List Stored) (world : World) (chunk : ℕ) (body : Option CommitBody)
    → IsLaid setup → IsKept setup words slots world → IsLent (status world chunk)
    → IsKept setup words (set slots chunk (record (stored_at slots chunk) { body = body })) world
body_kept setup words slots world chunk body laid kept lent =
    let shown = kept.shown in let at = spot setup chunk in
    let inside = lent_inside setup words slots world chunk kept lent in
    record {
      shown = shown_slot setup words slots world world chunk (record (stored_at slots chunk) { body = body }) laid shown inside refl (λ other differs. refl) (λ number _ never. never)
          (shown.page chunk inside) (shown.header chunk inside) (lent_slot setup at.payload_size (status world chunk) (stored_at slots chunk) body lent (shown.slot chunk inside));
      owned = kept.owned;
      writers = kept.writers;
      own = kept.own;
    }

-- ---- set_header and publish

-- a chunk that a writer holds is being written by it
pub held_status : (setup : Setup) (words : List ℕ) (slots : List Stored) (world : World) (place chunk position : ℕ) → IsKept setup words slots world → IsHolding (writer world place) chunk position
    → status world chunk ≡ Writing place position (draft_at (writer world place) position)
held_status setup words slots world place chunk position kept holding = (kept.owned.owns place chunk).held_is position (draft_at (writer world place) position) holding

-- and one of the table's
pub held_chunk : (setup : Setup) (words : List ℕ) (slots : List Stored) (world : World) (place chunk position : ℕ) → IsKept setup words slots world → IsHolding (writer world place) chunk position → chunk < length setup.spots
held_chunk setup words slots world place chunk position kept holding =
    let was = held_status setup words slots world place chunk position kept holding in is_chunk setup world chunk kept.shown.chunk_count (λ free. absurd cc)

-- its slot
pub held_slot : (setup : Setup) (words : List ℕ) (slots : List Stored) (world : World) (place chunk position : ℕ) → IsKept setup words slots world → IsHolding (writer world place) chunk position
    → ShowsSlot setup (spot setup chunk).payload_size (Writing place position (draft_at (writer world place) position)) (stored_at slots chunk)
held_slot setup words slots world place chunk position kept holding =
    subst (λ t. ShowsSlot setup (spot setup chunk).payload_size t (stored_at slots chunk)) (held_status setup words slots world place chunk position kept holding)
    (kept.shown.slot chunk (held_chunk setup words slots world place chunk position kept holding))

pub header_kept : (setup : Setup) (words : List ℕ) (slots : List Stored) (world : World) (place chunk position header : ℕ) (head : Head)
    → IsLaid setup → IsKept setup words slots world → place < length setup.writers
    → IsHolding (writer world place) chunk position → IsHeader setup header place position head
    → MayFollow (head_at (writer world place) position) head
    → HasFragments (published (writer world place) position) (ends_by (writer world place) position head.count)
    → sealed_to (ends_by (writer world place) position head.count) ≤ (spot setup chunk).payload_size
    → IsKept setup (set words (setup.pages + chunk) header) slots
    (moved world place (redrafts (writer world place) chunk position (with_head (draft_at (writer world place) position) head (ends_by (writer world place) position head.count))) chunk
    (Writing place position (with_head (draft_at (writer world place) position) head (ends_by (writer world place) position head.count))))
header_kept setup words slots world place chunk position header head laid kept inside_w holding is_header follows reads inside =
    let shown = kept.shown in let at = spot setup chunk in let v = writer world place in
    let old = draft_at v position in let ends = ends_by v position head.count in let draft = with_head old head ends in let is = Writing place position draft in
    let was = held_status setup words slots world place chunk position kept holding in
    let inside_c = held_chunk setup words slots world place chunk position kept holding in
    let slot = held_slot setup words slots world place chunk position kept holding in
    let w_inside : place < length world.writers = let many = kept.writers in omega arith in
    let c_inside : chunk < length world.chunks = let many = shown.chunk_count in omega arith in
    let view = redrafts v chunk position draft in
    let next = moved world place view chunk is in
    let now : status next chunk ≡ is = get_or-set_same world.chunks chunk is Unclaimed c_inside in
    let never : (number : ℕ) → NeverAsked setup world number → NeverAsked setup next number = never_same setup world place view next.chunks world.service w_inside refl in
    record {
      shown = shown_header setup words slots world next chunk header laid shown inside_c (length-set world.chunks chunk is)
          (λ other differs. get_or-set_other world.chunks chunk other is Unclaimed differs) (λ number _. never number)
          (subst (λ t. ShowsPage setup next at (page_word setup words chunk) t) (sym now) (same_page setup world next at (page_word setup words chunk) (status world chunk) is (sym (ap state_of was)) (sym (ap claim_of was)) (never at.page) (shown.page chunk inside_c)))
          (subst (λ t. ShowsHeader setup header t) (sym now) is_header)
          (subst (λ t. ShowsSlot setup at.payload_size t (stored_at slots chunk)) (sym now) (record { room = slot.room; words = (slot.words.0, inside); body = tt }));
      owned = heads_owned world place chunk position old head ends kept.owned w_inside c_inside holding follows (record { count = length-ends_from (published v position) 0 (head.count - 1); reads = reads });
      writers = length-set world.writers place view ∙ kept.writers;
      own = own_same setup world.writers place view w_inside refl kept.own;
    }

pub publish_kept : (setup : Setup) (words : List ℕ) (slots : List Stored) (world : World) (place chunk position : ℕ) (stored : List ℕ)
    → IsLaid setup → IsKept setup words slots world → place < length setup.writers
    → IsHolding (writer world place) chunk position → length stored ≡ length (stored_at slots chunk).words
    → ((j : ℕ) → j < sealed_to (draft_at (writer world place) position).ends → byte_at stored j ≡ byte_at (draft_at (writer world place) position).words j)
    → IsKept setup words (set slots chunk (record (stored_at slots chunk) { words = stored }))
    (drafted world place chunk position (with_words (draft_at (writer world place) position) stored))
publish_kept setup words slots world place chunk position stored laid kept inside_w holding many same =
    let shown = kept.shown in let at = spot setup chunk in let v = writer world place in
    let old = draft_at v position in let draft = with_words old stored in let is = Writing place position draft in
    let was = held_status setup words slots world place chunk position kept holding in
    let inside_c = held_chunk setup words slots world place chunk position kept holding in
    let slot = held_slot setup words slots world place chunk position kept holding in
    let w_inside : place < length world.writers = let many = kept.writers in omega arith in
    let c_inside : chunk < length world.chunks = let many = shown.chunk_count in omega arith in
    let view = redrafts v chunk position draft in
    let next = moved world place view chunk is in
    let now : status next chunk ≡ is = get_or-set_same world.chunks chunk is Unclaimed c_inside in
    let never : (number : ℕ) → NeverAsked setup world number → NeverAsked setup next number = never_same setup world place view next.chunks world.service w_inside refl in
    let header : IsHeader setup (header_word setup words chunk) place position old.head = subst (λ t. ShowsHeader setup (header_word setup words chunk) t) was (shown.header chunk inside_c) in
    record {
      shown = shown_slot setup words slots world next chunk (record (stored_at slots chunk) { words = stored }) laid shown inside_c (length-set world.chunks chunk is)
          (λ other differs. get_or-set_other world.chunks chunk other is Unclaimed differs) (λ number _. never number)
          (subst (λ t. ShowsPage setup next at (page_word setup words chunk) t) (sym now) (same_page setup world next at (page_word setup words chunk) (status world chunk) is (sym (ap state_of was)) (sym (ap claim_of was)) (never at.page) (shown.page chunk inside_c)))
          (subst (λ t. ShowsHeader setup (header_word setup words chunk) t) (sym now) header)
          (subst (λ t. ShowsSlot setup at.payload_size t (record (stored_at slots chunk) { words = stored })) (sym now)
          (record { room = let room = slot.room in omega (arith, many); words = (refl, slot.words.1); body = tt }));
      owned = stores_owned world place chunk position old stored kept.owned w_inside c_inside holding same;
      writers = length-set world.writers place view ∙ kept.writers;
      own = own_same setup world.writers place view w_inside refl kept.own;
    }

-- ---- complete

pub complete_kept : (setup : Setup) (words : List ℕ) (slots : List Stored) (world : World) (place chunk position new : ℕ) (body : CommitBody)
    → IsLaid setup → IsKept setup words slots world → place < length setup.writers
    → IsHolding (writer world place) chunk position → (stored_at slots chunk).body ≡ Some body
    → StandsWhole (spot setup chunk).payload_size (writer world place) position body
    → (HasState (page_word setup words chunk) (spot setup chunk).place state.BeingWritten → SetsState (page_word setup words chunk) new (spot setup chunk).place state.Complete)
    → KeepsOthers (page_word setup words chunk) new (spot setup chunk).place
    → IsKept setup (set words (spot setup chunk).page new) slots
    (moved world place (completes (writer world place) chunk position (content_of (from_of setup place) place position (head_at (writer world place) position) body)) chunk (Ready place position (content_of (from_of setup place) place position (head_at (writer world place) position) body)))
complete_kept setup words slots world place chunk position new body laid kept inside_w holding there whole sets keeps =
    let shown = kept.shown in let at = spot setup chunk in let v = writer world place in
    let old = draft_at v position in let content = content_of (from_of setup place) place position old.head body in let is = Ready place position content in
    let was = held_status setup words slots world place chunk position kept holding in
    let inside_c = held_chunk setup words slots world place chunk position kept holding in
    let slot = held_slot setup words slots world place chunk position kept holding in
    let w_inside : place < length world.writers = let many = kept.writers in omega arith in
    let c_inside : chunk < length world.chunks = let many = shown.chunk_count in omega arith in
    let view = completes v chunk position content in
    let next = moved world place view chunk is in
    let now : status next chunk ≡ is = get_or-set_same world.chunks chunk is Unclaimed c_inside in
    let never : (number : ℕ) → NeverAsked setup world number → NeverAsked setup next number = never_same setup world place view next.chunks world.service w_inside refl in
    let page : ShowsPage setup world at (page_word setup words chunk) (Writing place position old) = subst (λ t. ShowsPage setup world at (page_word setup words chunk) t) was (shown.page chunk inside_c) in
    let header : IsHeader setup (header_word setup words chunk) place position old.head = subst (λ t. ShowsHeader setup (header_word setup words chunk) t) was (shown.header chunk inside_c) in
    let many : length body.payload.items ≡ at.payload_size = let size = whole.size_is in let same = body.payload.ok.0 in omega arith in
    record {
      shown = shown_page_only setup words slots world next chunk new laid shown inside_c (length-set world.chunks chunk is)
          (λ other differs. get_or-set_other world.chunks chunk other is Unclaimed differs) (λ number _. never number)
          keeps
          (subst (λ t. ShowsPage setup next at new t) (sym now) (sets_page setup world next at (page_word setup words chunk) new (Writing place position old) is (laid.place chunk inside_c) (laid.chunks chunk inside_c) (sets page.state) refl (never at.page) page))
          (subst (λ t. ShowsHeader setup (header_word setup words chunk) t) (sym now) header)
          (subst (λ t. ShowsSlot setup at.payload_size t (stored_at slots chunk)) (sym now) (record {
            room = slot.room;
            words = record { whole = many; bytes = λ j less. ap (λ w. byte_at w j) slot.words.0 ∙ whole.published j (omega arith) };
            body = (body, there, record { whole = whole.size_is; patches_are = refl; target_is = refl });
          }));
      owned = completes_owned world place chunk position old content kept.owned w_inside c_inside holding refl refl refl
          (let most = slot.words.1 in omega arith) (λ j less. whole.published j (let most = slot.words.1 in omega arith));
      writers = length-set world.writers place view ∙ kept.writers;
      own = own_same setup world.writers place view w_inside refl kept.own;
    }

-- ---- calls and letters

pub noted_kept : (setup : Setup) (words : List ℕ) (slots : List Stored) (world : World) (place : ℕ) (calls : List call.Call) (letters : Letters)
    → IsKept setup words slots world → place < length setup.writers
    → IsKept setup words slots (with_writer_view world place (record (writer world place) { calls = calls; letters = letters }))
noted_kept setup words slots world place calls letters kept inside_w =
    let shown = kept.shown in let view : WriterView = record (writer world place) { calls = calls; letters = letters } in
    let w_inside : place < length world.writers = let many = kept.writers in omega arith in
    let next = with_writer_view world place view in
    let never : (number : ℕ) → NeverAsked setup world number → NeverAsked setup next number = never_same setup world place view world.chunks world.service w_inside refl in
    record {
      shown = record {
        chunk_count = shown.chunk_count;
        word_count = shown.word_count;
        slot_count = shown.slot_count;
        page = λ d below. same_page setup world next (spot setup d) (page_word setup words d) (status world d) (status world d) refl refl (never (spot setup d).page) (shown.page d below);
        header = shown.header;
        slot = shown.slot;
      };
      owned = notes_owned world place calls letters kept.owned w_inside;
      writers = length-set world.writers place view ∙ kept.writers;
      own = own_same setup world.writers place view w_inside refl kept.own;
    }

pub call_kept : (setup : Setup) (words : List ℕ) (slots : List Stored) (world : World) (place : ℕ) (noted_call : call.Call)
    → IsKept setup words slots world → place < length setup.writers → IsKept setup words slots (with_writer_view world place (notes_call (writer world place) noted_call))
call_kept setup words slots world place noted_call kept inside_w =
    noted_kept setup words slots world place ((writer world place).calls ++ noted_call ∷ []) (writer world place).letters kept inside_w
