-- Each step of the service of the table of one thread keeps what the table keeps.
use Rattle.std.proofs.Common.{◌≡◌, ℕ, ◌+◌, ◌^◌, ◌<◌, ◌≤◌, Some, None, List, length, set, subst, sym, refl, ap, ◌∙◌, arith, length-set, lt_of_not-le}
use Rattle.std.proofs.lemmas.List.{get_or-set_same, get_or-set_other}
use native.Mathlib.Decide.{dec_le}
use mathlib.Core.Logic.{dite}
use Rattle.page_geometry.specs.Header.{unpacked}
use Rattle.page_geometry.proofs.HeaderLemmas.{unpacked-packed}
use Rattle.page_geometry.specs.PageBits.{HasState, SetsState, Releases, KeepsOthers}
use Rattle.page_geometry.specs.declared.chunk_header.ChunkHeader.{ChunkHeader}
use Rattle.page_geometry.specs.declared.chunk_state.ChunkState.TheVariants as state
use Rattle.commit_body.specs.declared.body.CommitBody.{CommitBody}
use Rattle.chunk_plain.specs.Setup.{Setup, spot, IsLaid, sequence_of, from_of, id_at}
use Rattle.chunk_plain.specs.Payload.{byte_at, byte_in, first_bytes, sealed_to}
use Rattle.chunk_plain.specs.Views.{At, Head, Draft, Content, Held, Completed, Found, ServiceView, taken_of}
use Rattle.chunk_plain.specs.World.{World, Status, Unclaimed, Claimed, Stamped, Writing, Ready, Reading, status, writer}
use Rattle.chunk_plain.specs.Steps.{takes_in, learns, lets_go, looks_at, served, serviced}
use Rattle.chunk_plain.specs.Owned.{times, reads_of, IsOwned}
use Rattle.chunk_plain.specs.Drafts.{IsFound, IsThere, head_of}
use Rattle.chunk_plain.specs.Stored.{Stored, stored_at}
use Rattle.chunk_plain.specs.Shows.{ShowsPage, ShowsHeader, ShowsSlot, HoldsPayload, IsHeader, IsFreeBody, IsBodyOf, page_word, header_word}
use Rattle.chunk_plain.specs.Plain.{found_in, IsKept}
use Rattle.chunk_plain.proofs.Lists.{at_one}
use Rattle.chunk_plain.proofs.Owned.{serviced_owned, looks_owned}
use Rattle.chunk_plain.proofs.ServiceSteps.{takes_owned, learns_owned, lets_go_owned}
use Rattle.chunk_plain.proofs.Sealing.{reads_same, length-first_bytes, first_byte}
use Rattle.chunk_plain.proofs.States.{ready_status}
use Rattle.chunk_plain.proofs.PageSteps.{sets_page, releases_page}
use Rattle.chunk_plain.proofs.Shown.{shown_page_only}
use Rattle.chunk_plain.proofs.KeptWriter.{is_chunk}
use Rattle.trace_base.proofs.IdLemmas.{id_below, same_position}

-- ---- look, note and note_commit

-- a step that changes the service's view alone
pub serviced_shown : (setup : Setup) (words : List ℕ) (slots : List Stored) (world : World) (service : ServiceView) → IsKept setup words slots world
    → IsOwned (serviced world service) → IsKept setup words slots (serviced world service)
serviced_shown setup words slots world service kept owned =
    let shown = kept.shown in
    record {
      shown = record {
        chunk_count = shown.chunk_count;
        word_count = shown.word_count;
        slot_count = shown.slot_count;
        page = λ d below. let p = shown.page d below in record { state = p.state; claim = p.claim; layout = p.layout; spare = p.spare };
        header = shown.header;
        slot = shown.slot;
      };
      owned = owned;
      writers = kept.writers;
      own = kept.own;
    }

pub serviced_kept : (setup : Setup) (words : List ℕ) (slots : List Stored) (world : World) (service : ServiceView) → IsKept setup words slots world
    → service.looks ≡ world.service.looks → service.taken ≡ world.service.taken → service.reading ≡ world.service.reading → IsKept setup words slots (serviced world service)
serviced_kept setup words slots world service kept looks taken reading =
    serviced_shown setup words slots world service kept (serviced_owned world service kept.owned looks taken reading)

-- a chunk that is held isn't taken
pub held_untaken : (world : World) (place chunk position : ℕ) (draft : Draft) → IsOwned world → At (writer world place).begun position (Held chunk draft) → (taken_of world.service place).count ≤ position
held_untaken world place chunk position draft owned at =
    dite (dec_le (taken_of world.service place).count position) (λ le. le)
    (λ below. absurd (let r = (owned.counts place).completed position (lt_of_not-le below) in let one = at_one (writer world place).begun (Held chunk draft) (Completed r.0 r.1) position at r.2 in cc))

pub finished : (world : World) (place chunk position : ℕ) (draft : Draft) → IsOwned world → At (writer world place).begun position (Held chunk draft)
    → let n = sealed_to draft.ends in IsFound (record { place = place; position = position; head = draft.head; ends = draft.ends; sealed = first_bytes (byte_at draft.words) n })
finished world place chunk position draft owned at =
    let good = (owned.counts place).drafts position chunk draft at in let n = sealed_to draft.ends in
    record {
      sealed = record {
        count = good.count;
        reads = reads_same (byte_at draft.words) (byte_in (first_bytes (byte_at draft.words) n)) draft.ends (λ j below. sym (first_byte (byte_at draft.words) n j below)) good.reads;
      };
      whole = length-first_bytes (byte_at draft.words) n;
    }

finds_there : (world : World) (chunk : ℕ) (is : Status) → IsOwned world → status world chunk ≡ is → (one : Found) → found_in is ≡ Some one
    → IsFound one × IsThere (writer world one.place) chunk one
finds_there world chunk Unclaimed owned was one e = absurd cc
finds_there world chunk (Claimed place) owned was one e = absurd cc
finds_there world chunk (Stamped place position) owned was one e = absurd cc
finds_there world chunk (Writing place position draft) owned was one e =
    let n = sealed_to draft.ends in
    let found : Found = record { place = place; position = position; head = draft.head; ends = draft.ends; sealed = first_bytes (byte_at draft.words) n } in
    let same : found ≡ one = cc in
    let at = (owned.owns place chunk).writing_is position draft was in
    let many = length-first_bytes (byte_at draft.words) n in
    subst (λ (f : Found). IsFound f × IsThere (writer world f.place) chunk f) same (
      finished world place chunk position draft owned at,
      record {
        entry = Held chunk draft;
        at = at;
        has = (refl, record { count_grows = omega arith; front_stays = λ some. refl }, omega arith, λ j below. sym (first_byte (byte_at draft.words) n j (omega arith)));
      },
    )
finds_there world chunk (Ready place position content) owned was one e = absurd cc
finds_there world chunk (Reading place position content) owned was one e = absurd cc

pub look_kept : (setup : Setup) (words : List ℕ) (slots : List Stored) (world : World) (chunk word header : ℕ) → IsKept setup words slots world
    → IsKept setup words slots (serviced world (looks_at world.service chunk word header (found_in (status world chunk))))
look_kept setup words slots world chunk word header kept =
    serviced_shown setup words slots world (looks_at world.service chunk word header (found_in (status world chunk))) kept
    (looks_owned world chunk word header (found_in (status world chunk)) kept.owned (finds_there world chunk (status world chunk) kept.owned refl))

-- ---- what is found complete

-- a header word gives its fields back
pub header_reads : (setup : Setup) (word place position : ℕ) (head : Head) → IsHeader setup word place position head
    → unpacked word ≡ record { chunk_id = id_at setup place position; writer_id = place + 1; count = head.count; flags = head.flags }
header_reads setup word place position head is =
    ap unpacked is.word_is
    ∙ unpacked-packed (record { chunk_id = id_at setup place position; writer_id = place + 1; count = head.count; flags = head.flags })
    (id_below (from_of setup place) position) is.writer_fits is.count_fits is.flags_fit

-- A chunk that was found complete, with this writer's number in its header and the id of the writer's next position to be taken, is ready at that
-- position, and its payload and body are in the table.
pub record IsReadyAt (setup : Setup) (slots : List Stored) (world : World) (place chunk position : ℕ) (head : Head) : Type 0 where
  pub content : Content
  pub ready : status world chunk ≡ Ready place position content
  pub head_is : head_of content ≡ head
  pub named : (content.image.chunk_id ≡ position) × (content.image.sequence ≡ sequence_of place)
  pub payload : HoldsPayload (spot setup chunk).payload_size (stored_at slots chunk).words content.image.payload
  pub body : CommitBody
  pub kept : (stored_at slots chunk).body ≡ Some body
  pub of_content : IsBodyOf (from_of setup place) (spot setup chunk).payload_size content body

pub found_ready : (setup : Setup) (words : List ℕ) (slots : List Stored) (world : World) (place chunk : ℕ) (header : ChunkHeader)
    → IsKept setup words slots world → chunk < length setup.spots
    → HasState (page_word setup words chunk) (spot setup chunk).place state.Complete
    → header ≡ unpacked (header_word setup words chunk) → header.writer_id ≡ place + 1
    → header.chunk_id ≡ id_at setup place (taken_of world.service place).count
    → IsReadyAt setup slots world place chunk (taken_of world.service place).count (record { count = header.count; flags = header.flags })
found_ready setup words slots world place chunk header kept inside complete is writer_is id_is =
    let page = kept.shown.page chunk inside in
    let ready = ready_status (status world chunk) (page_word setup words chunk) (spot setup chunk).place page.state complete in
    let k = ready.0 in let position = ready.1 in let content = ready.2 in let was = ready.3 in
    let shows : IsHeader setup (header_word setup words chunk) k position (head_of content) = subst (λ t. ShowsHeader setup (header_word setup words chunk) t) was (kept.shown.header chunk inside) in
    let reads : header ≡ record { chunk_id = id_at setup k position; writer_id = k + 1; count = content.image.count; flags = content.image.flags } = is ∙ header_reads setup (header_word setup words chunk) k position (head_of content) shows in
    let same_writer : k ≡ place = let one : header.writer_id ≡ k + 1 = ap (λ (h : ChunkHeader). h.writer_id) reads in omega arith in
    let here : status world chunk ≡ Ready place position content = was ∙ ap (λ p. Ready p position content) same_writer in
    let above : (taken_of world.service place).count ≤ position = ((kept.owned.owns place chunk).ready_is position content here).1 in
    let fits : position < 2 ^ 32 = shows.position_fits in
    let same_id : id_at setup place position ≡ id_at setup place (taken_of world.service place).count =
    ap (λ p. id_at setup p position) (sym same_writer) ∙ (sym (ap (λ (h : ChunkHeader). h.chunk_id) reads) ∙ id_is) in
    let count_is : position ≡ (taken_of world.service place).count =
    same_position (from_of setup place) position (taken_of world.service place).count fits (omega (arith, above, fits)) same_id in
    let was' : status world chunk ≡ Ready place (taken_of world.service place).count content = here ∙ ap (λ i. Ready place i content) count_is in
    let slot : ShowsSlot setup (spot setup chunk).payload_size (Ready place (taken_of world.service place).count content) (stored_at slots chunk) = subst (λ t. ShowsSlot setup (spot setup chunk).payload_size t (stored_at slots chunk)) was' (kept.shown.slot chunk inside) in
    record {
      content = content;
      ready = was';
      head_is = sym (ap (λ (h : ChunkHeader). let head : Head = record { count = h.count; flags = h.flags } in head) reads);
      named = (kept.owned.counts place).named (taken_of world.service place).count chunk content ((kept.owned.owns place chunk).ready_is (taken_of world.service place).count content was').0;
      payload = slot.words;
      body = slot.body.0;
      kept = slot.body.1;
      of_content = slot.body.2;
    }

-- ---- take: the state, then the note

pub take_kept : (setup : Setup) (words : List ℕ) (slots : List Stored) (world : World) (place chunk word header new : ℕ) (content : Content)
    → IsLaid setup → IsKept setup words slots world → place < length setup.writers → chunk < length setup.spots
    → status world chunk ≡ Ready place (taken_of world.service place).count content
    → (HasState (page_word setup words chunk) (spot setup chunk).place state.Complete → SetsState (page_word setup words chunk) new (spot setup chunk).place state.BeingRead)
    → KeepsOthers (page_word setup words chunk) new (spot setup chunk).place
    → IsKept setup (set words (spot setup chunk).page new) slots
    (served world (takes_in (looks_at world.service chunk word header None) place chunk) chunk (Reading place (taken_of world.service place).count content))
take_kept setup words slots world place chunk word header new content laid kept inside_w inside_c ready sets keeps =
    let shown = kept.shown in let at = spot setup chunk in
    let count = (taken_of world.service place).count in let is = Reading place count content in
    let w_inside : place < length world.writers = let many = kept.writers in omega arith in
    let c_inside : chunk < length world.chunks = let many = shown.chunk_count in omega arith in
    let looked = serviced world (looks_at world.service chunk word header None) in
    let next = served world (takes_in (looks_at world.service chunk word header None) place chunk) chunk is in
    let now : status next chunk ≡ is = get_or-set_same world.chunks chunk is Unclaimed c_inside in
    let page : ShowsPage setup world at (page_word setup words chunk) (Ready place count content) = subst (λ t. ShowsPage setup world at (page_word setup words chunk) t) ready (shown.page chunk inside_c) in
    let shows : IsHeader setup (header_word setup words chunk) place count (head_of content) = subst (λ t. ShowsHeader setup (header_word setup words chunk) t) ready (shown.header chunk inside_c) in
    let slot : ShowsSlot setup at.payload_size (Ready place count content) (stored_at slots chunk) = subst (λ t. ShowsSlot setup at.payload_size t (stored_at slots chunk)) ready (shown.slot chunk inside_c) in
    record {
      shown = shown_page_only setup words slots world next chunk new laid shown inside_c (length-set world.chunks chunk is)
          (λ other differs. get_or-set_other world.chunks chunk other is Unclaimed differs) (λ number _ never. never)
          keeps
          (subst (λ t. ShowsPage setup next at new t) (sym now) (sets_page setup world next at (page_word setup words chunk) new (Ready place count content) is (laid.place chunk inside_c) (laid.chunks chunk inside_c) (sets page.state) refl (λ never. never) page))
          (subst (λ t. ShowsHeader setup (header_word setup words chunk) t) (sym now) shows)
          (subst (λ t. ShowsSlot setup at.payload_size t (stored_at slots chunk)) (sym now) (record { room = slot.room; words = slot.words; body = tt }));
      owned = takes_owned looked place chunk content (looks_owned world chunk word header None kept.owned (λ one e. absurd cc)) w_inside c_inside ready;
      writers = kept.writers;
      own = kept.own;
    }

pub learn_kept : (setup : Setup) (words : List ℕ) (slots : List Stored) (world : World) (place chunk : ℕ) (content : Content)
    → IsKept setup words slots world → place < length setup.writers
    → (taken_of world.service place).count ≡ length (taken_of world.service place).contents + 1
    → status world chunk ≡ Reading place (length (taken_of world.service place).contents) content
    → IsKept setup words slots (serviced world (learns world.service place content))
learn_kept setup words slots world place chunk content kept inside last reading =
    let w_inside : place < length world.writers = let many = kept.writers in omega arith in
    serviced_shown setup words slots world (learns world.service place content) kept
    (learns_owned world place chunk content kept.owned w_inside (omega arith) ((kept.owned.owns place chunk).reading_is (length (taken_of world.service place).contents) content reading).0)

-- ---- release

reading_by : (is : Status) → 0 < reads_of is → (k : ℕ) × (position : ℕ) × (content : Content) × (is ≡ Reading k position content)
reading_by Unclaimed has = absurd (omega arith)
reading_by (Claimed k) has = absurd (omega arith)
reading_by (Stamped k i) has = absurd (omega arith)
reading_by (Writing k i h) has = absurd (omega arith)
reading_by (Ready k i m) has = absurd (omega arith)
reading_by (Reading k i m) has = (k, i, m, refl)

-- a chunk that the service reads
pub reading_of : (world : World) (chunk : ℕ) → IsOwned world → 0 < times chunk world.service.reading → (k : ℕ) × (position : ℕ) × (content : Content) × (status world chunk ≡ Reading k position content)
reading_of world chunk owned reading = reading_by (status world chunk) (subst (λ n. 0 < n) (owned.reads chunk) reading)

pub read_chunk : (setup : Setup) (words : List ℕ) (slots : List Stored) (world : World) (chunk : ℕ) → IsKept setup words slots world → 0 < times chunk world.service.reading → chunk < length setup.spots
read_chunk setup words slots world chunk kept reading =
    let was = (reading_of world chunk kept.owned reading).3 in is_chunk setup world chunk kept.shown.chunk_count (λ free. absurd cc)

pub release_kept : (setup : Setup) (words : List ℕ) (slots : List Stored) (world : World) (chunk new : ℕ) (body : CommitBody)
    → IsLaid setup → IsKept setup words slots world
    → 0 < times chunk world.service.reading → (stored_at slots chunk).body ≡ Some body → IsFreeBody (spot setup chunk).payload_size body
    → (HasState (page_word setup words chunk) (spot setup chunk).place state.BeingRead → Releases (page_word setup words chunk) new (spot setup chunk).place)
    → KeepsOthers (page_word setup words chunk) new (spot setup chunk).place
    → IsKept setup (set words (spot setup chunk).page new) slots (served world (lets_go world.service chunk) chunk Unclaimed)
release_kept setup words slots world chunk new body laid kept reading there free sets keeps =
    let shown = kept.shown in let at = spot setup chunk in
    let was = reading_of world chunk kept.owned reading in
    let inside_c = read_chunk setup words slots world chunk kept reading in
    let is = Reading was.0 was.1 was.2 in
    let c_inside : chunk < length world.chunks = let many = shown.chunk_count in omega arith in
    let next = served world (lets_go world.service chunk) chunk Unclaimed in
    let now : status next chunk ≡ Unclaimed = get_or-set_same world.chunks chunk Unclaimed Unclaimed c_inside in
    let page : ShowsPage setup world at (page_word setup words chunk) is = subst (λ t. ShowsPage setup world at (page_word setup words chunk) t) was.3 (shown.page chunk inside_c) in
    let slot = shown.slot chunk inside_c in
    record {
      shown = shown_page_only setup words slots world next chunk new laid shown inside_c (length-set world.chunks chunk Unclaimed)
          (λ other differs. get_or-set_other world.chunks chunk other Unclaimed Unclaimed differs) (λ number _ never. never)
          keeps
          (subst (λ t. ShowsPage setup next at new t) (sym now) (releases_page setup world next at (page_word setup words chunk) new is (laid.place chunk inside_c) (laid.chunks chunk inside_c) (sets page.state) (λ never. never) page))
          (subst (λ t. ShowsHeader setup (header_word setup words chunk) t) (sym now) tt)
          (subst (λ t. ShowsSlot setup at.payload_size t (stored_at slots chunk)) (sym now) (record { room = slot.room; words = tt; body = (body, there, free) }));
      owned = lets_go_owned world chunk was.0 was.1 was.2 kept.owned c_inside was.3;
      writers = kept.writers;
      own = kept.own;
    }
