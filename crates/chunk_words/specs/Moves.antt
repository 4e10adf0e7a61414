-- What each atomic step tells the seat that makes it.
use Rattle.std.specs.Prelude.{◌≡◌, ℕ, ◌+◌, ◌*◌, ◌/◌, ◌%◌, ◌^◌, ◌<◌, ◌≤◌, ◌==◌, not, true, false, Bool, Option, Some, None, List, [], ◌∷◌, length, vec_len, slice_index_or, IfSome, if◌then◌else◌}
use Rattle.std.specs.Int.{bit_at}
use Rattle.atomic_table.specs.Table.{Me}
use Rattle.trace_model.specs.Calls.{Call}
use Rattle.page_geometry.specs.declared.page_word.TheConstants.{CLAIM_BIT}
use Rattle.page_geometry.specs.declared.chunk_header.ChunkHeader.{ChunkHeader}
use Rattle.page_geometry.specs.declared.chunk_header.TheConstants.{MAX_FLAGS}
use Rattle.page_geometry.specs.declared.chunk_state.ChunkState.TheVariants.{Complete}
use Rattle.page_geometry.specs.Header.{packed, unpacked}
use Rattle.page_geometry.specs.PageBits.{HasState}
use Rattle.trace_base.specs.declared.limits.TheConstants.{MAX_FRAGMENTS}
use Rattle.commit_body.specs.declared.body.CommitBody.{CommitBody}
use Rattle.chunk_plain.specs.Payload.{byte_of, byte_in, sealed_to, StoredUpTo}
use Rattle.chunk_plain.specs.Views.{At, Head, Draft, Content, Found, Look, Noted, Heard, asked_in, ServiceView, taken_of, WriterView}
use Rattle.chunk_plain.specs.World.{World, writer}
use Rattle.chunk_plain.specs.Steps.{claims, stamps, begins, redrafts, with_head, with_word, with_words, completes, notes_call, looks_at, takes_in, learns, lets_go, notes, notes_commit}
use Rattle.chunk_plain.specs.Letters.{AreLetters, knows_request, answers_with, requests, hears_answer}
use Rattle.chunk_plain.specs.Owned.{times, IsOwned}
use Rattle.chunk_plain.specs.Drafts.{draft_at, head_at, ends_by, head_of}
use Rattle.chunk_plain.specs.Shows.{IsBodyOf, content_of}
use Rattle.chunk_plain.specs.Setup.{Setup, spot, sequence_of, from_of, id_at}
use Rattle.chunk_plain.specs.Words.{WasHad, WasSeen, FindsWritten, call_of, event_of, committed_of}
use Rattle.chunk_schedules.specs.Moves.{IsLastOf}
use Rattle.chunk_words.specs.declared.moves.Move.{Move}
use Rattle.chunk_words.specs.declared.moves.Move.TheVariants.{Ask, Claim, Stamp, Begin, SetHeader, Publish, Fetch, Complete as CompleteStep, Call as CallStep, Peek, Find, Know, Miss, Take, Load, Learn, Lift, Release, Event, NoteRead, Recall, Mark, Commit, LearnRequest, Answer, Request, NoteRequest, ReadAnswer, Compare}
use Rattle.chunk_words.specs.GoesOn.{GoesOn}
use Rattle.chunk_words.specs.Told.{ShowsAllTold, TellsComplete, IsMarked}
use Rattle.chunk_words.specs.Knows.{Watch, Nothing, Peeked, Known, Lifted, Here, Tale, Desk, Knows, Service, hand_with, made_of, desk_of, stage_of, staged, with_stage, with_mark, no_content, hand_of, view_of, place_of, service_of, watch_of, by_writer, by_service}

-- what a seat knows and has
abbrev pub Mine : Type 0
Mine = Me (Option CommitBody) Knows

-- the claim bit of the chunk at this place is clear
abbrev pub is_clear : ℕ → ℕ → Bool
is_clear word place = not (bit_at word (CLAIM_BIT + place) == 1)

-- the body in the slot that was taken last
abbrev pub body_in : List (ℕ × Option CommitBody) → Option CommitBody
body_in [] = None
body_in (slot ∷ slots) = slot.1

-- The service's view is its part of some owned world: what follows from that, it may rely on.
abbrev pub IsSeen : ServiceView → Type 0
IsSeen view = ∥ ((world : World) × IsOwned world × (world.service ≡ view)) ∥₁

-- the payload word with this number has the bytes that stand there
abbrev pub IsWordOf : List ℕ → ℕ → ℕ → Type 0
IsWordOf bytes index word = (m : ℕ) → m < 8 → 8 * index + m < length bytes → byte_of word m ≡ byte_in bytes (8 * index + m)

-- What a payload word of a chunk tells: of a chunk that was found being written, what it had finished, as long as its position isn't taken;
-- of one that is being read, its content, which the service watches from then on.
pub record Tells (chunk index size word : ℕ) (before after : Watch) (view : ServiceView) : Type 0 where
  pub found : (n : ℕ) (look : Look) (found : Found) → At view.looks n look → look.chunk ≡ chunk → look.found ≡ Some found
      → (taken_of view found.place).count ≤ found.position → (length found.sealed ≤ size) × IsWordOf found.sealed index word
  pub stays : (place position : ℕ) (content : Content) → before ≡ Lifted chunk place position content → after ≡ before
  pub read : (place position : ℕ) (content : Content) → after ≡ Lifted chunk place position content
      → (length content.image.payload ≡ size) × IsWordOf content.image.payload index word
  pub reading : 0 < times chunk view.reading → ∥ ((place position : ℕ) × (content : Content) × (after ≡ Lifted chunk place position content)
      × (position < (taken_of view place).count) × ((known : Content) → At (taken_of view place).contents position known
      → known ≡ content)) ∥₁

-- a content that was taken: of this writer and at this position, with this header and body
pub record IsTakenWith (from place position size : ℕ) (header : ChunkHeader) (content : Content) (body : CommitBody) : Type 0 where
  pub position_is : content.image.chunk_id ≡ position
  pub sequence_is : content.image.sequence ≡ sequence_of place
  pub head_is : head_of content ≡ record { count = header.count; flags = header.flags }
  pub whole : length content.image.payload ≡ size
  pub body_is : IsBodyOf from size content body

-- What each step tells of what was known and carried before it, the number that it found, and what is known and carried behind it.

-- The page word is found. Where it has the claim bit, that is a claim in vain, of a chunk that somebody has; else nothing is noted of it.
pub record Asks (setup : Setup) (chunk : ℕ) (me : Mine) (found : ℕ) (new : Mine) : Type 0 where
  pub had : is_clear found (spot setup chunk).place ≡ false → WasHad setup (place_of me.0) chunk (view_of new.0)
  pub new_is : new ≡ (
    by_writer 0 (λ view. if is_clear found (spot setup chunk).place then view else claims view chunk found false) me.0,
    [],
  )

-- The claim bit is set. A chunk that was won was none that the writer has claimed already; one that wasn't is one that somebody has.
pub record Claims (setup : Setup) (chunk : ℕ) (me : Mine) (found : ℕ) (new : Mine) : Type 0 where
  pub fresh : is_clear found (spot setup chunk).place ≡ true → times chunk (view_of me.0).claimed ≡ 0
  pub had : is_clear found (spot setup chunk).place ≡ false → WasHad setup (place_of me.0) chunk (view_of new.0)
  pub new_is : new ≡ (by_writer 0 (λ view. claims view chunk found (is_clear found (spot setup chunk).place)) me.0, [])

-- the header is stored, and the slot is out with the writer: its body has room for a payload of this size
pub record Stamps (chunk size : ℕ) (me new : Mine) : Type 0 where
  pub body : CommitBody
  pub whole : vec_len body.payload ≡ size
  pub new_is : new ≡ (by_writer (hand_with chunk) (λ view. stamps view chunk) me.0, (chunk, Some body) ∷ [])

-- the chunk is begun with the payload words that stand in it
pub record Begins (chunk size : ℕ) (me new : Mine) : Type 0 where
  pub words : List ℕ
  pub room : size ≤ 8 * length words
  pub new_is : new ≡ (by_writer 0 (λ view. begins view chunk words) me.0, [])

-- a held chunk has this head
abbrev pub SetsHeader : (chunk position : ℕ) → Head → Mine → Mine → Type 0
SetsHeader chunk position head me new =
    new ≡ (
      by_writer 0 (λ view. redrafts view chunk position (with_head (draft_at view position) head (ends_by view position head.count))) me.0,
      [],
    )

-- the word keeps each byte of the fragments that are finished
abbrev pub KeepsWord : Draft → ℕ → ℕ → Type 0
KeepsWord draft index word = (m : ℕ) → m < 8 → 8 * index + m < sealed_to draft.ends
    → byte_of word m ≡ byte_of (slice_index_or draft.words index 0) m

-- a payload word of a held chunk is stored
pub record Publishes (chunk position index word : ℕ) (me new : Mine) : Type 0 where
  pub inside : index < length (draft_at (view_of me.0) position).words
  pub new_is : new ≡ (by_writer 0 (λ view. redrafts view chunk position (with_word (draft_at view position) index word)) me.0, [])

-- payload words of a held chunk were stored, from one place on up to another one
pub record Stores (chunk position first index : ℕ) (copy : List ℕ) (me new : Mine) : Type 0 where
  pub words : List ℕ
  pub stored : StoredUpTo copy first index (draft_at (view_of me.0) position).words words
  pub new_is : new ≡ (by_writer 0 (λ view. redrafts view chunk position (with_words (draft_at view position) words)) me.0, [])

-- the slot of a held chunk is out with its writer
pub record Fetches (chunk : ℕ) (me new : Mine) : Type 0 where
  pub body : Option CommitBody
  pub new_is : new ≡ (by_writer (hand_with chunk) (λ view. view) me.0, (chunk, body) ∷ [])

-- the slot of a chunk that is read is out with the service
pub record Lifts (setup : Setup) (chunk : ℕ) (me new : Mine) : Type 0 where
  pub inside : chunk < length setup.spots
  pub body : Option CommitBody
  pub new_is : new ≡ (by_service (hand_with chunk) Nothing (λ view. view) me.0, (chunk, body) ∷ [])

-- the chunk is completed, and the slot goes back with this body
abbrev pub Completes : Setup → (chunk position : ℕ) → CommitBody → Mine → Mine → Type 0
Completes setup chunk position body me new =
    let place = place_of me.0 in
    let content = λ (view : WriterView). content_of (from_of setup place) place position (head_at view position) body in
    new ≡ (by_writer 0 (λ view. completes view chunk position (content view)) me.0, [])

-- the writer has noted the call
abbrev pub Notes : Call → Mine → Mine → Type 0
Notes call me new = new ≡ (by_writer 0 (λ view. notes_call view call) me.0, [])

-- The page word is found and watched. In some world with the service's view it shows the chunk; it shows it complete where that was told.
pub record Peeks (setup : Setup) (chunk : ℕ) (me : Mine) (found : ℕ) (new : Mine) : Type 0 where
  pub seen : ∥ WasSeen setup chunk found (service_of me.0) ∥₁
  pub new_is : new ≡ (by_service 0 (Peeked chunk found) (λ view. view) me.0, [])
  pub told : TellsComplete setup chunk found (service_of me.0) (desk_of me.0)

-- the header of a chunk is found whose page word was found
pub record ReadsHeader (chunk word : ℕ) (me : Mine) (found : ℕ) (new : Mine) : Type 0 where
  pub peeked : watch_of me.0 ≡ Peeked chunk word
  pub new_is : new ≡ (by_service 0 (Known chunk word found) (λ view. view) me.0, [])

-- the service's view changes in a known way, and nothing is watched
pub record Serves (step : ServiceView → ServiceView) (me new : Mine) : Type 0 where
  pub new_is : new ≡ (by_service 0 Nothing step me.0, [])
  pub seen : IsSeen (step (service_of me.0))

-- The chunk is looked at. The look has the page word that was found before, and the header word that is found now.
pub record Looks (setup : Setup) (chunk word : ℕ) (me : Mine) (header : ℕ) (new : Mine) : Type 0 where
  pub peeked : watch_of me.0 ≡ Peeked chunk word
  pub found : Option Found
  pub finds : FindsWritten setup chunk word (unpacked header) (service_of me.0) found
  pub serves : Serves (λ view. looks_at view chunk word (packed (unpacked header)) found) me new

-- a look is noted that has the page word and the header word that were found before
pub record Misses (chunk word : ℕ) (header : ChunkHeader) (me new : Mine) : Type 0 where
  pub known : watch_of me.0 ≡ Known chunk word (packed header)
  pub serves : Serves (λ view. looks_at view chunk word (packed header) None) me new

-- A read is noted while the reading pass is with the service: the service's view goes on from the pass's, and both are one behind it.
pub record NotesRead (event : Noted) (me new : Mine) : Type 0 where
  pub goes_on : GoesOn (staged (stage_of me.0)) (service_of me.0)
  pub new_is : new ≡ (
    Service 0 (made_of me.0) (with_stage (desk_of me.0) (Here (notes (service_of me.0) event))) Nothing (notes (service_of me.0) event),
    [],
  )
  pub seen : IsSeen (notes (service_of me.0) event)

-- The writer finds in the word of requests how many were made, which are no fewer than it knew of.
pub record LearnsRequest (me : Mine) (found : ℕ) (new : Mine) : Type 0 where
  pub rises : (view_of me.0).letters.known ≤ found
  pub fits : found < 2 ^ 32
  pub new_is : new ≡ (by_writer 0 (λ view. knows_request view found) me.0, [])

-- it has answered
abbrev pub GivesAnswer : (flush chunks : ℕ) → Mine → Mine → Type 0
GivesAnswer flush chunks me new = new ≡ (by_writer 0 (λ view. answers_with view flush chunks) me.0, [])

-- The service's view is its part of some owned world in which this is the last answer of the writer at this place: 0 and 0 where it gave
-- none.
abbrev pub IsLastAnswer : ServiceView → (place flush chunks : ℕ) → Type 0
IsLastAnswer view place flush chunks =
    ∥ ((world : World) × IsOwned world × AreLetters world × (world.service ≡ view) × IsLastOf (writer world place) flush chunks) ∥₁

-- It is no older answer than any that the service read of this writer before, and the same one as that to the same request.
abbrev pub IsNoOlder : ServiceView → (place flush chunks : ℕ) → Type 0
IsNoOlder view place flush chunks = (n number many : ℕ) → At view.letters n (Heard place number many) → 0 < number
    → (number ≤ flush) × (number ≡ flush → many ≡ chunks)

-- What the service reads as the last answer of the writer at this place: it is to a request that was made, and no older one than the writer
-- told of or than the service read before; or 0 and 0.
pub record IsAnswer (view : ServiceView) (desk : Desk) (place flush chunks : ℕ) : Type 0 where
  pub asked : flush ≤ asked_in view.letters
  pub none : flush ≡ 0 → chunks ≡ 0
  pub last : IsLastAnswer (hears_answer view place flush chunks) place flush chunks
  pub heard : IsNoOlder view place flush chunks
  pub told : (i : ℕ) (tale : Tale) → At desk.told i tale → tale.place ≡ place → tale.flush ≤ flush

-- The service finds the last answer of the writer at this place.
pub record ReadsAnswer (place : ℕ) (me : Mine) (found : ℕ) (new : Mine) : Type 0 where
  pub answer : IsAnswer (service_of me.0) (desk_of me.0) place (found / 2 ^ 32) (found % 2 ^ 32)
  pub fits : found / 2 ^ 32 < 2 ^ 32
  pub serves : Serves (λ view. hears_answer view place (found / 2 ^ 32) (found % 2 ^ 32)) me new

-- A request is noted while the reading pass is with the service, as a read is.
pub record NotesRequest (me new : Mine) : Type 0 where
  pub goes_on : GoesOn (staged (stage_of me.0)) (service_of me.0)
  pub new_is : new ≡ (
    Service 0 (made_of me.0) (with_stage (desk_of me.0) (Here (requests (service_of me.0)))) Nothing (requests (service_of me.0)),
    [],
  )
  pub seen : IsSeen (requests (service_of me.0))

-- nothing changes, and the service's view goes on from that of the reading pass, which is with it
pub record Compares (me new : Mine) : Type 0 where
  pub goes_on : GoesOn (staged (stage_of me.0)) (service_of me.0)
  pub new_is : new ≡ (by_service 0 Nothing (λ view. view) me.0, [])

-- nothing changes, and the looks in the view show what was told
pub record Recalls (setup : Setup) (me new : Mine) : Type 0 where
  pub new_is : new ≡ (by_service 0 Nothing (λ view. view) me.0, [])
  pub shown : ShowsAllTold setup (service_of me.0) (desk_of me.0)

-- the world of the table is marked, and nothing else changes
pub record Marks (setup : Setup) (me new : Mine) : Type 0 where
  pub marked : IsMarked setup (service_of me.0) (desk_of me.0) (desk_of new.0)
  pub new_is : new ≡ (Service 0 (made_of me.0) (with_mark (desk_of me.0) marked.world) Nothing (service_of me.0), [])

-- The service watches the chunk, which it found complete by this page word, as the next one to be taken of the writer at this place.
pub record WatchesNext (setup : Setup) (place chunk word : ℕ) (header : ChunkHeader) (me : Mine) : Type 0 where
  pub complete : HasState word (spot setup chunk).place Complete
  pub watch : watch_of me.0 ≡ Known chunk word (packed header)
  pub fields : unpacked (packed header) ≡ header
  pub writer_is : header.writer_id ≡ place + 1
  pub next : header.chunk_id ≡ id_at setup place (taken_of (service_of me.0) place).count

-- The chunk is taken, whose page word and header were found, as the next one of the writer at this place: the slot is out with the service.
pub record Takes (setup : Setup) (place chunk size word : ℕ) (header : ChunkHeader) (me new : Mine) : Type 0 where
  pub known : watch_of me.0 ≡ Known chunk word (packed header)
  pub content : Content
  pub body : CommitBody
  pub with_header : IsTakenWith (from_of setup place) place (taken_of (service_of me.0) place).count size header content body
  pub new_is : new ≡ (
    by_service (hand_with chunk) (Lifted chunk place (taken_of (service_of me.0) place).count content)
        (λ view. takes_in (looks_at view chunk word (packed header) None) place chunk) me.0,
    (chunk, Some body) ∷ [],
  )

-- a payload word of a chunk is loaded
pub record Loads (chunk index size : ℕ) (me : Mine) (found : ℕ) (new : Mine) : Type 0 where
  pub watch : Watch
  pub tells : Tells chunk index size found (watch_of me.0) watch (service_of me.0)
  pub new_is : new ≡ (by_service (hand_of me.0) watch (λ view. view) me.0, me.1)

-- a chunk is read on, with the content that is watched: its payload words below this one have been loaded
pub record ReadsOn (chunk index size : ℕ) (bytes : List ℕ) (watch : Watch) (view : ServiceView) : Type 0 where
  pub place : ℕ
  pub position : ℕ
  pub content : Content
  pub watches : watch ≡ Lifted chunk place position content
  pub taken : position < (taken_of view place).count
  pub known : (known : Content) → At (taken_of view place).contents position known → known ≡ content
  pub whole : length content.image.payload ≡ size
  pub bytes_are : (j : ℕ) → j < 8 * index → j < size → byte_in bytes j ≡ byte_in content.image.payload j

-- What the payload words of a chunk below this one tell, once they were loaded into these bytes.
pub record LoadsUpTo (chunk index size : ℕ) (bytes : List ℕ) (me new : Mine) : Type 0 where
  pub watch : Watch
  pub new_is : new ≡ (by_service (hand_of me.0) watch (λ view. view) me.0, me.1)
  pub stays : (place position : ℕ) (content : Content) → watch_of me.0 ≡ Lifted chunk place position content → watch ≡ watch_of me.0
  pub found : (n : ℕ) (look : Look) (found : Found) → At (service_of me.0).looks n look → look.chunk ≡ chunk → look.found ≡ Some found
      → (taken_of (service_of me.0) found.place).count ≤ found.position → 0 < index
      → (length found.sealed ≤ size) × ((j : ℕ) → j < 8 * index → j < length found.sealed → byte_in bytes j ≡ byte_in found.sealed j)
  pub reading : 0 < times chunk (service_of me.0).reading → 0 < index → ∥ ReadsOn chunk index size bytes watch (service_of me.0) ∥₁

-- a chunk was found complete, with this writer and id in its header
pub record FindsReady (setup : Setup) (chunk writer id word : ℕ) (header : ChunkHeader) (me new : Mine) : Type 0 where
  pub complete : HasState word (spot setup chunk).place Complete
  pub writer_is : header.writer_id ≡ writer
  pub id_is : header.chunk_id ≡ id
  pub fields : unpacked (packed header) ≡ header
  pub count_fits : header.count ≤ MAX_FRAGMENTS
  pub flags_fit : header.flags ≤ MAX_FLAGS
  pub new_is : new ≡ (by_service 0 (Known chunk word (packed header)) (λ view. view) me.0, [])

-- the content that the service watches
abbrev pub watched : Watch → Content
watched (Lifted chunk place position content) = content
watched _ = no_content

-- what a seat knows behind a move that found this word
abbrev pub After : Move → Mine → ℕ → Mine → Type 0
After (Ask layout chunk) me found new = Asks layout.now chunk me found new
After (Claim layout chunk) me found new = Claims layout.now chunk me found new
After (Stamp chunk payload_size) me found new = Stamps chunk payload_size me new
After (Begin chunk payload_size) me found new = Begins chunk payload_size me new
After (SetHeader chunk position count flags) me found new = SetsHeader chunk position (record { count = count; flags = flags }) me new
After (Publish chunk position index word) me found new = Publishes chunk position index word me new
After (Fetch chunk) me found new = Fetches chunk me new
After (CompleteStep layout chunk position) me found new = IfSome (body_in me.1) (λ body. Completes layout.now chunk position body me new)
After (CallStep call) me found new = Notes (call_of call) me new
After (Peek layout chunk) me found new = Peeks layout.now chunk me found new
After (Find layout chunk word) me found new = Looks layout.now chunk word me found new
After (Know chunk word) me found new = ReadsHeader chunk word me found new
After (Miss chunk word header) me found new = Misses chunk word header me new
After (Take layout place chunk word header payload_size) me found new = Takes layout.now place chunk payload_size word header me new
After (Load chunk index payload_size) me found new = Loads chunk index payload_size me found new
After (Learn place) me found new = Serves (λ view. learns view place (watched (watch_of me.0))) me new
After (Lift layout chunk) me found new = Lifts layout.now chunk me new
After (Release chunk) me found new = Serves (λ view. lets_go view chunk) me new
After (Event event) me found new = Serves (λ view. notes view (event_of event)) me new
After (Recall layout) me found new = Recalls layout.now me new
After (Mark layout) me found new = Marks layout.now me new
After (NoteRead event) me found new = NotesRead (event_of event) me new
After LearnRequest me found new = LearnsRequest me found new
After (Answer flush chunks) me found new = GivesAnswer flush chunks me new
After (Request flush) me found new = Serves (λ view. requests view) me new
After (NoteRequest flush) me found new = NotesRequest me new
After (ReadAnswer place) me found new = ReadsAnswer place me found new
After Compare me found new = Compares me new
After (Commit layout header payload patches) me found new =
    Serves (λ view. notes_commit view (committed_of layout.now header payload.now patches.now)) me new
