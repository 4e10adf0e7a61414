-- The atomic steps that writers and the service make on a table of chunks, as moves of its world. Each is made by one of them and changes
-- that seat's view and one chunk at most. A step that changes no view, as when a page word or a payload word is loaded, is no move.
use Rattle.std.specs.Prelude.{◌≡◌, ℕ, ◌+◌, ◌*◌, ◌^◌, ◌<◌, ◌≤◌, true, false, Option, Some, None, List, [], length, take, slice_index_or}
use Rattle.page_geometry.specs.declared.chunk_state.ChunkState.{ChunkState}
use Rattle.page_geometry.specs.declared.chunk_state.ChunkState.TheVariants.{BeingWritten, Complete}
use Rattle.page_geometry.specs.Header.{packed}
use Rattle.page_geometry.specs.PageBits.{HasState}
use Rattle.trace_model.specs.Calls.{Call}
use Rattle.chunk_plain.specs.Setup.{sequence_of, Setup, spot, producer_of, IsChunkOf, id_at}
use Rattle.chunk_plain.specs.Payload.{byte_of, byte_at, byte_in, sealed_to}
use Rattle.chunk_plain.specs.Views.{At, Head, no_head, Draft, fresh, Content, Completed, WriterView, asked_in, Found, Noted, Commit, Committed, taken_of}
use Rattle.chunk_plain.specs.World.{World, Status, Unclaimed, Claimed, Stamped, Writing, Ready, Reading, status, writer}
use Rattle.chunk_plain.specs.Steps.{claims, stamps, begins, with_head, with_word, completes, notes_call, looks_at, takes_in, learns, lets_go, notes, notes_commit, drafted, moved, served, with_writer_view, serviced}
use Rattle.chunk_plain.specs.Letters.{NoClaimSince, last_reply, last_flush, knows_request, answers_with, requests, hears_answer}
use Rattle.chunk_plain.specs.Owned.{times, held_count}
use Rattle.chunk_plain.specs.Drafts.{MayFollow, IsDraft, IsFound, IsThere, IsHolding, head_of, draft_at, ends_by}
use Rattle.chunk_plain.specs.Histories.{completed_images}
use Rattle.chunk_plain.specs.Plain.{read_as}
use Rattle.chunk_plain.specs.Words.{is_arrival_noted, MayNote}
use Rattle.chunk_plain.specs.declared.tokens.TheConstants.{POSITION_LIMIT}

-- A writer is named by its place, from 0, and its chunks by their positions. The page words and header words that a step found are kept in
-- views. A header word is what the world says of the chunk, where a writer stored it, with the id that the set-up gives the chunk's
-- position; a page word is one of an earlier time, and which of its bits are the chunk's is said by the set-up.
pub data Move : Type 0 where
  -- a writer sets the claim bit of a chunk, and found this page word
  Claims : (place chunk found : ℕ) → Move
  -- it stores the header of a chunk that it claimed, with the id of its next position
  Stamps : (place chunk : ℕ) → Move
  -- it begins this chunk, in which these payload words stand
  Begins : (place chunk : ℕ) → (words : List ℕ) → Move
  -- it stores another header in a chunk that it holds
  SetsHeader : (place chunk position : ℕ) → Head → Move
  -- or a payload word, at this index
  Publishes : (place chunk position index word : ℕ) → Move
  -- it completes the chunk, which has this content
  Completes : (place chunk position : ℕ) → Content → Move
  -- it notes a call
  Calls : (place : ℕ) → Call → Move
  -- the service looks at a chunk, and found this of it
  Looks : (chunk word header : ℕ) → Option Found → Move
  -- it takes a complete chunk of this writer, while it reads no other
  Takes : (place chunk word header : ℕ) → Move
  -- the content of a chunk that it took joins its view
  Learns : (place chunk : ℕ) → Content → Move
  -- it frees a chunk that it read, and whose arrival it noted
  Releases : (chunk : ℕ) → Move
  -- it notes an event; that a chunk arrived, of one that it took
  Notes : Noted → Move
  -- it notes a commit
  Commits : Committed → Move
  -- a writer hears of flush requests, of which so many were made
  HearsOf : (place number : ℕ) → Move
  -- it answers the request with this number and those before it, with so many chunks
  Answers : (place flush chunks : ℕ) → Move
  -- the service makes the next request, while it reads no chunk
  Requests : Move
  -- it reads this answer of a writer, where 0 is the number of none
  ReadsAnswer : (place flush chunks : ℕ) → Move

-- What each move makes of a world

-- a claim wins exactly where nobody has the chunk
abbrev pub claimed_in : World → (place chunk found : ℕ) → Status → World
claimed_in world place chunk found Unclaimed = moved world place (claims (writer world place) chunk found true) chunk (Claimed place)
claimed_in world place chunk found _ = with_writer_view world place (claims (writer world place) chunk found false)

-- the world behind a move
abbrev pub behind : World → Move → World
behind world (Claims place chunk found) = claimed_in world place chunk found (status world chunk)
behind world (Stamps place chunk) =
    moved world place (stamps (writer world place) chunk) chunk (Stamped place (length (writer world place).begun))
behind world (Begins place chunk words) =
    moved world place (begins (writer world place) chunk words) chunk (Writing place (length (writer world place).begun) (fresh words))
behind world (SetsHeader place chunk position head) =
    drafted world place chunk position
    (with_head (draft_at (writer world place) position) head (ends_by (writer world place) position head.count))
behind world (Publishes place chunk position index word) =
    drafted world place chunk position (with_word (draft_at (writer world place) position) index word)
behind world (Completes place chunk position content) =
    moved world place (completes (writer world place) chunk position content) chunk (Ready place position content)
behind world (Calls place call) = with_writer_view world place (notes_call (writer world place) call)
behind world (Looks chunk word header found) = serviced world (looks_at world.service chunk word header found)
behind world (Takes place chunk word header) =
    served world (takes_in (looks_at world.service chunk word header None) place chunk) chunk (read_as (status world chunk))
behind world (Learns place chunk content) = serviced world (learns world.service place content)
behind world (Releases chunk) = served world (lets_go world.service chunk) chunk Unclaimed
behind world (Notes event) = serviced world (notes world.service event)
behind world (Commits committed) = serviced world (notes_commit world.service committed)
behind world (HearsOf place number) = with_writer_view world place (knows_request (writer world place) number)
behind world (Answers place flush chunks) = with_writer_view world place (answers_with (writer world place) flush chunks)
behind world Requests = serviced world (requests world.service)
behind world (ReadsAnswer place flush chunks) = serviced world (hears_answer world.service place flush chunks)

-- Where each move is possible

-- there is such a writer
abbrev pub IsWriter : World → ℕ → Type 0
IsWriter world place = place < length world.writers

-- there is such a chunk
abbrev pub IsChunk : World → ℕ → Type 0
IsChunk world chunk = chunk < length world.chunks

-- a held chunk's header may be followed by this one, and the chunk's bytes read as the fragments that are finished then
pub record MaySetHeader (draft : Draft) (head : Head) (ends : List ℕ) : Type 0 where
  pub follows : MayFollow draft.head head
  pub reads : IsDraft (with_head draft head ends)

-- a payload word keeps each byte of the fragments that are finished
pub record MayPublish (draft : Draft) (index word : ℕ) : Type 0 where
  pub inside : index < length draft.words
  pub kept : (m : ℕ) → m < 8 → 8 * index + m < sealed_to draft.ends → byte_of word m ≡ byte_of (slice_index_or draft.words index 0) m

-- the content is that of a held chunk: its writer's, at its position, with its header and the bytes of its finished fragments
pub record MayComplete (place position : ℕ) (draft : Draft) (content : Content) : Type 0 where
  pub position_is : content.image.chunk_id ≡ position
  pub sequence_is : content.image.sequence ≡ sequence_of place
  pub head_is : head_of content ≡ draft.head
  pub inside : sealed_to draft.ends ≤ length content.image.payload
  pub bytes : (j : ℕ) → j < sealed_to draft.ends → byte_at draft.words j ≡ byte_in content.image.payload j

-- what a look found of a chunk that was begun is there
abbrev pub FindsWhatIsThere : World → (chunk : ℕ) → Option Found → Type 0
FindsWhatIsThere world chunk found = (one : Found) → found ≡ Some one → IsFound one × IsThere (writer world one.place) chunk one

-- the header word that says this of a chunk: whose it is, at which position, and with which head
abbrev pub header_of : Setup → (place position : ℕ) → Head → ℕ
header_of setup place position head =
    packed (record { chunk_id = id_at setup place position; writer_id = place + 1; count = head.count; flags = head.flags })

-- a chunk's header word is the one that its use says; of a chunk for which none was stored it is any
abbrev pub SaysUse : Setup → (header : ℕ) → Status → Type 0
SaysUse setup header (Stamped place position) = header ≡ header_of setup place position no_head
SaysUse setup header (Writing place position draft) = header ≡ header_of setup place position draft.head
SaysUse setup header (Ready place position content) = header ≡ header_of setup place position (head_of content)
SaysUse setup header (Reading place position content) = header ≡ header_of setup place position (head_of content)
SaysUse setup header _ = Unit {0}

-- the page word has the chunk in this state
abbrev pub SaysState : Setup → (chunk word : ℕ) → ChunkState → Type 0
SaysState setup chunk word state = HasState word (spot setup chunk).place state

-- what was found of a chunk is what its header word says; the page word has it as being written; and its position isn't taken
pub record FindsWritten (setup : Setup) (world : World) (chunk word header : ℕ) (one : Found) : Type 0 where
  pub header_is : header ≡ header_of setup one.place one.position one.head
  pub written : SaysState setup chunk word BeingWritten
  pub untaken : (taken_of world.service one.place).count ≤ one.position

-- a look has the chunk's header word, and what it found of the chunk, if anything, is there and is what that says
pub record MayLook (setup : Setup) (world : World) (chunk word header : ℕ) (found : Option Found) : Type 0 where
  pub there : FindsWhatIsThere world chunk found
  pub used : SaysUse setup header (status world chunk)
  pub says : (one : Found) → found ≡ Some one → FindsWritten setup world chunk word header one

-- the chunk is complete, and the next one of this writer to be taken
abbrev pub IsNext : World → (place chunk : ℕ) → Type 0
IsNext world place chunk = (content : Content) × (status world chunk ≡ Ready place (taken_of world.service place).count content)

-- the content is that of the first chunk which was taken of this writer and whose content isn't in the view yet
pub record MayLearn (world : World) (place chunk : ℕ) (content : Content) : Type 0 where
  pub taken : length (taken_of world.service place).contents < (taken_of world.service place).count
  pub completed : At (writer world place).begun (length (taken_of world.service place).contents) (Completed chunk content)

-- the service is reading the chunk, and its arrival is noted
pub record MayRelease (world : World) (chunk : ℕ) : Type 0 where
  pub place : ℕ
  pub position : ℕ
  pub content : Content
  pub reading : status world chunk ≡ Reading place position content
  pub arrived : is_arrival_noted (sequence_of place) position world.service.events ≡ true

-- a commit is noted with its image, and else an event alone
abbrev pub IsPlainNote : Noted → Type 0
IsPlainNote (Commit place) = ⊥
IsPlainNote _ = Unit {0}

-- so many requests were made at least, and the writer knew of no more
pub record MayHear (world : World) (place number : ℕ) : Type 0 where
  pub rises : (writer world place).letters.known ≤ number
  pub made : number ≤ asked_in world.service.letters

-- The writer knows of the request and hasn't answered it or a later one. It has completed as many chunks, and they are the first ones that it
-- began: none of these is held. Since its last claim it has noted a call, as the flush before an answer is.
pub record MayAnswer (view : WriterView) (flush chunks : ℕ) : Type 0 where
  pub known : flush ≡ view.letters.known
  pub newer : last_flush view.letters.answers < flush
  pub completed : chunks ≡ length (completed_images view.begun)
  pub none_held : held_count (take chunks view.begun) ≡ 0
  pub no_claim : NoClaimSince view
  pub small : chunks < 2 ^ 32

-- it is the last answer of the writer
pub record IsLastOf (view : WriterView) (flush chunks : ℕ) : Type 0 where
  pub flush_is : flush ≡ last_flush view.letters.answers
  pub chunks_is : chunks ≡ (last_reply view.letters.answers).chunks

-- Whether a move is possible in a world: the table's words allow it, and the seat that makes it has what it is about.
abbrev pub MayMove : Setup → World → Move → Type 0
MayMove setup world (Claims place chunk found) =
    IsWriter world place × IsChunk world chunk × IsChunkOf setup (producer_of setup place) chunk
MayMove setup world (Stamps place chunk) =
    IsWriter world place × IsChunk world chunk × (0 < times chunk (writer world place).claimed) × ((writer world place).stamped ≡ None)
    × (length (writer world place).begun < POSITION_LIMIT)
MayMove setup world (Begins place chunk words) =
    IsWriter world place × IsChunk world chunk
    × ((writer world place).stamped ≡ Some (record { chunk = chunk; position = length (writer world place).begun }))
MayMove setup world (SetsHeader place chunk position head) =
    IsWriter world place × IsChunk world chunk × IsHolding (writer world place) chunk position
    × MaySetHeader (draft_at (writer world place) position) head (ends_by (writer world place) position head.count)
MayMove setup world (Publishes place chunk position index word) =
    IsWriter world place × IsChunk world chunk × IsHolding (writer world place) chunk position
    × MayPublish (draft_at (writer world place) position) index word
MayMove setup world (Completes place chunk position content) =
    IsWriter world place × IsChunk world chunk × IsHolding (writer world place) chunk position
    × MayComplete place position (draft_at (writer world place) position) content
MayMove setup world (Calls place call) = IsWriter world place
MayMove setup world (Looks chunk word header found) = MayLook setup world chunk word header found
MayMove setup world (Takes place chunk word header) =
    IsWriter world place × IsChunk world chunk × IsNext world place chunk × SaysUse setup header (status world chunk)
    × SaysState setup chunk word Complete × (world.service.reading ≡ [])
MayMove setup world (Learns place chunk content) = IsWriter world place × MayLearn world place chunk content
MayMove setup world (Releases chunk) = IsChunk world chunk × MayRelease world chunk
MayMove setup world (Notes event) = IsPlainNote event × MayNote world.service event
MayMove setup world (Commits committed) = Unit {0}
MayMove setup world (HearsOf place number) = IsWriter world place × MayHear world place number
MayMove setup world (Answers place flush chunks) = IsWriter world place × MayAnswer (writer world place) flush chunks
MayMove setup world Requests = world.service.reading ≡ []
MayMove setup world (ReadsAnswer place flush chunks) = IsWriter world place × IsLastOf (writer world place) flush chunks
