-- What a call on a table does to the views of its seats, and what the views have between two calls.
use Rattle.std.specs.Prelude.{◌≡◌, ℕ, ◌+◌, ◌-◌, ◌*◌, ◌/◌, ◌%◌, ◌^◌, ◌<◌, ◌≤◌, ◌≢◌, ◌==◌, ◌&&◌, ◌⊎◌, Bool, true, false, Option, Some, None, List, [], length, map, vec_len, slice_index_or, if◌then◌else◌}
use Rattle.std.specs.Int.{bit_at}
use Rattle.std.specs.List.{list_any}
use Rattle.trace_base.specs.declared.limits.TheConstants.{FIRST_SEQUENCE, MAX_FRAGMENTS}
use Rattle.page_geometry.specs.declared.chunk_header.TheConstants.{MAX_FLAGS}
use Rattle.page_geometry.specs.declared.page_word.TheConstants.{CLAIM_BIT}
use Rattle.page_geometry.specs.declared.chunk_header.ChunkHeader.{ChunkHeader}
use Rattle.page_geometry.specs.declared.chunk_state.ChunkState.TheVariants.{BeingWritten, Complete}
use Rattle.page_geometry.specs.PageBits.{HasState}
use Rattle.page_geometry.specs.Header.{packed}
use Rattle.commit_body.specs.declared.body.Patch.{Patch}
use Rattle.commit_body.specs.Patches.{patch_value}
use Rattle.trace_model.specs.Calls as call
use Rattle.trace_model.specs.Images.{Image}
use Rattle.trace_model.specs.Ids.{placed_image, placed_patches}
use Rattle.chunk_plain.specs.declared.notes.WriterCall.{WriterCall}
use Rattle.chunk_plain.specs.declared.notes.WriterCall.TheVariants as writer_call
use Rattle.chunk_plain.specs.declared.notes.ServiceEvent.{ServiceEvent}
use Rattle.chunk_plain.specs.declared.notes.ServiceEvent.TheVariants as event
use Rattle.chunk_plain.specs.declared.tokens.Held.{Held as HeldToken}
use Rattle.chunk_plain.specs.declared.tokens.Taken.{Taken as TakenToken}
use Rattle.chunk_plain.specs.declared.tokens.NotComplete.{NotComplete}
use Rattle.chunk_plain.specs.Setup.{Setup, spot, producer_of, from_of, sequence_of, IsChunkOf, id_at}
use Rattle.chunk_plain.specs.Payload.{byte_at, byte_in, sealed_to}
use Rattle.chunk_plain.specs.Views.{At, Ask, Content, BegunChunk, chunk_of, WriterView, newcomer, Found, Look, ServiceView, taken_of, Noted, Arrive, Partial, Patched, Closed, Read, Committed}
use Rattle.chunk_plain.specs.Steps.{claims, stamps, begins, redrafts, looks_at, takes_in, learns}
use Rattle.chunk_plain.specs.World.{World, Unclaimed, status, writer}
use Rattle.chunk_plain.specs.Owned.{times, IsOwned}
use Rattle.chunk_plain.specs.Drafts.{MayFollow, IsFound, StillHas, head_of, draft_at, head_at, published}
use Rattle.chunk_plain.specs.Shows.{ShowsPage, content_of}

-- Between two calls

-- each claim that a writer tried is of a chunk of its own producer
abbrev pub AsksItsOwn : Setup → (place : ℕ) → WriterView → Type 0
AsksItsOwn setup place view = (i : ℕ) (ask : Ask) → At view.asked i ask → IsChunkOf setup (producer_of setup place) ask.chunk

-- a writer's seat: no header of it is stored in a chunk that it hasn't begun, it has to do with its own producer's chunks alone, and none of its
-- claims says that it was made behind more calls than are noted
pub record IsAtRest (setup : Setup) (place : ℕ) (view : WriterView) : Type 0 where
  pub inside : place < length setup.writers
  pub stamped : view.stamped ≡ None
  pub asked : AsksItsOwn setup place view
  pub behind : (i : ℕ) (ask : Ask) → At view.asked i ask → ask.calls ≤ length view.calls
  pub claimed : (chunk : ℕ) → 0 < times chunk view.claimed → IsChunkOf setup (producer_of setup place) chunk
  pub begun : (position : ℕ) (entry : BegunChunk) → At view.begun position entry
      → IsChunkOf setup (producer_of setup place) (chunk_of entry)

-- the service's seat: its view has the content of each chunk that it took
pub record IsServing (setup : Setup) (view : ServiceView) : Type 0 where
  pub writers : length view.taken ≡ length setup.writers
  pub level : (place : ℕ) → length (taken_of view place).contents ≡ (taken_of view place).count

-- whether the note says that the chunk at this position of the sequence arrived
abbrev pub is_arrival_note : (sequence position : ℕ) → Noted → Bool
is_arrival_note sequence position (Arrive other number) = (other == sequence) && (number == position)
is_arrival_note sequence position note = false

-- whether one of the notes does
abbrev pub is_arrival_noted : (sequence position : ℕ) → List Noted → Bool
is_arrival_noted sequence position notes = list_any (is_arrival_note sequence position) notes

-- the arrival of each chunk that was taken is noted
abbrev pub AllArrived : ServiceView → Type 0
AllArrived view =
    (place position : ℕ) → position < (taken_of view place).count → is_arrival_noted (sequence_of place) position view.events ≡ true

-- and of each but the one at this position of the writer at this place, whose arrival may be noted later
abbrev pub OthersArrived : ServiceView → (place position : ℕ) → Type 0
OthersArrived view place position = (other number : ℕ) → number < (taken_of view other).count
    → (is_arrival_noted (sequence_of other) number view.events ≡ true) ⊎ ((other ≡ place) × (number ≡ position))

-- that one was taken, and all else that was taken has arrived
pub record LacksArrival (view : ServiceView) (place position : ℕ) : Type 0 where
  pub taken : position < (taken_of view place).count
  pub others : OthersArrived view place position

-- that a chunk arrived may be noted once it was taken, and any other event always
abbrev pub MayNote : ServiceView → Noted → Type 0
MayNote view (Arrive sequence position) = position < (taken_of view (sequence - FIRST_SEQUENCE)).count
MayNote view note = Unit {0}

-- Once the content of a position is in the view, what a look found of it are its first fragments, and it has at least as many as were
-- counted then.
abbrev pub LearntAsFound : ServiceView → Type 0
LearntAsFound view = (n : ℕ) (look : Look) (found : Found) (content : Content) → At view.looks n look → look.found ≡ Some found
    → At (taken_of view found.place).contents found.position content
    → MayFollow found.head (head_of content) × (length found.sealed ≤ length content.image.payload)
    × ((j : ℕ) → j < length found.sealed → byte_in content.image.payload j ≡ byte_in found.sealed j)

-- what two looks found of a chunk is there still, in one begun chunk of its writer
pub record HasBoth (about : ℕ) (found : Found) (next : ℕ) (other : Found) : Type 0 where
  pub entry : BegunChunk
  pub found_is : IsFound found
  pub has : StillHas about found entry
  pub other_is : IsFound other
  pub had : StillHas next other entry

-- Looks that found a chunk of the same writer and position found what one begun chunk of the writer has.
abbrev pub LooksAgree : ServiceView → Type 0
LooksAgree view = (n m : ℕ) (look later : Look) (found other : Found) → At view.looks n look → look.found ≡ Some found
    → At view.looks m later
    → later.found ≡ Some other → found.place ≡ other.place → found.position ≡ other.position
    → ∥ HasBoth look.chunk found later.chunk other ∥₁

-- so where equally many fragments were finished, they are the same, and so is flag 1, if there are any
pub record FoundAlike (one other : Found) : Type 0 where
  pub sealed : one.sealed ≡ other.sealed
  pub front : 0 < length one.ends → one.head.flags % 2 ≡ other.head.flags % 2

-- Writers

-- The claim bit of the chunk in the page word that a claim found tells whether it won, and the claim joins the view. A claim that won is of
-- a chunk that the writer hasn't claimed yet.
pub record TriesClaim (setup : Setup) (chunk : ℕ) (won : Bool) (old new : WriterView) : Type 0 where
  pub found : ℕ
  pub bit : bit_at found (CLAIM_BIT + (spot setup chunk).place) ≡ (if won then 0 else 1)
  pub fresh : won ≡ true → times chunk old.claimed ≡ 0
  pub view : new ≡ claims old chunk found won

-- so are those of all writers
abbrev pub AskTheirOwn : Setup → List WriterView → Type 0
AskTheirOwn setup writers = (place : ℕ) → AsksItsOwn setup place (slice_index_or writers place newcomer)

-- a world that the table may have: with its writers and chunks, where each chunk is owned by exactly one and each writer claimed chunks of
-- its own producer alone
pub record MayBe (setup : Setup) (world : World) : Type 0 where
  pub writers : length world.writers ≡ length setup.writers
  pub chunks : length world.chunks ≡ length setup.spots
  pub owned : IsOwned world
  pub own : AskTheirOwn setup world.writers

-- In some world that the table may have, the writer at this place knows this and somebody has the chunk.
pub record WasHad (setup : Setup) (place chunk : ℕ) (view : WriterView) : Type 0 where
  pub world : World
  pub may_be : MayBe setup world
  pub view_is : writer world place ≡ view
  pub had : status world chunk ≡ Unclaimed → ⊥

-- the writer has claimed the chunk and not begun it
abbrev pub HasClaimed : WriterView → ℕ → Type 0
HasClaimed view chunk = 0 < times chunk view.claimed

-- a chunk that was just begun: its payload has the chunk's size, and no patches are in its body
pub record IsBegun (setup : Setup) (chunk position : ℕ) (held : HeldToken) : Type 0 where
  pub chunk_is : held.chunk ≡ chunk
  pub position_is : held.position ≡ position
  pub whole : vec_len held.body.payload ≡ (spot setup chunk).payload_size
  pub empty : held.body.patches.value.items ≡ []

-- the chunk is begun, with the payload words that stand in it
pub record BeginsChunk (setup : Setup) (chunk : ℕ) (old new : WriterView) : Type 0 where
  pub words : List ℕ
  pub room : (spot setup chunk).payload_size ≤ 8 * length words
  pub view : new ≡ begins (stamps old chunk) chunk words

-- a writer's copy of a payload has the bytes of its finished fragments as they were published
abbrev pub KeepsSealed : WriterView → ℕ → List ℕ → Type 0
KeepsSealed view position copy =
    (j : ℕ) → j < sealed_to (draft_at view position).ends → (j < length copy) × (published view position j ≡ byte_in copy j)

-- a writer's copy of a payload was published whole
abbrev pub IsPublished : WriterView → ℕ → List ℕ → Type 0
IsPublished view position copy = (j : ℕ) → j < length copy → published view position j ≡ byte_in copy j

-- words without a byte of the range are as they were
abbrev pub StaysOutside : (from to : ℕ) → (old new : List ℕ) → Type 0
StaysOutside from to old new = (index : ℕ) → ((j : ℕ) → from ≤ j → j < to → j / 8 ≢ index)
    → slice_index_or new index 0 ≡ slice_index_or old index 0

-- Some bytes of a copy were published: each byte of the range is the copy's now, and each other one is as before or the copy's, since words
-- are stored whole. Up to three words behind the range may be stored with it, and no other one is.
pub record Publishes (copy : List ℕ) (from to : ℕ) (old new : List ℕ) : Type 0 where
  pub count : length new ≡ length old
  pub range : (j : ℕ) → from ≤ j → j < to → byte_at new j ≡ byte_in copy j
  pub others : (j : ℕ) → j < length copy → (byte_at new j ≡ byte_at old j) ⊎ (byte_at new j ≡ byte_in copy j)
  pub apart : StaysOutside from (to + 24) old new

-- and nothing else of the view changed
pub record PublishesBytes (chunk position from to : ℕ) (copy : List ℕ) (old new : WriterView) : Type 0 where
  pub words : List ℕ
  pub bytes : Publishes copy from to (draft_at old position).words words
  pub view : new ≡ redrafts old chunk position (record (draft_at old position) { words = words })

-- what a held chunk has once it is completed
abbrev pub completed_content : Setup → ℕ → WriterView → HeldToken → Content
completed_content setup place view held =
    content_of (from_of setup place) place held.position (head_at view held.position) held.body

-- The service

-- what was found in a chunk that was being written: of the writer in its header and at the position of the id in it, which isn't taken yet
pub record IsOfHeader (setup : Setup) (header : ChunkHeader) (view : ServiceView) (found : Found) : Type 0 where
  pub place_is : found.place + 1 ≡ header.writer_id
  pub id_is : id_at setup found.place found.position ≡ header.chunk_id
  pub position_fits : found.position < 2 ^ 32
  pub head_is : found.head ≡ record { count = header.count; flags = header.flags }
  pub untaken : (taken_of view found.place).count ≤ found.position
  pub finished : IsFound found

-- a look finds what stands in the chunk exactly where it is being written
pub record FindsWritten (setup : Setup) (chunk word : ℕ) (header : ChunkHeader) (view : ServiceView) (found : Option Found) : Type 0 where
  pub some : HasState word (spot setup chunk).place BeingWritten → (one : Found) × (found ≡ Some one) × IsOfHeader setup header view one
  pub none : (HasState word (spot setup chunk).place BeingWritten → ⊥) → found ≡ None

-- In some world that the table may have, the service knows this and the page word shows the chunk.
pub record WasSeen (setup : Setup) (chunk word : ℕ) (view : ServiceView) : Type 0 where
  pub world : World
  pub may_be : MayBe setup world
  pub view_is : world.service ≡ view
  pub shows : ShowsPage setup world (spot setup chunk) word (status world chunk)

-- The chunk was looked at: page word, header and what stood in it join the view. In some world with the view before, the page word shows
-- the chunk.
pub record LooksAt (setup : Setup) (chunk word : ℕ) (header : ChunkHeader) (old new : ServiceView) : Type 0 where
  pub seen : ∥ WasSeen setup chunk word old ∥₁
  pub found : Option Found
  pub finds : FindsWritten setup chunk word header old found
  pub view : new ≡ looks_at old chunk word (packed header) found

-- the bytes of the chunk begin with those that a look found there, as long as the position isn't taken
abbrev pub ShowsFound : ServiceView → ℕ → List ℕ → Type 0
ShowsFound view chunk bytes = (n : ℕ) (look : Look) (found : Found) → At view.looks n look → look.chunk ≡ chunk → look.found ≡ Some found
    → (taken_of view found.place).count ≤ found.position
    → (length found.sealed ≤ length bytes) × ((j : ℕ) → j < length found.sealed → byte_in bytes j ≡ byte_in found.sealed j)

-- the bytes are the payload of a content that the view has
pub record IsTakenPayload (view : ServiceView) (bytes : List ℕ) : Type 0 where
  pub place : ℕ
  pub position : ℕ
  pub content : Content
  pub at : At (taken_of view place).contents position content
  pub bytes_are : bytes ≡ content.image.payload

-- the content of the chunk at this position that was taken of the writer at this place
abbrev pub taken_content : Setup → (place position : ℕ) → TakenToken → Content
taken_content setup place position taken =
    content_of (from_of setup place) place position (record { count = taken.header.count; flags = taken.header.flags }) taken.body

-- The chunk was found complete, with this writer and id in its header, the id of the writer's next position; it is taken, and its content
-- joins the view.
pub record TakesChunk (setup : Setup) (chunk writer id : ℕ) (taken : TakenToken) (old new : ServiceView) : Type 0 where
  pub word : ℕ
  pub complete : HasState word (spot setup chunk).place Complete
  pub chunk_is : taken.chunk ≡ chunk
  pub writer_is : taken.header.writer_id ≡ writer
  pub id_is : taken.header.chunk_id ≡ id
  pub count_fits : taken.header.count ≤ MAX_FRAGMENTS
  pub flags_fit : taken.header.flags ≤ MAX_FLAGS
  pub whole : vec_len taken.body.payload ≡ (spot setup chunk).payload_size
  pub view : new ≡ learns (takes_in (looks_at old chunk word (packed taken.header) None) (writer - 1) chunk) (writer - 1)
      (taken_content setup (writer - 1) (taken_of old (writer - 1)).count taken)

-- The chunk was found in another state than complete, or with another writer or id in its header, whose count and flags are in their
-- ranges; the view has only the look.
pub record FindsOther (setup : Setup) (chunk writer id : ℕ) (found : NotComplete) (old new : ServiceView) : Type 0 where
  pub count_fits : found.header.count ≤ MAX_FRAGMENTS
  pub flags_fit : found.header.flags ≤ MAX_FLAGS
  pub other : HasState found.word.0 (spot setup chunk).place Complete → found.header.writer_id ≡ writer → found.header.chunk_id ≡ id → ⊥
  pub look : LooksAt setup chunk found.word.0 found.header old new

-- Notes

abbrev pub call_of : WriterCall → call.Call
call_of (writer_call.Begun kept) = call.Begun kept
call_of (writer_call.Number field value) = call.Number field value
call_of (writer_call.Bytes field value times) = call.Bytes field value.now times
call_of (writer_call.Nested field) = call.Nested field
call_of writer_call.Ended = call.Ended
call_of writer_call.GivenUp = call.GivenUp
call_of writer_call.Finished = call.Finished
call_of writer_call.Flushed = call.Flushed

-- the event that a note says
abbrev pub event_of : ServiceEvent → Noted
event_of (event.Arrive sequence position) = Arrive sequence position
event_of (event.Partial sequence position limit) = Partial sequence position limit
event_of (event.Patched sequence position) = Patched sequence position
event_of (event.Closed sequence) = Closed sequence
event_of (event.Read sequence limit) = Read sequence limit

-- the event is a read
abbrev pub IsReadEvent : ServiceEvent → Type 0
IsReadEvent (event.Read sequence limit) = Unit {0}
IsReadEvent _ = ⊥

-- the image of a chunk with this header
abbrev pub image_with : ChunkHeader → List ℕ → Image
image_with header payload = record {
  sequence = header.writer_id + 1;
  chunk_id = header.chunk_id;
  count = header.count;
  flags = header.flags;
  payload = payload;
}

-- An image that came by a commit, with the patches given with it. They come with ids, and are noted with positions.
abbrev pub committed_of : Setup → ChunkHeader → List ℕ → List Patch → Committed
committed_of setup header payload patches = record {
  image = placed_image (from_of setup (header.writer_id - 1)) (image_with header payload);
  patches = placed_patches (from_of setup (header.writer_id - 1)) (map patch_value patches);
}
