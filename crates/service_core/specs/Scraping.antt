-- What a scrape notes.
use Rattle.std.specs.Prelude.{◌≡◌, ℕ, ◌+◌, ◌-◌, ◌%◌, ◌^◌, ◌<◌, ◌≤◌, ◌⊎◌, nat_lt, List, [], ◌∷◌, ◌++◌, length, Option, Some, slice_get, slice_index_or, if◌then◌else◌}
use Rattle.std.specs.List.{flat_map}
use Rattle.trace_base.specs.declared.limits.TheConstants.{MAX_FRAGMENTS}
use Rattle.trace_base.specs.declared.policy.WriterSpec.{WriterSpec}
use Rattle.page_geometry.specs.declared.chunk_header.ChunkHeader.{ChunkHeader}
use Rattle.page_geometry.specs.declared.chunk_state.ChunkState.TheVariants.{BeingWritten}
use Rattle.page_geometry.specs.PageBits.{HasState}
use Rattle.page_geometry.specs.Header.{packed}
use Rattle.chunk_plain.specs.declared.tokens.Seen.{Seen}
use Rattle.chunk_plain.specs.Setup.{Setup, spot, producer_of, IsChunkOf, sequence_of, id_at}
use Rattle.chunk_plain.specs.Views.{At, Draft, no_draft, BegunChunk, Held, Completed, Found, Look, Noted, Partial, ServiceView, taken_of}
use Rattle.chunk_plain.specs.World.{World, Status, Writing, writer}
use Rattle.chunk_plain.specs.Steps.{serviced}
use Rattle.chunk_plain.specs.Drafts.{IsFound}
use Rattle.chunk_plain.specs.Histories.{found_among}
use Rattle.chunk_plain.specs.Words.{FoundAlike}
use Rattle.chunk_plain.specs.Meaning.{Meaning}
use Rattle.service_core.specs.Looking.{looked, IsAmong, SeesFact, SeesEach}
use Rattle.service_core.specs.Taking.{noted_more, Takes, places_of}
use Rattle.service_core.specs.Told.{StandsBehind, NoneLeft, FindsState, FindsEach}
use Rattle.service_core.specs.Order.{IsFoundPart}

-- The look found the chunk in another state than being written, or with another writer, or with another id than this one, or with fewer than two
-- fragments counted.
pub record IsNoPart (setup : Setup) (place id : ℕ) (look : Look) : Type 0 where
  pub header : ChunkHeader
  pub header_is : look.header ≡ packed header
  pub id_fits : header.chunk_id < 2 ^ 32
  pub writer_fits : header.writer_id < 2 ^ 16
  pub count_fits : header.count < 2 ^ 10
  pub none : HasState look.word (spot setup look.chunk).place BeingWritten → header.writer_id ≡ place + 1 → header.chunk_id ≡ id
      → header.count < 2

-- the chunk was looked at, and nothing of it comes as a part of the next chunk of the writer at this place
abbrev pub SeesNoPart : Setup → (place chunk : ℕ) → ServiceView → ServiceView → Type 0
SeesNoPart setup place chunk old new = SeesFact IsNoPart setup place chunk old new

-- One of these looks, at a chunk of the producer, found so many finished fragments of the next chunk of the writer at this place, of which so
-- many were taken then.
pub record ShowsPart (setup : Setup) (place taken count : ℕ) (looks : List Look) : Type 0 where
  pub n : ℕ
  pub look : Look
  pub at : slice_get looks n ≡ Some look
  pub own : IsChunkOf setup (producer_of setup place) look.chunk
  pub since : slice_index_or look.taken place 0 ≡ taken
  pub found : Found
  pub found_is : look.found ≡ Some found
  pub place_is : found.place ≡ place
  pub position_is : found.position ≡ taken
  pub count_is : length found.ends ≡ count

-- Finished fragments of the writer's next chunk came, so many, and at least one; they are noted, and stand on looks: one of this call found as
-- many, and the first one of all that did, by which the note is read, found the same.
pub record TakesPart (setup : Setup) (place : ℕ) (old new : ServiceView) : Type 0 where
  pub looks : List Look
  pub count : ℕ
  pub some : 0 < count
  pub shows : ShowsPart setup place (taken_of old place).count count looks
  pub view : new ≡ noted_more (looked old looks) (Partial (sequence_of place) (taken_of old place).count count ∷ [])
  pub found : IsFoundPart new (sequence_of place) (taken_of old place).count count
  pub same : (first : Found) → found_among place (taken_of old place).count count new.looks ≡ Some first → FoundAlike first shows.found

-- no part of the writer's next chunk came: each chunk of the producer was looked at, and shows why
abbrev pub TakesNoPart : Setup → (place : ℕ) → ServiceView → ServiceView → Type 0
TakesNoPart setup place old new = SeesEach IsNoPart setup place (IsChunkOf setup (producer_of setup place)) old new

-- the same of the chunks from one up to another
abbrev pub TakesNoPartOf : Setup → (place first last : ℕ) → ServiceView → ServiceView → Type 0
TakesNoPartOf setup place first last old new = SeesEach IsNoPart setup place (IsAmong first last) old new

-- a part of the next chunk of the writer at this place came, or none
abbrev pub ScrapesOne : Setup → (place : ℕ) → ServiceView → ServiceView → Type 0
ScrapesOne setup place old new = TakesPart setup place old new ⊎ TakesNoPart setup place old new

-- and of those at these places, one after another
abbrev pub ScrapesEach : Setup → List ℕ → ServiceView → ServiceView → Type 0
ScrapesEach setup [] old new = new ≡ old
ScrapesEach setup (place ∷ places) old new = (between : ServiceView) × ScrapesOne setup place old between × ScrapesEach setup places between new

-- The producer's complete chunks were taken, and then finished fragments of those that its writers hold.
pub record TakesAndScrapes (setup : Setup) (producer taken : ℕ) (old new : ServiceView) : Type 0 where
  pub between : ServiceView
  pub takes : Takes setup (places_of producer 0 setup.writers) taken old between
  pub scrapes : ScrapesEach setup (places_of producer 0 setup.writers) between new

-- the same while these first writers are scraped
pub record TakesAndScrapesSome (setup : Setup) (producer taken : ℕ) (writers : List WriterSpec) (old new : ServiceView) : Type 0 where
  pub between : ServiceView
  pub takes : Takes setup (places_of producer 0 setup.writers) taken old between
  pub scrapes : ScrapesEach setup (places_of producer 0 writers) between new

-- What a look found of a chunk

-- the look found that the writer with this number is writing the chunk, under this id, with so many fragments finished
pub record IsPart (seen : Seen) (at writer id finished : ℕ) : Type 0 where
  pub written : HasState seen.word.0 at BeingWritten
  pub writer_is : seen.header.writer_id ≡ writer
  pub id_is : seen.header.chunk_id ≡ id
  pub count : seen.header.count ≡ finished + 1
  pub some : 1 ≤ finished

-- the header's id and writer have their widths
pub record FitsWord (header : ChunkHeader) : Type 0 where
  pub id : header.chunk_id < 2 ^ 32
  pub writer : header.writer_id < 2 ^ 16

-- The view has a look at the chunk that found it being written by the writer at this place, at this position, with so many fragments
-- finished and with this flag 1.
pub record PartLooked (view : ServiceView) (chunk place position count flags : ℕ) : Type 0 where
  pub found : Found
  pub number : ℕ
  pub look : Look
  pub at : At view.looks number look
  pub chunk_is : look.chunk ≡ chunk
  pub found_is : look.found ≡ Some found
  pub place_is : found.place ≡ place
  pub position_is : found.position ≡ position
  pub count_is : length found.ends ≡ count
  pub front : found.head.flags % 2 ≡ flags % 2
  pub is : IsFound found

-- A look at the chunk found so many finished fragments, at least one, under the id of the writer's next position.
pub record IsLookedPart (setup : Setup) (view : ServiceView) (place chunk : ℕ) (header : ChunkHeader) (finished : ℕ) : Type 0 where
  pub some : 0 < finished
  pub count : finished ≤ MAX_FRAGMENTS
  pub id : header.chunk_id ≡ id_at setup place (taken_of view place).count
  pub looked : PartLooked view chunk place (taken_of view place).count finished header.flags

-- In told worlds

-- the note of a chunk's finished fragments, where the writer holds it and there are any
abbrev pub part_of_entry : (place position : ℕ) → BegunChunk → List Noted
part_of_entry place position (Completed chunk content) = []
part_of_entry place position (Held chunk draft) =
    if nat_lt 1 draft.head.count then Partial (sequence_of place) position (draft.head.count - 1) ∷ [] else []

-- what a scrape notes of the writer at this place, by its next chunk, whose position is the number taken of it; others that it holds are
-- skipped
abbrev pub part_held : World → (place : ℕ) → List Noted
part_held world place =
    part_of_entry place (taken_of world.service place).count
    (slice_index_or (writer world place).begun (taken_of world.service place).count (Held 0 no_draft))

-- and of the producer's writers, in rising number
abbrev pub parts_held : Setup → (producer : ℕ) → World → List Noted
parts_held setup producer world = flat_map (part_held world) (places_of producer 0 setup.writers)

-- what the writer at this place holds are chunks of its producer
abbrev pub HoldsOwn : Setup → (place : ℕ) → World → Type 0
HoldsOwn setup place world = (position chunk : ℕ) (draft : Draft) → At (writer world place).begun position (Held chunk draft)
    → IsChunkOf setup (producer_of setup place) chunk

-- a chunk in this state isn't held by the writer at this place at this position with a finished fragment
abbrev pub IsntPart : (place position : ℕ) → Status → Type 0
IsntPart place position state = (draft : Draft) → state ≡ Writing place position draft → draft.head.count < 2

-- the chunk isn't, and nothing but the service's view has changed
abbrev pub FindsNoPart : (place position chunk : ℕ) → World → Option World → ServiceView → Type 0
FindsNoPart place position chunk old told view = FindsState (IsntPart place position) chunk old told view

-- the same of the chunks from one up to another
abbrev pub FindsNoPartOf : (place position first last : ℕ) → World → Option World → ServiceView → Type 0
FindsNoPartOf place position first last old told view = FindsEach (IsntPart place position) (IsAmong first last) old told view

-- what was noted of the writer at this place is what it holds
pub record NotesPart (place : ℕ) (old : World) (told : Option World) (before view : ServiceView) : Type 0 where
  pub told_is : told ≡ Some (serviced old view)
  pub events : view.events ≡ before.events ++ part_held old place

-- finished fragments came of the chunk that the writer at this place holds as its next one
pub record PartTaken {T W S : Type 0} (means : Meaning T W S) (place : ℕ) (table : T) (seat : S) (left : T)
    (after : S) : Type 0 where
  pub takes : TakesPart (means.setup table) place (means.service_view table seat) (means.service_view left after)
  pub told : (world : World) → means.told table ≡ Some world
      → NotesPart place world (means.told left) (means.service_view table seat) (means.service_view left after)

-- or this chunk was looked at, and nothing of it comes so
pub record NoPartTaken {T W S : Type 0} (means : Meaning T W S) (place chunk : ℕ) (table : T) (seat : S) (left : T)
    (after : S) : Type 0 where
  pub sees : SeesNoPart (means.setup table) place chunk (means.service_view table seat) (means.service_view left after)
  pub told : (world : World) → means.told table ≡ Some world
      → FindsNoPart place (taken_of (means.service_view table seat) place).count chunk world (means.told left) (means.service_view left after)

-- The told world behind a scrape: none that is complete is left, and of what the writers hold their finished fragments are noted.
pub record ScrapesWorld (setup : Setup) (producer taken : ℕ) (old : World) (before : ServiceView) (told : Option World) (view : ServiceView) : Type 0 where
  pub between : ServiceView
  pub takes : Takes setup (places_of producer 0 setup.writers) taken before between
  pub each : ScrapesEach setup (places_of producer 0 setup.writers) between view
  pub new : World
  pub told_is : told ≡ Some new
  pub stands : StandsBehind old view new
  pub none_left : NoneLeft setup producer new
  pub events : view.events ≡ between.events ++ parts_held setup producer new

-- the same while these first writers are scraped
pub record ScrapesWorldYet (setup : Setup) (producer taken : ℕ) (writers : List WriterSpec) (old : World) (before : ServiceView) (told : Option World) (view : ServiceView) : Type 0
  where
    pub between : ServiceView
    pub takes : Takes setup (places_of producer 0 setup.writers) taken before between
    pub each : ScrapesEach setup (places_of producer 0 writers) between view
    pub new : World
    pub told_is : told ≡ Some new
    pub stands : StandsBehind old view new
    pub none_left : NoneLeft setup producer new
    pub events : view.events ≡ between.events ++ flat_map (part_held new) (places_of producer 0 writers)
