-- What the service's view has more once chunks were taken.
use Rattle.std.specs.Prelude.{◌≡◌, ℕ, suc, ◌+◌, ◌-◌, ◌^◌, ◌<◌, ◌≤◌, ◌⊎◌, ◌==◌, false, List, [], ◌∷◌, ◌++◌, length, vec_len, slice_set, if◌then◌else◌}
use Rattle.trace_base.specs.declared.limits.TheConstants.{MAX_FRAGMENTS, MAX_WRITERS}
use Rattle.trace_base.specs.declared.policy.WriterSpec.{WriterSpec}
use Rattle.page_geometry.specs.declared.chunk_header.ChunkHeader.{ChunkHeader}
use Rattle.page_geometry.specs.declared.chunk_state.ChunkState.TheVariants.{Complete}
use Rattle.page_geometry.specs.PageBits.{HasState}
use Rattle.page_geometry.specs.Header.{packed}
use Rattle.chunk_plain.specs.declared.tokens.TheConstants.{POSITION_LIMIT}
use Rattle.page_geometry.specs.declared.chunk_header.TheConstants.{MAX_FLAGS}
use Rattle.page_geometry.specs.Sizes.{record_size}
use Rattle.trace_model.specs.Images.{Patch}
use Rattle.trace_model.specs.History as model
use Rattle.trace_model.specs.History.{buffers_after}
use Rattle.chunk_plain.specs.declared.setup.ChunkRange.{ChunkRange}
use Rattle.chunk_plain.specs.declared.tokens.Taken.{Taken as Token}
use Rattle.chunk_plain.specs.Setup.{Setup, spot, range_of, producer_of, IsChunkOf, sequence_of, id_at, from_of}
use Rattle.chunk_plain.specs.Views.{Content, Look, Taken, Noted, Arrive, Patched, ServiceView, taken_of}
use Rattle.chunk_plain.specs.Owned.{times}
use Rattle.chunk_plain.specs.Words.{taken_content}
use Rattle.chunk_plain.specs.Meaning.{Meaning}
use Rattle.service_core.specs.declared.service.ServiceCore.{ServiceCore}
use Rattle.service_core.specs.Routing.{IsAt, is_closed_at, from_at, arrivals_of}
use Rattle.service_core.specs.Agreement.{KeepsFields, spec_at}
use Rattle.service_core.specs.Looking.{IsAmong, ShowsFact, SeesFact, SeesEach}

-- the patches of a chunk are noted directly behind its arrival, where it brings any
abbrev pub patched_where : List Patch → (sequence position : ℕ) → List Noted
patched_where [] sequence position = []
patched_where (patch ∷ patches) sequence position = Patched sequence position ∷ []

-- the notes of chunks that are taken of a sequence, in rising position from this one on
abbrev pub takings : (sequence position : ℕ) → List Content → List Noted
takings sequence position [] = []
takings sequence position (content ∷ contents) =
    Arrive sequence position ∷ (patched_where content.patches sequence position ++ takings sequence (suc position) contents)

-- more was taken of a writer
abbrev pub taken_more : Taken → List Content → Taken
taken_more taken contents = record { count = taken.count + length contents; contents = taken.contents ++ contents }

-- Chunks with these contents were taken of the writer at this place: they are in the view, and are noted.
abbrev pub took : ServiceView → (place : ℕ) → List Look → List Content → ServiceView
took view place looks contents = record view {
  looks = view.looks ++ looks;
  taken = slice_set view.taken place (taken_more (taken_of view place) contents);
  events = view.events ++ takings (sequence_of place) (taken_of view place).count contents;
}

-- the look found the chunk in another state than complete, or with another writer, or with another id than this one
pub record IsOther (setup : Setup) (place id : ℕ) (look : Look) : Type 0 where
  pub header : ChunkHeader
  pub header_is : look.header ≡ packed header
  pub id_fits : header.chunk_id < 2 ^ 32
  pub writer_fits : header.writer_id < 2 ^ 16
  pub other : HasState look.word (spot setup look.chunk).place Complete → header.writer_id ≡ place + 1 → header.chunk_id ≡ id → ⊥

-- One of these looks at the chunk shows that it isn't the next one to be taken of this writer, of which so many were taken then.
abbrev pub ShowsOther : Setup → (place count chunk : ℕ) → List Look → Type 0
ShowsOther setup place count chunk looks = ShowsFact IsOther setup place count chunk looks

-- each chunk of the producer was looked at so
abbrev pub ShowNone : Setup → (producer place count : ℕ) → List Look → Type 0
ShowNone setup producer place count looks =
    (chunk : ℕ) → IsChunkOf setup producer chunk → ShowsOther setup place count chunk looks

-- Where the taking leaves the writer: as many chunks were taken as the producer has; or these looks, behind the last one that was taken, show none
-- that is next; or the writer has no position left.
abbrev pub Leaves : Setup → (place : ℕ) → (count taken : ℕ) → List Look → Type 0
Leaves setup place count taken looks =
    (taken ≡ (range_of setup (producer_of setup place)).count)
    ⊎ (ShowNone setup (producer_of setup place) place count looks ⊎ (POSITION_LIMIT ≤ count))

-- so many complete chunks of the writer at this place were taken, at most as many as its producer has: so a writer that goes on completing
-- chunks keeps the service busy for one round of them alone
pub record TakesOf (setup : Setup) (place taken : ℕ) (old new : ServiceView) : Type 0 where
  pub most : taken ≤ (range_of setup (producer_of setup place)).count
  pub looks : List Look
  pub contents : List Content
  pub many : length contents ≡ taken
  pub view : new ≡ took old place looks contents
  pub leaves : Leaves setup place (taken_of new place).count taken looks

-- and those of the writers at these places, one after another
abbrev pub Takes : Setup → List ℕ → (taken : ℕ) → ServiceView → ServiceView → Type 0
Takes setup [] taken old new = (taken ≡ 0) × (new ≡ old)
Takes setup (place ∷ places) taken old new =
    (one : ℕ) × (others : ℕ) × (between : ServiceView) × (taken ≡ one + others) × TakesOf setup place one old between × Takes setup places others between new

-- the places of the producer's writers, of which the first has this place
abbrev pub places_of : (producer place : ℕ) → List WriterSpec → List ℕ
places_of producer place [] = []
places_of producer place (spec ∷ specs) =
    if spec.producer == producer then place ∷ places_of producer (suc place) specs else places_of producer (suc place) specs

-- so many notes more
abbrev pub noted_more : ServiceView → List Noted → ServiceView
noted_more view notes = record view { events = view.events ++ notes }

-- one chunk was taken of the writer at this place
pub record TakesOne (place : ℕ) (old new : ServiceView) : Type 0 where
  pub look : Look
  pub content : Content
  pub view : new ≡ took old place (look ∷ []) (content ∷ [])

-- the chunk was looked at, and isn't the next one to be taken of this writer
abbrev pub SeesOther : Setup → (place chunk : ℕ) → ServiceView → ServiceView → Type 0
SeesOther setup place chunk old new = SeesFact IsOther setup place chunk old new

-- the chunks of a producer, as two numbers
pub record IsRange (range : ChunkRange) (first count : ℕ) : Type 0 where
  pub first_is : first ≡ range.first
  pub count_is : count ≡ range.count

-- the next chunk of the writer at this place was taken, and no other
pub record TakesNext (place : ℕ) (old new : ServiceView) : Type 0 where
  pub looks : List Look
  pub content : Content
  pub view : new ≡ took old place looks (content ∷ [])

-- the chunks from this one up to another were looked at, and none is the next one of the writer at this place
abbrev pub SeesNoneOf : Setup → (place first last : ℕ) → ServiceView → ServiceView → Type 0
SeesNoneOf setup place first last old new = SeesEach IsOther setup place (IsAmong first last) old new

-- so many chunks of the writer at this place were taken
pub record TakesSome (place taken : ℕ) (old new : ServiceView) : Type 0 where
  pub looks : List Look
  pub contents : List Content
  pub many : length contents ≡ taken
  pub view : new ≡ took old place looks contents

-- One chunk that was taken

-- The seat took the chunk out of the table, as the one at this position of the writer at this place: it has its spot's size and the
-- position's id, its numbers have their widths, and the position is one that there is.
pub record TakenFor {T W S : Type 0} (means : Meaning T W S) (table : T) (seat : S) (place position : ℕ) (taken : Token) : Type 0 where
  pub serves : means.serves table seat
  pub reading : 0 < times taken.chunk (means.service_view table seat).reading
  pub whole : vec_len taken.body.payload ≡ (spot (means.setup table) taken.chunk).payload_size
  pub count : taken.header.count ≤ MAX_FRAGMENTS
  pub flags : taken.header.flags ≤ MAX_FLAGS
  pub id : taken.header.chunk_id ≡ id_at (means.setup table) place position
  pub fits : position < POSITION_LIMIT

-- The service has the writer at this place, and a buffer in which the writer's sequence has records for payloads of this size and isn't closed.
pub record HasRoute {S : Type 0} (setup : Setup) (core : ServiceCore S) (place size : ℕ) : Type 0 where
  pub counted : place < length core.taken.items
  pub listed : place < length core.writers.items
  pub few : place < MAX_WRITERS
  pub buffer : 1 ≤ (spec_at core.writers.items place).buffer
  pub at : IsAt core.buffers.items ((spec_at core.writers.items place).buffer - 1) (sequence_of place) (record_size size)
  pub from : from_at core.buffers.items ((spec_at core.writers.items place).buffer - 1) (sequence_of place) ≡ from_of setup place
  pub is_open : is_closed_at core.buffers.items ((spec_at core.writers.items place).buffer - 1) (sequence_of place) ≡ false

-- the chunk arrived in its writer's buffer, its patches were applied there, and it counts as taken
pub record PutsIn {S : Type 0} (setup : Setup) (place position : ℕ) (taken : Token) (core done : ServiceCore S) : Type 0 where
  pub buffers : done.buffers.items
      ≡ buffers_after (buffers_after core.buffers.items (arrivals_of (taken_content setup place position taken).image))
      (model.Patched (sequence_of place) (taken_content setup place position taken).patches ∷ [])
  pub counts : done.taken.items ≡ slice_set core.taken.items place (position + 1)
  pub fields : KeepsFields core done
