-- The set-up of a table. Chunks are numbered over all producers, by producer, page and place, and pages by producer and page.
use Rattle.std.specs.Prelude.{◌≡◌, ℕ, ◌+◌, ◌-◌, ◌^◌, ◌<◌, ◌≤◌, List, length, slice_index_or}
use Rattle.trace_base.specs.declared.limits.TheConstants.{FIRST_SEQUENCE, MAX_CHUNKS_PER_PAGE, MAX_PAGE_SIZE}
use Rattle.page_geometry.specs.declared.geometry.TheConstants.{MIN_PAYLOAD_SIZE}
use Rattle.trace_base.specs.declared.policy.WriterPolicy.TheVariants.{Drops}
use Rattle.trace_base.specs.declared.policy.WriterSpec.{WriterSpec}
use Rattle.trace_base.specs.Ids.{id_of, position_of}
use Rattle.chunk_plain.specs.declared.setup.Spot.{Spot}
use Rattle.chunk_plain.specs.declared.setup.ChunkRange.{ChunkRange}

-- how a table is laid out, and who writes into it
pub record Setup : Type 0 where
  -- how many pages there are
  pub pages : ℕ
  -- by chunk
  pub spots : List Spot
  -- by producer
  pub ranges : List ChunkRange
  -- by producer: the payload size of its chunks
  pub sizes : List ℕ
  pub writers : List WriterSpec

-- the spot of a chunk that there isn't
abbrev pub no_spot : Spot
no_spot = record { page = 0; place = 0; chunks = 0; layout = 0; payload_size = 0 }

-- where a chunk lies
abbrev pub spot : Setup → ℕ → Spot
spot setup chunk = slice_index_or setup.spots chunk no_spot

-- the chunks of a producer with this number, counted from 1
abbrev pub range_of : Setup → ℕ → ChunkRange
range_of setup producer = slice_index_or setup.ranges (producer - 1) (record { first = 0; count = 0 })

-- the payload size of its chunks
abbrev pub size_of : Setup → ℕ → ℕ
size_of setup producer = slice_index_or setup.sizes (producer - 1) 0

-- the specification of a writer that there isn't
abbrev pub no_writer : WriterSpec
no_writer = record { producer = 0; buffer = 0; policy = Drops; from = 0 }

-- the producer of the writer at this place
abbrev pub producer_of : Setup → ℕ → ℕ
producer_of setup place = (slice_index_or setup.writers place no_writer).producer

-- the id of its first chunk
abbrev pub from_of : Setup → ℕ → ℕ
from_of setup place = (slice_index_or setup.writers place no_writer).from

-- the table has a producer with this number, counted from 1
pub record HasProducer (setup : Setup) (producer : ℕ) : Type 0 where
  pub least : 1 ≤ producer
  pub most : producer ≤ length setup.ranges

-- the chunk is one of the producer's
pub record IsChunkOf (setup : Setup) (producer chunk : ℕ) : Type 0 where
  pub least : (range_of setup producer).first ≤ chunk
  pub below : chunk < (range_of setup producer).first + (range_of setup producer).count

-- no chunk is one of two producers
abbrev pub ProducersAreApart : Setup → Type 0
ProducersAreApart setup = (producer other chunk : ℕ) → HasProducer setup producer → HasProducer setup other
    → IsChunkOf setup producer chunk → IsChunkOf setup other chunk → producer ≡ other

-- each chunk has a place of its own in a page, and the chunks of a page know the same of it
pub record IsLaid (setup : Setup) : Type 0 where
  -- a chunk's number fits 32 bits
  pub few : length setup.spots < 2 ^ 32
  pub page : (chunk : ℕ) → chunk < length setup.spots → (spot setup chunk).page < setup.pages
  pub place : (chunk : ℕ) → chunk < length setup.spots → (spot setup chunk).place < (spot setup chunk).chunks
  pub chunks : (chunk : ℕ) → chunk < length setup.spots → (spot setup chunk).chunks ≤ MAX_CHUNKS_PER_PAGE
  pub layout : (chunk : ℕ) → chunk < length setup.spots → (spot setup chunk).layout < 8
  pub apart : (chunk other : ℕ) → chunk < length setup.spots → other < length setup.spots
      → (spot setup chunk).page ≡ (spot setup other).page → (spot setup chunk).place ≡ (spot setup other).place → chunk ≡ other
  pub alike : (chunk other : ℕ) → chunk < length setup.spots → other < length setup.spots
      → (spot setup chunk).page ≡ (spot setup other).page
      → ((spot setup chunk).chunks ≡ (spot setup other).chunks) × ((spot setup chunk).layout ≡ (spot setup other).layout)
  -- the chunks of each producer are there, at least one, and all have payloads of one size
  pub ranges : (producer : ℕ) → (range_of setup producer).first + (range_of setup producer).count ≤ length setup.spots
  pub some : (producer : ℕ) → HasProducer setup producer → 0 < (range_of setup producer).count
  pub sizes : (producer chunk : ℕ) → IsChunkOf setup producer chunk → (spot setup chunk).payload_size ≡ size_of setup producer
  pub least : (chunk : ℕ) → chunk < length setup.spots → MIN_PAYLOAD_SIZE ≤ (spot setup chunk).payload_size
  pub most : (chunk : ℕ) → chunk < length setup.spots → (spot setup chunk).payload_size < MAX_PAGE_SIZE

-- The id of the chunk at this position among those that the writer began. Views, worlds and tokens of held chunks name a chunk by its
-- position; header words, and the patches in the body of a chunk, by its id.
abbrev pub id_at : Setup → (place position : ℕ) → ℕ
id_at setup place position = id_of (from_of setup place) position

-- and the position of the chunk with this id
abbrev pub position_at : Setup → (place id : ℕ) → ℕ
position_at setup place id = position_of (from_of setup place) id

-- the sequence of the writer at this place
abbrev pub sequence_of : ℕ → ℕ
sequence_of place = place + FIRST_SEQUENCE
