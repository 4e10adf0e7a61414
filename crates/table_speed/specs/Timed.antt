-- The tables that are timed, and the seats of their writers before these have done anything.
use Rattle.std.specs.Prelude.{◌≡◌, ℕ, ◌+◌, ◌-◌, ◌<◌, ◌≤◌, Bool, if◌then◌else◌, List, length, Some, slice_get}
use Rattle.trace_base.specs.declared.policy.WriterPolicy.TheVariants.{Drops}
use Rattle.trace_base.specs.declared.policy.WriterSpec.{WriterSpec}
use Rattle.chunk_plain.specs.Setup.{HasProducer, IsChunkOf, producer_of, from_of, range_of, spot}
use Rattle.chunk_plain.specs.Views.{newcomer}
use Rattle.chunk_words.specs.declared.host.HostTable.{HostTable}
use Rattle.chunk_words.specs.declared.seats.WriterSeat.{WriterSeat}
use Rattle.chunk_words.specs.Made.{HasWriterSeats}
use Rattle.chunk_words.specs.Sits.{Sits, setup_in, known_by}
use Rattle.table_speed.specs.declared.places.Place.{Place}

-- a writer of this producer's chunks, which drops packets where no chunk is free
abbrev pub drops_for : ℕ → WriterSpec
drops_for producer = record { producer = producer; buffer = 1; policy = Drops; from = 0 }

-- the writer at this place writes into the chunks of this producer, each with 284 bytes of payload
pub record WritesFor (table : HostTable) (place producer : ℕ) : Type 0 where
  pub spec : slice_get (setup_in table).writers place ≡ Some (drops_for producer)
  pub has_producer : HasProducer (setup_in table) producer
  pub producer_is : producer_of (setup_in table) place ≡ producer
  pub from_is : from_of (setup_in table) place ≡ 0
  pub some : 0 < (range_of (setup_in table) producer).count
  pub inside : (chunk : ℕ) → IsChunkOf (setup_in table) producer chunk → chunk < length (setup_in table).spots
  pub sizes : (chunk : ℕ) → IsChunkOf (setup_in table) producer chunk → (spot (setup_in table) chunk).payload_size ≡ 284

-- the first id of each of four writers is 0
abbrev pub BeginAtNought : HostTable → Type 0
BeginAtNought table = (place : ℕ) → place < 4 → from_of (setup_in table) place ≡ 0

-- the table has a writer with this number, whose first id is 0
pub record BeginsAtNought (table : HostTable) (writer : ℕ) : Type 0 where
  pub least : 1 ≤ writer
  pub most : writer ≤ length (setup_in table).writers
  pub from_is : from_of (setup_in table) (writer - 1) ≡ 0

-- four writers, each with a producer of its own or all with one
pub record IsTimed (table : HostTable) (own : Bool) : Type 0 where
  pub writers : length (setup_in table).writers ≡ 4
  pub chunks : 224 ≤ length (setup_in table).spots
  pub places : (place : ℕ) → place < 4 → WritesFor table place (if own then place + 1 else 1)

-- the seat is that of a writer which has done nothing
pub record IsFresh (table : HostTable) (place : Place) : Type 0 where
  pub number : place.number ≡ place.seat.place + 1
  pub most : place.number ≤ 4
  pub sits : Sits table place.seat
  pub fresh : known_by place.seat ≡ newcomer
  pub writes : WritesFor table place.seat.place place.producer

-- and so are these four
pub record AreFresh (table : HostTable) (first second third fourth : Place) : Type 0 where
  pub first_is : IsFresh table first
  pub second_is : IsFresh table second
  pub third_is : IsFresh table third
  pub fourth_is : IsFresh table fourth

-- the seats of the first so many writers, which have done nothing
pub record HasSeats (table : HostTable) (seats : List WriterSeat) : Type 0 where
  pub few : length seats ≤ 4
  pub all : HasWriterSeats table (length seats) seats
