-- The table of the tests, with one page of 14 chunks and two writers.
use Rattle.std.specs.Prelude.{◌≡◌, ℕ, ◌<◌, [], length, Some, slice_get}
use Rattle.trace_base.specs.declared.policy.WriterPolicy.TheVariants.{Drops}
use Rattle.trace_base.specs.declared.policy.WriterSpec.{WriterSpec}
use Rattle.chunk_plain.specs.Setup.{HasProducer, IsChunkOf, producer_of, from_of, spot}
use Rattle.chunk_plain.specs.Views.{taken_of}
use Rattle.chunk_plain.specs.Words.{AllArrived}
use Rattle.chunk_words.specs.declared.host.HostTable.{HostTable}
use Rattle.chunk_words.specs.declared.seats.ServiceSeat.{ServiceSeat}
use Rattle.chunk_words.specs.Knows.{service_of}
use Rattle.chunk_words.specs.Sits.{setup_in}

-- both writers drop packets where no chunk is free, and their ids begin anew at 0 behind few chunks
abbrev pub page_spec : WriterSpec
page_spec = record { producer = 1; buffer = 1; policy = Drops; from = 4294967000 }

-- each chunk of the page is one that both writers may claim
pub record IsOnePage (table : HostTable) : Type 0 where
  pub chunks : (chunk place : ℕ) → place < 2 → chunk < 14 → IsChunkOf (setup_in table) (producer_of (setup_in table) place) chunk
  pub inside : (chunk : ℕ) → chunk < 14 → chunk < length (setup_in table).spots
  pub size : (chunk : ℕ) → chunk < 14 → (spot (setup_in table) chunk).payload_size ≡ 284
  pub writers : length (setup_in table).writers ≡ 2
  pub specs : (place : ℕ) → place < 2 → slice_get (setup_in table).writers place ≡ Some page_spec
  pub producer : HasProducer (setup_in table) 1
  pub producers : (place : ℕ) → place < 2 → producer_of (setup_in table) place ≡ 1
  pub froms : (place : ℕ) → place < 2 → from_of (setup_in table) place ≡ 4294967000
  pub sizes : (chunk : ℕ) → IsChunkOf (setup_in table) 1 chunk → (spot (setup_in table) chunk).payload_size ≡ 284

-- the service has taken so many chunks of the first writer, all that it took has arrived, and it reads none
pub record HasTaken (count : ℕ) (seat : ServiceSeat) : Type 0 where
  pub count_is : (taken_of (service_of seat.seat.me.0) 0).count ≡ count
  pub none_out : (service_of seat.seat.me.0).reading ≡ []
  pub arrived : AllArrived (service_of seat.seat.me.0)

-- the same of each of the two writers
pub record HasTakenOf (first second : ℕ) (seat : ServiceSeat) : Type 0 where
  pub first_is : (taken_of (service_of seat.seat.me.0) 0).count ≡ first
  pub second_is : (taken_of (service_of seat.seat.me.0) 1).count ≡ second
  pub none_out : (service_of seat.seat.me.0).reading ≡ []
  pub arrived : AllArrived (service_of seat.seat.me.0)
