-- A table that threads share, as it is made.
use Rattle.std.specs.Prelude.{◌≡◌, ℕ, ◌<◌, Option, Some, List, length, slice_index_or}
use Rattle.commit_body.specs.declared.body.CommitBody.{CommitBody}
use Rattle.trace_base.specs.declared.policy.WriterSpec.{WriterSpec}
use Rattle.chunk_plain.specs.declared.setup.ProducerSpec.{ProducerSpec}
use Rattle.chunk_plain.specs.declared.setup.Spot.{Spot}
use Rattle.chunk_plain.specs.Setup.{Setup, no_spot}
use Rattle.chunk_plain.specs.Views.{At, newcomer}
use Rattle.chunk_plain.specs.Shows.{IsFreeBody}
use Rattle.chunk_plain.specs.Laying.{setup_of}
use Rattle.chunk_plain.specs.Plain.{first_world}
use Rattle.chunk_words.specs.declared.host.HostTable.{HostTable}
use Rattle.chunk_words.specs.declared.seats.WriterSeat.{WriterSeat}
use Rattle.chunk_words.specs.declared.seats.ServiceSeat.{ServiceSeat}
use Rattle.chunk_words.specs.Knows.{view_of, service_of}
use Rattle.chunk_words.specs.Places.{payload_start}
use Rattle.chunk_words.specs.Sits.{Sits, Attends, HasNoPass}

-- the first payload words of so many chunks
pub record HasStarts (setup : Setup) (count : ℕ) (starts : List ℕ) : Type 0 where
  pub count_is : length starts ≡ count
  pub each : (chunk : ℕ) → chunk < count → slice_index_or starts chunk 0 ≡ payload_start setup chunk

-- there is a body with room for the payload for each of the first so many chunks
pub record HasFreeBodies (spots : List Spot) (count : ℕ) (bodies : List (Option CommitBody)) : Type 0 where
  pub count_is : length bodies ≡ count
  pub each : (chunk : ℕ) → chunk < count → (body : CommitBody) × At bodies chunk (Some body)
      × IsFreeBody (slice_index_or spots chunk no_spot).payload_size body

-- the seats of so many writers, in their order, which have done nothing
pub record HasWriterSeats (table : HostTable) (count : ℕ) (seats : List WriterSeat) : Type 0 where
  pub count_is : length seats ≡ count
  pub each : (place : ℕ) (seat : WriterSeat) → At seats place seat
      → (seat.place ≡ place) × Sits table seat × (view_of seat.seat.me.0 ≡ newcomer)

-- a table that threads share, as it is made for these producers and writers, with the seats of the writers and the service's
pub record IsNewTable (producers : List ProducerSpec) (writers : List WriterSpec) (table : HostTable) (given : List WriterSeat)
    (server : ServiceSeat) : Type 0 where
  pub setup : table.layout ≡ setup_of producers writers
  pub seats : HasWriterSeats table (length writers) given
  pub service : Attends table server
  pub service_view : service_of server.seat.me.0 ≡ (first_world table.layout).service
  pub no_pass : HasNoPass server
