-- What a table of chunks means, and what a step of one of its seats leaves of all else.
use Rattle.std.specs.Prelude.{◌≡◌, ◌≢◌, ℕ, Option}
use Rattle.chunk_plain.specs.Setup.{Setup}
use Rattle.chunk_plain.specs.Views.{WriterView, ServiceView}
use Rattle.chunk_plain.specs.World.{World}

-- T is the table, W a writer's seat, S the service's.
pub record Meaning (T W S : Type 0) : Type 1 where
  pub setup : T → Setup
  -- the seat is one of this table's
  pub sits : T → W → Type 0
  -- the writer's place in the list that the table was made with, from 0: its number is one more
  pub place : W → ℕ
  -- what the seat knows
  pub view : T → W → WriterView
  pub serves : T → S → Type 0
  pub service_view : T → S → ServiceView
  -- the world, where the table tells it
  pub told : T → Option World
  -- `note` takes a read from this seat
  pub takes_reads : T → S → Type 0

-- A step of a writer's seat leaves all else of the table: its set-up, and the other seats with their views. Of its own view it leaves what
-- is known of flush requests: those are no part of what any table of chunks offers.
pub record IsWriterStep {T W S : Type 0} (means : Meaning T W S) (old : T) (seat : W) (new : T) (after : W) : Type 0 where
  pub setup_stays : means.setup new ≡ means.setup old
  pub seat_stays : means.sits new after
  pub place_stays : means.place after ≡ means.place seat
  pub writers_stay : (other : W) → means.sits old other → means.place other ≢ means.place seat
      → means.sits new other × (means.view new other ≡ means.view old other)
  pub service_stays : (other : S) → means.serves old other
      → means.serves new other × (means.service_view new other ≡ means.service_view old other)
  pub reads_stay : (other : S) → means.takes_reads old other → means.takes_reads new other
  pub letters_stay : (means.view new after).letters ≡ (means.view old seat).letters

-- and so does a step of the service's seat, from which reads are taken as before
pub record IsServiceStep {T W S : Type 0} (means : Meaning T W S) (old : T) (seat : S) (new : T) (after : S) : Type 0 where
  pub setup_stays : means.setup new ≡ means.setup old
  pub seat_stays : means.serves new after
  pub writers_stay : (other : W) → means.sits old other → means.sits new other × (means.view new other ≡ means.view old other)
  pub reads_stay : means.takes_reads old seat → means.takes_reads new after
  pub letters_stay : (means.service_view new after).letters ≡ (means.service_view old seat).letters
