-- A table that threads shared, once all its seats are back.
use Rattle.std.specs.Prelude.{◌≡◌, ℕ, ◌+◌, ◌≤◌, List, [], length, map, slice_index_or}
use Rattle.std.specs.Int.{bit_at}
use Rattle.page_geometry.specs.declared.page_word.TheConstants.{CLAIM_BIT}
use Rattle.page_geometry.specs.declared.chunk_state.ChunkState.TheVariants.{Free}
use Rattle.page_geometry.specs.PageBits.{HasState}
use Rattle.chunk_plain.specs.Setup.{Setup, spot}
use Rattle.chunk_plain.specs.Views.{At, WriterView, ServiceView, taken_of}
use Rattle.chunk_plain.specs.World.{World}
use Rattle.chunk_plain.specs.Letters.{AreLetters}
use Rattle.chunk_plain.specs.Owned.{held_count, IsOwned}
use Rattle.chunk_schedules.specs.Schedules.{IsLed}
use Rattle.chunk_words.specs.declared.host.HostTable.{HostTable}
use Rattle.chunk_words.specs.declared.seats.WriterSeat.{WriterSeat}
use Rattle.chunk_words.specs.Knows.{view_of}
use Rattle.chunk_words.specs.Places.{front_place}
use Rattle.chunk_words.specs.Sits.{Sits}

-- a writer with nothing left to do: it has claimed and holds no chunk, and each one that it completed was taken
pub record IsDone (service : ServiceView) (place : ℕ) (view : WriterView) : Type 0 where
  pub claimed : view.claimed ≡ []
  pub held : held_count view.begun ≡ 0
  pub taken : length view.begun ≤ (taken_of service place).count

-- the seats of all writers, in their order, which have nothing left to do
pub record HasAllSeats (table : HostTable) (service : ServiceView) (seats : List WriterSeat) : Type 0 where
  pub count : length seats ≡ length table.layout.writers
  pub each : (place : ℕ) (seat : WriterSeat) → At seats place seat
      → (seat.place ≡ place) × Sits table seat × IsDone service place (view_of seat.seat.me.0)

-- of each writer so many chunks were taken as it has completed
abbrev pub AllTaken : ServiceView → List WriterView → Type 0
AllTaken service views = (place : ℕ) (view : WriterView) → At views place view → (taken_of service place).count ≡ length view.begun

-- the views of the seats
abbrev pub views_of : List WriterSeat → List WriterView
views_of seats = map (λ (seat : WriterSeat). view_of seat.seat.me.0) seats

-- no chunk is used: its state is Free, and its claim bit is clear
abbrev pub IsUnused : Setup → List ℕ → ℕ → Type 0
IsUnused setup words chunk = HasState (slice_index_or words (front_place (spot setup chunk).page) 0) (spot setup chunk).place Free
    × (bit_at (slice_index_or words (front_place (spot setup chunk).page) 0) (CLAIM_BIT + (spot setup chunk).place) ≡ 0)

-- The views that the seats had are those of one owned world: the account of all that was done. A schedule of moves leads to it from a table
-- as it is made, and from each world that the service marked. Each answer that the service read was given, to a request that was made.
abbrev pub IsAccount : Setup → (marks : List World) → List WriterView → ServiceView → Type 0
IsAccount setup marks writers service =
    ∥ ((world : World) × IsOwned world × IsLed setup marks world × (world.writers ≡ writers) × (world.service ≡ service) × AreLetters world) ∥₁
