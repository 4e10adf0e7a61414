-- What the service's calls on a table ask, and what they leave.
use Rattle.std.specs.Prelude.{◌≡◌, ℕ, ◌+◌, ◌-◌, ◌<◌, ◌≤◌, false, List, length, Some}
use Rattle.trace_base.specs.declared.limits.TheConstants.{MAX_FRAGMENTS, FIRST_SEQUENCE}
use Rattle.page_geometry.specs.declared.chunk_header.TheConstants.{MAX_FLAGS}
use Rattle.trace_model.specs.Images.{Image}
use Rattle.chunk_plain.specs.Setup.{Setup, size_of, producer_of}
use Rattle.chunk_plain.specs.Views.{Noted, ServiceView}
use Rattle.chunk_plain.specs.World.{World}
use Rattle.chunk_plain.specs.Steps.{serviced}
use Rattle.chunk_plain.specs.Meaning.{Meaning, IsServiceStep}
use Rattle.service_core.specs.declared.service.ServiceCore.{ServiceCore}
use Rattle.service_core.specs.Agreement.{ServiceAgrees, KeepsRest, is_closed}
use Rattle.service_core.specs.Taking.{noted_more}

-- the service's seat serves at the table, and the service agrees with what the seat knows
pub record ServesAt {T W S : Type 0} (means : Meaning T W S) (table : T) (core : ServiceCore S) : Type 0 where
  pub serves : means.serves table core.seat
  pub agrees : ServiceAgrees (means.setup table) (means.service_view table core.seat) core

-- and the table takes reads from the seat
pub record ServesReads {T W S : Type 0} (means : Meaning T W S) (table : T) (core : ServiceCore S) : Type 0 where
  pub service : ServesAt means table core
  pub reads : means.takes_reads table core.seat

-- or there is a writer at this place, whose sequence isn't closed
pub record ServesWriter {T W S : Type 0} (means : Meaning T W S) (table : T) (core : ServiceCore S) (place : ℕ) : Type 0 where
  pub service : ServesAt means table core
  pub inside : place < length (means.setup table).writers
  pub is_open : is_closed (means.setup table) core place ≡ false

-- An image can come by a commit: its sequence is that of a writer and isn't closed, it is as long as the chunks of the writer's producer, and its
-- numbers have their widths.
pub record CanCome {S : Type 0} (setup : Setup) (core : ServiceCore S) (image : Image) : Type 0 where
  pub least : FIRST_SEQUENCE ≤ image.sequence
  pub most : image.sequence < FIRST_SEQUENCE + length setup.writers
  pub is_open : is_closed setup core (image.sequence - FIRST_SEQUENCE) ≡ false
  pub size : length image.payload ≡ size_of setup (producer_of setup (image.sequence - FIRST_SEQUENCE))
  pub count : image.count ≤ MAX_FRAGMENTS
  pub flags : image.flags ≤ MAX_FLAGS

-- The service serves on: it agrees with what its seat knows then, it keeps the session and which sequences are closed, and the table's set-up and
-- the other seats, with what they know, are as they were. Chunks may have been taken.
pub record ServesOn {T W S : Type 0} (means : Meaning T W S) (table : T) (core : ServiceCore S) (left : T)
    (done : ServiceCore S) : Type 0 where
  pub agrees : ServiceAgrees (means.setup table) (means.service_view left done.seat) done
  pub keeps : KeepsRest (means.setup table) core done
  pub step : IsServiceStep means table core.seat left done.seat

-- a table that tells its world tells it still, and nothing of it has changed but what the service knows
abbrev pub TellsView : {T W S : Type 0} → Meaning T W S → (old new : T) → ServiceView → Type 0
TellsView means old new view = (world : World) → means.told old ≡ Some world → means.told new ≡ Some (serviced world view)

-- The service serves on, and nothing has changed in a told world but what it knows: it took no chunk.
pub record NotesOn {T W S : Type 0} (means : Meaning T W S) (table : T) (core : ServiceCore S) (left : T)
    (done : ServiceCore S) : Type 0 where
  pub service : ServesOn means table core left done
  pub told : TellsView means table left (means.service_view left done.seat)

-- the service's seat noted these and learnt nothing else, and nothing else has changed in a told world
pub record NotesAlone {T W S : Type 0} (means : Meaning T W S) (notes : List Noted) (table : T) (seat : S) (left : T)
    (after : S) : Type 0 where
  pub view : means.service_view left after ≡ noted_more (means.service_view table seat) notes
  pub step : IsServiceStep means table seat left after
  pub told : TellsView means table left (means.service_view left after)
