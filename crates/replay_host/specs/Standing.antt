-- Writers, table and service between two acts: each has a seat of the table, and agrees with its view.
use Rattle.std.specs.Prelude.{◌≡◌, ℕ, false, List, length, Some, slice_get}
use Rattle.chunk_plain.specs.Meaning.{Meaning}
use Rattle.trace_writer.specs.declared.writer.WriterCore.{WriterCore}
use Rattle.trace_writer.specs.Core.{CoreAgrees, is_stalled}
use Rattle.service_core.specs.declared.service.ServiceCore.{ServiceCore}
use Rattle.service_core.specs.Agreement.{ServiceAgrees}

-- the writer has the seat of this place, agrees with what the seat knows, and isn't stalled
pub record IsSeated {T W S : Type 0} (means : Meaning T W S) (table : T) (place : ℕ) (core : WriterCore W) : Type 0 where
  pub sits : means.sits table core.seat
  pub place_is : means.place core.seat ≡ place
  pub agrees : CoreAgrees (means.setup table) place (means.view table core.seat) core
  pub going : is_stalled core ≡ false

-- so has each of these writers
abbrev pub AreSeated : {T W S : Type 0} → Meaning T W S → T → List (WriterCore W) → Type 0
AreSeated {T} {W} means table cores = (place : ℕ) (core : WriterCore W) → slice_get cores place ≡ Some core
    → IsSeated means table place core

-- the service has its seat, from which reads are taken, and agrees with what the seat knows
pub record IsServed {T W S : Type 0} (means : Meaning T W S) (table : T) (service : ServiceCore S) : Type 0 where
  pub serves : means.serves table service.seat
  pub agrees : ServiceAgrees (means.setup table) (means.service_view table service.seat) service
  pub reads : means.takes_reads table service.seat

-- each writer of the table is there and has its seat, and so has the service
pub record Stands {T W S : Type 0} (means : Meaning T W S) (table : T) (cores : List (WriterCore W)) (service : ServiceCore S) : Type 0 where
  pub many : length cores ≡ length (means.setup table).writers
  pub seated : AreSeated means table cores
  pub served : IsServed means table service
