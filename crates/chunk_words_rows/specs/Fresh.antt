-- The seats of a table before its writers have done anything.
use Rattle.std.specs.Prelude.{◌≡◌, ℕ, []}
use Rattle.chunk_plain.specs.Views.{newcomer, asked_in}
use Rattle.chunk_words.specs.declared.host.HostTable.{HostTable}
use Rattle.chunk_words.specs.declared.seats.WriterSeat.{WriterSeat}
use Rattle.chunk_words.specs.declared.seats.ServiceSeat.{ServiceSeat}
use Rattle.chunk_words.specs.Knows.{service_of}
use Rattle.chunk_words.specs.Sits.{Sits, HasNoPass, known_by}

-- the seat is that of the table's writer at this place, which has done nothing
abbrev pub IsFreshSeat : HostTable → ℕ → WriterSeat → Type 0
IsFreshSeat table place seat = (seat.place ≡ place) × Sits table seat × (known_by seat ≡ newcomer)

-- the service noted nothing and made no flush request, and there is no reading pass
pub record IsUntouched (seat : ServiceSeat) : Type 0 where
  pub no_pass : HasNoPass seat
  pub none_noted : (service_of seat.seat.me.0).events ≡ []
  pub none_asked : asked_in (service_of seat.seat.me.0).letters ≡ 0
