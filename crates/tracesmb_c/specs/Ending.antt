-- What the writers of a session leave at its end, and what they told the service.
use Rattle.std.specs.Prelude.{◌≡◌, ℕ, ◌<◌, ◌≤◌, List, [], length, Option, Some, Vec, slice_get, slice_index_or, vec_capacity}
use Rattle.std.specs.Global.{Global}
use Rattle.trace_model.specs.Packets.{begun_count, dropped_at_begin}
use Rattle.chunk_plain.specs.declared.tokens.TheConstants.{POSITION_LIMIT}
use Rattle.chunk_plain.specs.Owned.{held_count}
use Rattle.chunk_plain.specs.Views.{At, WriterView}
use Rattle.chunk_words.specs.declared.host.HostTable.{HostTable}
use Rattle.chunk_words.specs.declared.seats.WriterSeat.{WriterSeat}
use Rattle.chunk_words.specs.Knows.{Desk, Tale}
use Rattle.chunk_words.specs.Sits.{Sits, setup_in, known_by}
use Rattle.trace_writer.specs.Agreement.{counted}
use Rattle.schedule_laws.specs.Resting.{IsBetweenCalls}
use Rattle.thread_writer.specs.declared.writer.TraceWriter.{TraceWriter}
use Rattle.thread_writer.specs.Writing.{view_in}
use Rattle.tracesmb_c.specs.declared.session.Counted.{Counted}

-- none of the writers is lent
abbrev pub AreThere : List (Option TraceWriter) → Type 0
AreThere homes = (place : ℕ) → place < length homes → (writer : TraceWriter) × (slice_get homes place ≡ Some (Some writer))

-- what isn't counted
abbrev pub none_counted : Counted
none_counted = record { begun = 0; dropped = 0 }

-- No seat is there yet and nothing was counted, and there is room for so many of each.
pub record HaveRoom (number : ℕ) (seats : Vec WriterSeat Global) (counts : Vec Counted Global) : Type 0 where
  pub no_seats : seats.items ≡ []
  pub no_counts : counts.items ≡ []
  pub seats_room : number ≤ vec_capacity seats
  pub counts_room : number ≤ vec_capacity counts

-- So much a writer with this view counted.
pub record IsCountOf (view : WriterView) (count : Counted) : Type 0 where
  pub begun_is : count.begun ≡ counted (begun_count view.calls)
  pub dropped_is : count.dropped ≡ counted (dropped_at_begin view.calls)

-- The seat that the writer at this place left, which knows what the writer knew, and what it counted. It holds no chunk.
pub record IsLeft (table : HostTable) (homes : List (Option TraceWriter)) (place : ℕ) (seat : WriterSeat) (count : Counted) : Type 0 where
  pub writer : TraceWriter
  pub home : slice_get homes place ≡ Some (Some writer)
  pub knows : known_by seat ≡ view_in writer
  pub sits : Sits table seat
  pub place_is : seat.place ≡ place
  pub between : IsBetweenCalls (setup_in table) place (known_by seat)
  pub none_held : held_count (known_by seat).begun ≡ 0
  pub counts : IsCountOf (known_by seat) count

-- Each writer left its seat, in their order, and what it counted.
pub record AreLeft (table : HostTable) (homes : List (Option TraceWriter)) (seats : List WriterSeat) (counts : List Counted) : Type 0 where
  pub many : length seats ≡ length homes
  pub counts_many : length counts ≡ length homes
  pub each : (place : ℕ) (seat : WriterSeat) → slice_get seats place ≡ Some seat
      → IsLeft table homes place seat (slice_index_or counts place none_counted)

-- The service has heard of all that the writer of the seat has begun.
pub record IsTold (looks : ℕ) (desk : Desk) (place : ℕ) (seat : WriterSeat) : Type 0 where
  pub number : ℕ
  pub tale : Tale
  pub told : At desk.told number tale
  pub place_is : tale.place ≡ place
  pub begun_is : tale.begun ≡ (known_by seat).begun
  pub heard : tale.looks ≤ looks
  pub few : length (known_by seat).begun ≤ POSITION_LIMIT
