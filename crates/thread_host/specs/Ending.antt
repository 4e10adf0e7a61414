-- What writers leave that have done their lines: their seats, what they counted, and what they told the service.
use Rattle.std.specs.Prelude.{◌≡◌, ℕ, ◌≤◌, List, Some, length, slice_get, slice_index_or}
use Rattle.trace_model.specs.Calls.{Call}
use Rattle.trace_model.specs.Packets.{begun_count, dropped_at_begin}
use Rattle.chunk_plain.specs.declared.tokens.TheConstants.{POSITION_LIMIT}
use Rattle.chunk_plain.specs.Letters.{last_flush}
use Rattle.chunk_plain.specs.Views.{At, ServiceView, taken_of}
use Rattle.chunk_words.specs.declared.host.HostTable.{HostTable}
use Rattle.chunk_words.specs.declared.seats.WriterSeat.{WriterSeat}
use Rattle.chunk_words.specs.Knows.{Desk, Tale}
use Rattle.chunk_words.specs.Sits.{Sits, setup_in, known_by}
use Rattle.trace_writer.specs.Agreement.{counted}
use Rattle.scenario_text.specs.declared.scenario.NumberedLine.{NumberedLine}
use Rattle.loss_report.specs.declared.counts.SequenceCounts.{SequenceCounts}
use Rattle.run_model.specs.Settled.{HasDoneLines, last_flushes}

-- what a writer counts by itself of its packets, by the calls that it noted
abbrev pub begun_counts : List Call → SequenceCounts
begun_counts calls = record {
  begun = counted (begun_count calls);
  delivered = 0;
  dropped = counted (dropped_at_begin calls);
  overwritten = 0;
  discarded = 0;
  cut = 0;
}

-- the counts of a sequence that there isn't
abbrev pub no_counts : SequenceCounts
no_counts = record { begun = 0; delivered = 0; dropped = 0; overwritten = 0; discarded = 0; cut = 0 }

-- The seat of a writer that has done its lines, and what the writer counted.
pub record IsDoneSeat (lines : List NumberedLine) (table : HostTable) (place : ℕ) (seat : WriterSeat) (counts : SequenceCounts) : Type 0 where
  pub sits : Sits table seat
  pub place_is : seat.place ≡ place
  pub done : HasDoneLines (setup_in table) lines last_flushes place (known_by seat)
  pub counts_are : counts ≡ begun_counts (known_by seat).calls

-- those of the first writers, in their order
abbrev pub AreDoneSeats : List NumberedLine → HostTable → List WriterSeat → List SequenceCounts → Type 0
AreDoneSeats lines table seats sequences = (place : ℕ) (seat : WriterSeat) → slice_get seats place ≡ Some seat
    → IsDoneSeat lines table place seat (slice_index_or sequences place no_counts)

-- The service has heard of all that the writer of the seat has begun, and of its last answer.
pub record HasHeard (looks : ℕ) (desk : Desk) (place : ℕ) (seat : WriterSeat) : Type 0 where
  pub number : ℕ
  pub tale : Tale
  pub told : At desk.told number tale
  pub place_is : tale.place ≡ place
  pub begun_is : tale.begun ≡ (known_by seat).begun
  pub flush_is : tale.flush ≡ last_flush (known_by seat).letters.answers
  pub heard : tale.looks ≤ looks
  pub few : length (known_by seat).begun ≤ POSITION_LIMIT

-- and so of each of these
abbrev pub HasHeardAll : (looks : ℕ) → Desk → List WriterSeat → Type 0
HasHeardAll looks desk seats = (place : ℕ) (seat : WriterSeat) → slice_get seats place ≡ Some seat → HasHeard looks desk place seat

-- all that the writers of the seats have begun was taken
abbrev pub AreTakenOut : ServiceView → List WriterSeat → Type 0
AreTakenOut view seats = (place : ℕ) (seat : WriterSeat) → slice_get seats place ≡ Some seat
    → length (known_by seat).begun ≤ (taken_of view place).count
