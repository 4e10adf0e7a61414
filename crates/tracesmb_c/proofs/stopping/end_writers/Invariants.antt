-- The writers before this one have left their seats, and the service has heard of them.
use Rattle.std.proofs.Common.{◌≡◌, ℕ, ◌≤◌, Option, Some, List, ◌++◌, length}
use Rattle.std.specs.Prelude.{slice_get, slice_index_or, vec_capacity}
use Rattle.chunk_words.specs.declared.seats.WriterSeat.{WriterSeat}
use Rattle.thread_service.specs.Serving as serving
use Rattle.thread_service.specs.Serving.{Serves, KnowsSame}
use Rattle.thread_writer.specs.declared.writer.TraceWriter.{TraceWriter}
use Rattle.tracesmb_c.specs.Ending.{IsLeft, IsTold, none_counted}
use Rattle.tracesmb_c.proofs.stopping.end_writers.Given as goal

abbrev pub invariant-writers : goal.invariant-writers
invariant-writers l = record {
  gone : List (Option TraceWriter);
  all : gone ++ l.left.items ≡ l.fn.homes.items;
  many : length gone ≡ l.place;
  seats_many : length l.seats.items ≡ l.place;
  counts_many : length l.counts.items ≡ l.place;
  seats_room : length l.fn.homes.items ≤ vec_capacity l.seats;
  counts_room : length l.fn.homes.items ≤ vec_capacity l.counts;
  serves : Serves l.table l.service;
  same : KnowsSame l.fn.service l.service;
  left : (place : ℕ) (seat : WriterSeat) → slice_get l.seats.items place ≡ Some seat
      → IsLeft l.table l.fn.homes.items place seat (slice_index_or l.counts.items place none_counted);
  told : (place : ℕ) (seat : WriterSeat) → slice_get l.seats.items place ≡ Some seat
      → IsTold (length (serving.view_in l.service).looks) (serving.desk_in l.service) place seat;
}
