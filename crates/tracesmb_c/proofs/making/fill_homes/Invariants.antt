-- The seats that came have their writers.
use Rattle.std.proofs.Common.{◌≡◌, ℕ, ◌≤◌, Option, ◌++◌, Some, slice_get, length}
use Rattle.std.specs.Prelude.{vec_capacity}
use Rattle.thread_writer.specs.declared.writer.TraceWriter.{TraceWriter}
use Rattle.tracesmb_c.specs.Sessions.{IsNewHome}
use Rattle.tracesmb_c.proofs.making.fill_homes.Given as goal

abbrev pub invariant-loop-seat : goal.invariant-loop-seat
invariant-loop-seat l = record {
  rests : l.yielded ++ l.seat-iterator.rest.items ≡ l.fn.seats.items;
  many : length l.homes.items ≡ length l.yielded;
  room : length l.specs ≤ vec_capacity l.homes;
  made : (place : ℕ) (home : Option TraceWriter) → slice_get l.homes.items place ≡ Some home → IsNewHome l.table l.specs place home;
}
