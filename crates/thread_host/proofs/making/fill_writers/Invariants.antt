-- The seats that came have their writers.
use Rattle.std.proofs.Common.{◌≡◌, ℕ, ◌≤◌, ◌++◌, Some, slice_get, length}
use Rattle.std.specs.Prelude.{vec_capacity}
use Rattle.thread_writer.specs.declared.writer.TraceWriter.{TraceWriter}
use Rattle.thread_host.specs.Making.{IsNewWriter}
use Rattle.thread_host.proofs.making.fill_writers.Given as goal

abbrev pub invariant-loop-seat : goal.invariant-loop-seat
invariant-loop-seat l = record {
  rests : l.yielded ++ l.seat-iterator.rest.items ≡ l.fn.seats.items;
  many : length l.writers.items ≡ length l.yielded;
  room : length l.specs ≤ vec_capacity l.writers;
  made : (place : ℕ) (writer : TraceWriter) → slice_get l.writers.items place ≡ Some writer → IsNewWriter l.table place writer;
}
