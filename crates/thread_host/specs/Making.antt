-- A writer of a table as it is made.
use Rattle.std.specs.Prelude.{◌≡◌, ℕ, false}
use Rattle.chunk_plain.specs.Views.{newcomer}
use Rattle.chunk_words.specs.declared.host.HostTable.{HostTable}
use Rattle.trace_writer.specs.Core.{is_stalled}
use Rattle.thread_writer.specs.declared.writer.TraceWriter.{TraceWriter}
use Rattle.thread_writer.specs.Writing.{core_of, view_in, Writes}

-- the writer has this place at the table, and nothing was asked of it
pub record IsNewWriter (table : HostTable) (place : ℕ) (writer : TraceWriter) : Type 0 where
  pub writes : Writes table writer
  pub place_is : (core_of writer).seat.place ≡ place
  pub fresh : view_in writer ≡ newcomer
  pub going : is_stalled (core_of writer) ≡ false
