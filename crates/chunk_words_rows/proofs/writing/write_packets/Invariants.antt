use Rattle.std.proofs.Common.{◌≡◌, false}
use Rattle.trace_writer.specs.Core.{in_packet}
use Rattle.thread_writer.specs.Writing.{view_in}
use Rattle.chunk_words_rows.specs.Going.{IsReady}
use Rattle.chunk_words_rows.proofs.writing.write_packets.Given as goal

abbrev pub invariant-loop-number : goal.invariant-loop-number
invariant-loop-number g l = record {
  ready : IsReady l.fn.host l.writer;
  outside : in_packet (view_in l.writer) ≡ false;
}
