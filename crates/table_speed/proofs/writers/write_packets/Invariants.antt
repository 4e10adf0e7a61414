use Rattle.std.proofs.Common.{◌≡◌, false}
use Rattle.trace_writer.specs.Core.{in_packet}
use Rattle.thread_writer.specs.Writing.{view_in}
use Rattle.table_speed.specs.Going.{IsReady}
use Rattle.table_speed.proofs.writers.write_packets.Given as goal

abbrev pub invariant-loop : goal.invariant-loop
invariant-loop g l = record {
  ready : IsReady l.fn.host l.writer;
  outside : in_packet (view_in l.writer) ≡ false;
}
