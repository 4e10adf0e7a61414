use Rattle.std.proofs.Common.{◌≡◌, true}
use Rattle.trace_writer.specs.Core.{in_packet, open_depth}
use Rattle.thread_writer.specs.Writing.{view_in}
use Rattle.table_speed.specs.Going.{IsReady}
use Rattle.table_speed.proofs.writers.end_packet.Given as goal

abbrev pub invariant-messages : goal.invariant-messages
invariant-messages l = record {
  ready : IsReady l.fn.host l.writer;
  inside : in_packet (view_in l.writer) ≡ true;
}

abbrev pub decreases-messages : goal.decreases-messages
decreases-messages l = open_depth (view_in l.writer)
