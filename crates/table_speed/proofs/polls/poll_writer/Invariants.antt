use Rattle.std.proofs.Common.{◌≡◌, false}
use Rattle.trace_writer.specs.Core.{in_packet}
use Rattle.thread_writer.specs.Writing.{view_in, Writes}
use Rattle.table_speed.proofs.polls.poll_writer.Given as goal

abbrev pub invariant-loop : goal.invariant-loop
invariant-loop l = record {
  writes : Writes l.fn.host l.writer;
  outside : in_packet (view_in l.writer) ≡ false;
}
