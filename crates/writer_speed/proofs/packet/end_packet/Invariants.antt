use Rattle.std.proofs.Common.{◌≡◌, true}
use Rattle.trace_writer.specs.Core.{in_packet, open_depth}
use Rattle.writer_speed.specs.Going.{GoesOn}
use Rattle.writer_speed.proofs.packet.end_packet.Given as goal

abbrev pub invariant-messages : goal.invariant-messages
invariant-messages g l = record {
  goes : GoesOn g.W.Words.means l.initial.table l.initial.writer l.table l.writer;
  inside : in_packet (g.W.Words.means.view l.table l.writer.seat) ≡ true;
}

abbrev pub decreases-messages : goal.decreases-messages
decreases-messages g l = open_depth (g.W.Words.means.view l.table l.writer.seat)
