use Rattle.std.proofs.Common.{◌≡◌, false}
use Rattle.trace_writer.specs.Core.{in_packet}
use Rattle.writer_speed.specs.Collecting.{IsCollecting}
use Rattle.writer_speed.specs.Going.{IsReady}
use Rattle.writer_speed.proofs.write_all.Given as goal

abbrev pub invariant-loop : goal.invariant-loop
invariant-loop g l = record {
  ready : IsReady g.W.Words.means l.table l.writer;
  outside : in_packet (g.W.Words.means.view l.table l.writer.seat) ≡ false;
  collects : IsCollecting g.W.Words.means l.table l.service l.range l.taken;
}
