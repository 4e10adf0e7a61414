use Rattle.chunk_plain.specs.Meaning.{IsServiceStep}
use Rattle.writer_speed.specs.Collecting.{IsCollecting}
use Rattle.writer_speed.proofs.collector.collect.Given as goal

abbrev pub invariant-loop : goal.invariant-loop
invariant-loop g l = record {
  collects : IsCollecting g.W.Words.means l.table l.seat l.range l.next;
  step : IsServiceStep g.W.Words.means l.initial.table l.initial.seat l.table l.seat;
}
