use Rattle.chunk_plain.specs.Setup.{HasProducer}
use Rattle.trace_writer.specs.Core.{CoreAgrees}
use Rattle.trace_writer_rows.proofs.calls.make_calls.Given as goal

abbrev pub invariant-loop-i : goal.invariant-loop-i
invariant-loop-i g l = record {
  seat : g.W.Words.means.sits l.table l.writer.seat;
  needs : g.H.HelperOn.needs l.help l.table;
  producer : HasProducer (g.W.Words.means.setup l.table) 1;
  agrees : CoreAgrees (g.W.Words.means.setup l.table) (g.W.Words.means.place l.writer.seat) (g.W.Words.means.view l.table l.writer.seat) l.writer;
}
