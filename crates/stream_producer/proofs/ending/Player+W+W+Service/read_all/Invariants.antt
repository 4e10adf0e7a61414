-- The buffers before this one were read.
use Rattle.std.proofs.Common.{◌≡◌}
use Rattle.stream_producer.proofs.ReadingLemmas.{ReadsTo}
use Rattle.stream_producer.proofs.ending.Player+W+W+Service.read_all.Given as goal

abbrev pub invariant-loop-index : goal.invariant-loop-index
invariant-loop-index g l = record {
  reads : ReadsTo g.W.Words.means l.fn.self (g.O.Sink.taken l.fn.out) l.index l.self (g.O.Sink.taken l.out);
  steady : g.O.Sink.faults l.out ≡ g.O.Sink.faults l.fn.out;
  may : g.O.Sink.may_write l.out;
}
