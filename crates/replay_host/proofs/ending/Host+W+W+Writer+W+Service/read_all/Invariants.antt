-- The buffers before this one were read.
use Rattle.std.proofs.Common.{◌≡◌}
use Rattle.replay_host.specs.Ending.{HasEnded, reads_to}
use Rattle.replay_host.proofs.ending.Host+W+W+Writer+W+Service.read_all.Given as goal

abbrev pub invariant-loop-index : goal.invariant-loop-index
invariant-loop-index g l = record {
  ended : HasEnded g.W.Words.means (reads_to l.index) l.fn.self (g.O.Sink.taken l.fn.out) l.self (g.O.Sink.taken l.out);
  steady : g.O.Sink.faults l.out ≡ g.O.Sink.faults l.fn.out;
  may : g.O.Sink.may_write l.out;
}
