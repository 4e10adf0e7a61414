use Rattle.std.proofs.Common.{◌≡◌, ◌-◌, length}
use Rattle.stream_producer.proofs.FeedLemmas.{FedTo}
use Rattle.stream_producer.proofs.feeding.StreamCore+W+W+Service.feed.Given as goal

abbrev pub invariant-loop-at : goal.invariant-loop-at
invariant-loop-at g l = record {
  fed : FedTo g.W.Words.means l.piece l.initial.self (g.O.Sink.taken l.initial.out) l.at l.self (g.O.Sink.taken l.out);
  may : g.O.Sink.may_write l.out;
  steady : g.O.Sink.faults l.out ≡ g.O.Sink.faults l.initial.out;
}

abbrev pub decreases-loop-at : goal.decreases-loop-at
decreases-loop-at g l = length l.piece - l.at
