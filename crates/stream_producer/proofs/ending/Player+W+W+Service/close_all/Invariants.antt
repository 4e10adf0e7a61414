-- The sequences before this place were closed.
use Rattle.stream_producer.proofs.CloseLemmas.{ClosesTo}
use Rattle.stream_producer.proofs.ending.Player+W+W+Service.close_all.Given as goal

abbrev pub invariant-loop-place : goal.invariant-loop-place
invariant-loop-place g l = ClosesTo g.W.Words.means l.fn.self l.place l.self
