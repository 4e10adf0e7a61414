-- The open producers before this one were closed.
use Rattle.replay_host.specs.Serving.{HasFlags, HaveClosedTo}
use Rattle.replay_host.proofs.ending.Host+W+W+Writer+W+Service.close_all.Given as goal

abbrev pub invariant-loop-index : goal.invariant-loop-index
invariant-loop-index g l = (flags : HasFlags g.W.Words.means l.fn.self) → HaveClosedTo g.W.Words.means flags.scenario flags.before l.index l.fn.self l.self
