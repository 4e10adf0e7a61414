-- The complete chunks of the open producers before this one were taken.
use Rattle.replay_host.specs.Serving.{HasFlags, HaveCollectedTo}
use Rattle.replay_host.proofs.requests.Host+W+W+Writer+W+Service.collect_all.Given as goal

abbrev pub invariant-loop-index : goal.invariant-loop-index
invariant-loop-index g l = (flags : HasFlags g.W.Words.means l.fn.self)
    → HaveCollectedTo g.W.Words.means flags.scenario flags.before l.index l.fn.self l.self
