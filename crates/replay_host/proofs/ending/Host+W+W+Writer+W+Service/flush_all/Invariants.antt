-- The writers of open producers before this place have flushed.
use Rattle.replay_host.specs.Ending.{IsOver, HaveFlushedTo}
use Rattle.replay_host.proofs.ending.Host+W+W+Writer+W+Service.flush_all.Given as goal

abbrev pub invariant-loop-place : goal.invariant-loop-place
invariant-loop-place g l = (over : IsOver g.W.Words.means l.fn.self) → HaveFlushedTo g.W.Words.means over.scenario l.place l.fn.self l.self
