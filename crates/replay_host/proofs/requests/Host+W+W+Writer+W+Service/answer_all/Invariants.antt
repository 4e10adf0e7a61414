-- The writers before this place were asked to answer.
use Rattle.replay_host.specs.Answering.{IsAmid, HaveAnsweredTo}
use Rattle.replay_host.proofs.requests.Host+W+W+Writer+W+Service.answer_all.Given as goal

abbrev pub invariant-loop-place : goal.invariant-loop-place
invariant-loop-place g l = (amid : IsAmid g.W.Words.means l.fn.self)
    → HaveAnsweredTo g.W.Words.means amid.scenario amid.before l.place l.fn.self l.self
