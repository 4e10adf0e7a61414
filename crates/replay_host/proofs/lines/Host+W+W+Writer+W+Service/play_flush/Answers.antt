-- The line's writer is asked for what the line says.
use Rattle.std.proofs.Common.{[], ◌∷◌}
use Rattle.trace_model.specs.Calls.{Flushed}
use Rattle.replay_host.proofs.MomentLemmas.{asked_played, asking_place, asking_open, asking_ready}
use Rattle.replay_host.proofs.lines.Host+W+W+Writer+W+Service.play_flush.Goals as goal

pub flush-requires-clause-host : goal.flush-requires-clause-host
flush-requires-clause-host g c = c.requires.next.1.next.at.going.kept.is_host

pub flush-requires-clause-place : goal.flush-requires-clause-place
flush-requires-clause-place g c = asking_place g.W.Words.means c.requires.next.0 c.args.place (Flushed ∷ []) c.args.self.now c.requires.next.1

pub flush-requires-clause-open : goal.flush-requires-clause-open
flush-requires-clause-open g c = asking_open g.W.Words.means c.requires.next.0 c.args.place (Flushed ∷ []) c.args.self.now c.requires.next.1

pub flush-requires-clause-ready : goal.flush-requires-clause-ready
flush-requires-clause-ready g c = asking_ready g.W.Words.means c.requires.next.0 c.args.place (Flushed ∷ []) c.args.self.now c.requires.next.1

pub returns : goal.returns
returns g c = record { played = λ moment comes taken. asked_played g.W.Words.means moment c.args.place (Flushed ∷ []) c.args.self.now c.flush.new.self taken comes c.flush.ensures.host c.flush.ensures.asked }
