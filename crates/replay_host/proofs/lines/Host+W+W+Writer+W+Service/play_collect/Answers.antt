-- The service plays the line alone.
use Rattle.std.proofs.Common.{[], ◌∷◌}
use Rattle.replay_model.specs.Acts.{Collect}
use Rattle.replay_host.proofs.MomentLemmas.{producer_there, producer_open}
use Rattle.replay_host.proofs.ServedLineLemmas.{served_played}
use Rattle.replay_host.proofs.lines.Host+W+W+Writer+W+Service.play_collect.Goals as goal

pub collect-requires-clause-host : goal.collect-requires-clause-host
collect-requires-clause-host g c = c.requires.next.1.next.at.going.kept.is_host

pub collect-requires-clause-producer : goal.collect-requires-clause-producer
collect-requires-clause-producer g c =
    producer_there g.W.Words.means c.requires.next.0.scenario c.requires.next.0.before c.requires.next.0.notes c.args.self.now c.requires.next.1.next.at.going.kept c.args.producer c.requires.next.2

pub collect-requires-clause-open : goal.collect-requires-clause-open
collect-requires-clause-open g c =
    producer_open g.W.Words.means c.requires.next.0.scenario c.requires.next.0.before c.requires.next.0.notes c.args.self.now c.requires.next.1.next.at.going.kept c.args.producer c.requires.next.2

pub returns : goal.returns
returns g c = record {
  played = λ moment comes taken.
      served_played g.W.Words.means moment (Collect c.args.producer ∷ []) c.args.self.now c.collect.new.self taken taken comes
      c.collect.ensures.leaves.host c.collect.ensures.leaves.writers c.collect.ensures.leaves.opened c.collect.ensures.leaves.session (c.collect.ensures.done taken);
}
