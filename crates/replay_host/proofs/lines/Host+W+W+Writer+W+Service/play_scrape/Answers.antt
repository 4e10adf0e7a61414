-- The service plays the line alone.
use Rattle.std.proofs.Common.{[], ◌∷◌}
use Rattle.replay_model.specs.Acts.{Scrape}
use Rattle.replay_host.proofs.MomentLemmas.{producer_there, producer_open}
use Rattle.replay_host.proofs.ServedLineLemmas.{served_played}
use Rattle.replay_host.proofs.lines.Host+W+W+Writer+W+Service.play_scrape.Goals as goal

pub scrape-requires-clause-host : goal.scrape-requires-clause-host
scrape-requires-clause-host g c = c.requires.next.1.next.at.going.kept.is_host

pub scrape-requires-clause-producer : goal.scrape-requires-clause-producer
scrape-requires-clause-producer g c =
    producer_there g.W.Words.means c.requires.next.0.scenario c.requires.next.0.before c.requires.next.0.notes c.args.self.now c.requires.next.1.next.at.going.kept c.args.producer c.requires.next.2

pub scrape-requires-clause-open : goal.scrape-requires-clause-open
scrape-requires-clause-open g c =
    producer_open g.W.Words.means c.requires.next.0.scenario c.requires.next.0.before c.requires.next.0.notes c.args.self.now c.requires.next.1.next.at.going.kept c.args.producer c.requires.next.2

pub returns : goal.returns
returns g c = record {
  played = λ moment comes taken.
      served_played g.W.Words.means moment (Scrape c.args.producer ∷ []) c.args.self.now c.scrape.new.self taken taken comes
      c.scrape.ensures.leaves.host c.scrape.ensures.leaves.writers c.scrape.ensures.leaves.opened c.scrape.ensures.leaves.session (c.scrape.ensures.done taken);
}
