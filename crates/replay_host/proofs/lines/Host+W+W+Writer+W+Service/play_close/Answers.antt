-- The service plays the line alone, and the producer's flag falls.
use Rattle.std.proofs.Common.{◌∙◌, subst}
use Rattle.scenario_text.specs.declared.scenario.LineKind.{LineKind}
use Rattle.scenario_text.specs.Reach.{IsInReach, NamesProducer}
use Rattle.replay_host.proofs.MomentLemmas.{producer_there, producer_open, ranges_many}
use Rattle.replay_host.proofs.ServedLineLemmas.{close_played}
use Rattle.replay_host.proofs.lines.Host+W+W+Writer+W+Service.play_close.Goals as goal

pub close-requires-clause-host : goal.close-requires-clause-host
close-requires-clause-host g c = c.requires.next.2.at.going.kept.is_host

pub close-requires-clause-producer : goal.close-requires-clause-producer
close-requires-clause-producer g c =
    let moment = c.requires.next.0 in
    let names : NamesProducer moment.scenario.producers moment.before c.args.producer =
    subst (λ (kind : LineKind). IsInReach moment.scenario.buffers moment.scenario.producers moment.scenario.writers moment.before kind) c.requires.next.1 c.requires.next.2.reach in
    producer_there g.W.Words.means moment.scenario moment.before moment.notes c.args.self.now c.requires.next.2.at.going.kept c.args.producer names

pub close-requires-clause-open : goal.close-requires-clause-open
close-requires-clause-open g c =
    let moment = c.requires.next.0 in
    let names : NamesProducer moment.scenario.producers moment.before c.args.producer =
    subst (λ (kind : LineKind). IsInReach moment.scenario.buffers moment.scenario.producers moment.scenario.writers moment.before kind) c.requires.next.1 c.requires.next.2.reach in
    producer_open g.W.Words.means moment.scenario moment.before moment.notes c.args.self.now c.requires.next.2.at.going.kept c.args.producer names

pub returns : goal.returns
returns g c = record {
  played = λ moment what next taken.
      let names : NamesProducer moment.scenario.producers moment.before c.args.producer =
      subst (λ (kind : LineKind). IsInReach moment.scenario.buffers moment.scenario.producers moment.scenario.writers moment.before kind) what next.reach in
      let kept = next.at.going.kept in
      close_played g.W.Words.means moment c.args.producer c.args.self.now c.close.new.self taken taken what names.least names.most next
      c.close.ensures.host c.close.ensures.writers c.close.ensures.flags c.close.ensures.session
      (kept.is_host.producers ∙ ranges_many moment.scenario (g.W.Words.means.setup c.args.self.now.table) kept.laid) (c.close.ensures.done taken);
}
