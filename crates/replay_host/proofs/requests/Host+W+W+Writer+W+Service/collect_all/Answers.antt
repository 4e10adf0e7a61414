-- One open producer's chunks are taken behind another's.
use Rattle.std.proofs.Common.{◌≡◌, ◌∙◌, ℕ, suc, ◌+◌, ◌<◌, length, sym, subst, arith}
use Rattle.replay_host.specs.Serving.{HaveCollectedTo}
use Rattle.replay_host.proofs.CollectedLemmas.{flags_many, flag_producer, flag_says, collected_none, collected_more, collected_closed, collected_all}
use Rattle.replay_host.proofs.requests.Host+W+W+Writer+W+Service.collect_all.Goals as goal
use Rattle.replay_host.proofs.requests.Host+W+W+Writer+W+Service.collect_all.Goals.{then-index, else-index}

pub loop-index-init : goal.loop-index-init
loop-index-init g c flags = collected_none g.W.Words.means flags.scenario flags.before c.args.self.now flags.kept.is_host

pub overflow_cast-index : goal.overflow_cast-index
overflow_cast-index g c =
    let flags = c.requires.flags in
    let many = flags_many g.W.Words.means flags.scenario flags.before flags.notes c.args.self.now flags.kept in
    let few = flags.kept.few_producers in
    let joined = c.args.self.now.open_producers.ok.0 in
    let end = c.len-index-end.ensures in
    let test = c.loop-index-test.true in
    omega (arith, many, few, joined, end, test)

pub overflow_add-index : goal.overflow_add-index
overflow_add-index g c =
    let flags = c.requires.flags in
    let many = flags_many g.W.Words.means flags.scenario flags.before flags.notes c.args.self.now flags.kept in
    let few = flags.kept.few_producers in
    let joined = c.args.self.now.open_producers.ok.0 in
    let end = c.len-index-end.ensures in
    let test = c.loop-index-test.true in
    omega (arith, many, few, joined, end, test)

pub collect-requires-clause-host : goal.collect-requires-clause-host
collect-requires-clause-host g c = (c.loop-index.invariant c.requires.flags).served.host

pub collect-requires-clause-producer : goal.collect-requires-clause-producer
collect-requires-clause-producer g c =
    let served = (c.loop-index.invariant c.requires.flags).served in
    let joined = c.args.self.now.open_producers.ok.0 in
    let end = c.len-index-end.ensures in
    let test = c.loop-index-test.true in
    flag_producer g.W.Words.means c.loop-index.self c.loop-index.index served.host
    (subst (λ v. c.loop-index.index < length v.items) (sym served.opened) (omega (arith, joined, end, test)))

pub loop-index-preserved : goal.loop-index-preserved
loop-index-preserved g c flags =
    let means = g.W.Words.means in
    let old = c.args.self.now in
    let mid = c.loop-index.self in
    let index : ℕ = c.loop-index.index in
    let to = c.loop-index.invariant flags in
    let many = flags_many means flags.scenario flags.before flags.notes old flags.kept in
    let joined = old.open_producers.ok.0 in
    let end = c.len-index-end.ensures in
    let test = c.loop-index-test.true in
    let below : index < length flags.scenario.producers = omega (arith, many, joined, end, test) in
    let next : suc index ≡ index + 1 = omega arith in
    let says = flag_says means flags.scenario flags.before flags.notes old mid index c.index.result.now flags.kept to.served.opened below
    c.index.ensures in
    elim c.if-index.branch [
      | then-index w ↦
          subst (λ h. HaveCollectedTo means flags.scenario flags.before (index + 1) old h) (sym w.self-is)
          (subst (λ (n : ℕ). HaveCollectedTo means flags.scenario flags.before n old w.collect.new.self) next
          (collected_more means flags.scenario flags.before index (index + 1) old mid w.collect.new.self (sym next) to below
          (says ∙ w.if-index.true)
          (record {
            host = w.collect.ensures.leaves.host;
            writers = w.collect.ensures.leaves.writers;
            opened = w.collect.ensures.leaves.opened;
            session = w.collect.ensures.leaves.session;
            done = w.collect.ensures.done;
          })))
      | else-index w ↦
          subst (λ h. HaveCollectedTo means flags.scenario flags.before (index + 1) old h) (sym w.self-is)
          (subst (λ (n : ℕ). HaveCollectedTo means flags.scenario flags.before n old mid) next
          (collected_closed means flags.scenario flags.before index old mid to below (says ∙ w.if-index.false)))
    ]

pub returns : goal.returns
returns g c = record {
  served = λ flags.
      let many = flags_many g.W.Words.means flags.scenario flags.before flags.notes c.args.self.now flags.kept in
      let joined = c.args.self.now.open_producers.ok.0 in
      let end = c.len-index-end.ensures in
      let test = c.loop-index-test.false in
      collected_all g.W.Words.means flags.scenario flags.before c.loop-index.index c.args.self.now c.loop-index.self
      (c.loop-index.invariant flags)
      (omega (arith, many, joined, end, test));
}
