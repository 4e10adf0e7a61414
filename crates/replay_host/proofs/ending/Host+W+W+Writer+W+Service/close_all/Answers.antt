-- Each open producer is closed behind those before it.
use Rattle.std.proofs.Common.{◌≡◌, ◌∙◌, ℕ, suc, ◌+◌, ◌-◌, ◌<◌, ◌≤◌, false, not, [], ◌∷◌, length, sym, ap, subst, arith, add-one}
use Rattle.std.specs.Prelude.{slice_index_or, slice_set}
use Rattle.std.proofs.lemmas.List.{get_or_read}
use Rattle.scenario_text.specs.Accepted.{is_closed_by}
use Rattle.replay_model.specs.Acts.{CloseProducer}
use Rattle.replay_host.specs.Playing.{HasDone}
use Rattle.replay_host.specs.Serving.{HaveClosedTo}
use Rattle.replay_host.proofs.ClosingLemmas.{flags_many, flags_few, closed_first, closed_there, closed_flag, closed_next, closed_past, closed_all}
use Rattle.replay_host.proofs.ending.Host+W+W+Writer+W+Service.close_all.Goals as goal
use Rattle.replay_host.proofs.ending.Host+W+W+Writer+W+Service.close_all.Goals.{then-index, else-index}

pub loop-index-init : goal.loop-index-init
loop-index-init g c flags = closed_first g.W.Words.means c.args.self.now flags

pub overflow_cast-index : goal.overflow_cast-index
overflow_cast-index g c =
    let below : c.loop-index.index < length c.args.self.now.open_producers.items =
    subst (λ (n : ℕ). c.loop-index.index < n) (c.len-index-end.ensures ∙ c.args.self.now.open_producers.ok.0) c.loop-index-test.true in
    let few = flags_few g.W.Words.means c.args.self.now c.requires.flags c.loop-index.index below in
    omega (arith, few)

pub overflow_add-index : goal.overflow_add-index
overflow_add-index g c =
    let below : c.loop-index.index < length c.args.self.now.open_producers.items =
    subst (λ (n : ℕ). c.loop-index.index < n) (c.len-index-end.ensures ∙ c.args.self.now.open_producers.ok.0) c.loop-index-test.true in
    let few = flags_few g.W.Words.means c.args.self.now c.requires.flags c.loop-index.index below in
    omega (arith, few)

pub close-requires-clause-host : goal.close-requires-clause-host
close-requires-clause-host g c = (c.loop-index.invariant c.requires.flags).closed.host

pub close-requires-clause-producer : goal.close-requires-clause-producer
close-requires-clause-producer g c =
    let below : c.loop-index.index < length c.args.self.now.open_producers.items =
    subst (λ (n : ℕ). c.loop-index.index < n) (c.len-index-end.ensures ∙ c.args.self.now.open_producers.ok.0) c.loop-index-test.true in
    closed_there g.W.Words.means c.args.self.now c.requires.flags c.loop-index.index c.loop-index.self (c.loop-index.invariant c.requires.flags) below

pub close-requires-clause-open : goal.close-requires-clause-open
close-requires-clause-open g c =
    let items = c.loop-index.self.open_producers.items in
    let index : ℕ = c.loop-index.index in
    let below : c.loop-index.index < length c.args.self.now.open_producers.items =
    subst (λ (n : ℕ). c.loop-index.index < n) (c.len-index-end.ensures ∙ c.args.self.now.open_producers.ok.0) c.loop-index-test.true in
    let many = (c.loop-index.invariant c.requires.flags).many in
    let inside : index < length items = omega (arith, many, below) in
    ap (λ (n : ℕ). slice_index_or items n false) (let same : index + 1 - 1 ≡ index = omega arith in same)
    ∙ sym (get_or_read items index c.index.result.now inside c.index.ensures false) ∙ c.if-index.true

pub loop-index-preserved : goal.loop-index-preserved
loop-index-preserved g c flags =
    let means = g.W.Words.means in
    let old = c.args.self.now in
    let mid = c.loop-index.self in
    let items = mid.open_producers.items in
    let index : ℕ = c.loop-index.index in
    let below : c.loop-index.index < length c.args.self.now.open_producers.items =
    subst (λ (n : ℕ). c.loop-index.index < n) (c.len-index-end.ensures ∙ c.args.self.now.open_producers.ok.0) c.loop-index-test.true in
    let so = c.loop-index.invariant flags in
    let many = so.many in
    let inside : index < length items = omega (arith, many, below) in
    let said : not (is_closed_by flags.before (suc index)) ≡ c.index.result.now =
    sym (closed_flag means old flags index mid so below) ∙ sym (get_or_read items index c.index.result.now inside c.index.ensures false) in
    let back : index + 1 - 1 ≡ index = omega arith in
    elim c.if-index.branch [
      | then-index w ↦
          subst (λ host. HaveClosedTo means flags.scenario flags.before (index + 1) old host) (sym w.self-is)
          (subst (λ (n : ℕ). HaveClosedTo means flags.scenario flags.before n old w.close.new.self) (sym (add-one index))
          (closed_next means old flags index mid w.close.new.self so below (said ∙ w.if-index.true) w.close.ensures.host w.close.ensures.writers
          (w.close.ensures.flags ∙ ap (λ (n : ℕ). slice_set items n false) back)
          (λ taken. subst (λ (n : ℕ). HasDone means (CloseProducer n ∷ []) [] mid taken w.close.new.self taken) (add-one index) (w.close.ensures.done taken))))
      | else-index w ↦
          subst (λ host. HaveClosedTo means flags.scenario flags.before (index + 1) old host) (sym w.self-is)
          (subst (λ (n : ℕ). HaveClosedTo means flags.scenario flags.before n old mid) (sym (add-one index))
          (closed_past means old flags index mid so below (said ∙ w.if-index.false)))
    ]

pub returns : goal.returns
returns g c = record {
  closed = λ flags.
      let most : length flags.scenario.producers ≤ c.loop-index.index =
      subst (λ (n : ℕ). n ≤ c.loop-index.index)
      (c.len-index-end.ensures ∙ c.args.self.now.open_producers.ok.0 ∙ flags_many g.W.Words.means c.args.self.now flags) c.loop-index-test.false in
      closed_all g.W.Words.means c.args.self.now flags c.loop-index.index c.loop-index.self (c.loop-index.invariant flags) most;
}
