-- Each writer of an open producer flushes behind those before it.
use Rattle.std.proofs.Common.{◌≡◌, ◌∙◌, ℕ, suc, ◌+◌, ◌<◌, ◌≤◌, true, length, sym, subst, add-one}
use Rattle.replay_host.specs.Ending.{HaveFlushedTo, flushing}
use Rattle.replay_host.specs.Lines.{is_open_at}
use Rattle.replay_host.proofs.EndingLemmas.{flushed_first, flush_many, flush_there, flush_flag, flush_inside, flush_ready, flushed_next, flushed_past, flushed_all}
use Rattle.replay_host.proofs.ending.Host+W+W+Writer+W+Service.flush_all.Goals as goal
use Rattle.replay_host.proofs.ending.Host+W+W+Writer+W+Service.flush_all.Goals.{then-is_open, else-is_open}

pub loop-place-init : goal.loop-place-init
loop-place-init g c over = flushed_first g.W.Words.means c.args.self.now over

pub is_open-requires-clause-host : goal.is_open-requires-clause-host
is_open-requires-clause-host g c = (c.loop-place.invariant c.requires.over).flushed.host

pub is_open-requires-clause-place : goal.is_open-requires-clause-place
is_open-requires-clause-place g c =
    let below : c.loop-place.place < length c.args.self.now.writers.items = subst (λ (n : ℕ). c.loop-place.place < n) (c.len-place-end.ensures ∙ c.args.self.now.writers.ok.0) c.loop-place-test.true in
    flush_there g.W.Words.means c.args.self.now c.requires.over c.loop-place.place c.loop-place.self (c.loop-place.invariant c.requires.over) below

pub flush-requires-clause-host : goal.flush-requires-clause-host
flush-requires-clause-host g c = (c.loop-place.invariant c.requires.over).flushed.host

pub flush-requires-clause-place : goal.flush-requires-clause-place
flush-requires-clause-place g c =
    let below : c.loop-place.place < length c.args.self.now.writers.items = subst (λ (n : ℕ). c.loop-place.place < n) (c.len-place-end.ensures ∙ c.args.self.now.writers.ok.0) c.loop-place-test.true in
    flush_there g.W.Words.means c.args.self.now c.requires.over c.loop-place.place c.loop-place.self (c.loop-place.invariant c.requires.over) below

pub flush-requires-clause-ready : goal.flush-requires-clause-ready
flush-requires-clause-ready g c =
    let below : c.loop-place.place < length c.args.self.now.writers.items = subst (λ (n : ℕ). c.loop-place.place < n) (c.len-place-end.ensures ∙ c.args.self.now.writers.ok.0) c.loop-place-test.true in
    let over = c.requires.over in
    let so = c.loop-place.invariant over in
    let opened : is_open_at over.scenario over.scenario.lines c.loop-place.place ≡ true =
    flush_flag g.W.Words.means c.args.self.now over c.loop-place.place c.loop-place.self c.is_open.result so below c.is_open.ensures ∙ c.if-is_open.true in
    (flushing over.scenario (suc c.loop-place.place), flush_ready g.W.Words.means c.args.self.now over c.loop-place.place c.loop-place.self so opened)

pub loop-place-preserved : goal.loop-place-preserved
loop-place-preserved g c over =
    let means = g.W.Words.means in
    let old = c.args.self.now in
    let place : ℕ = c.loop-place.place in
    let below : place < length old.writers.items = subst (λ (n : ℕ). place < n) (c.len-place-end.ensures ∙ c.args.self.now.writers.ok.0) c.loop-place-test.true in
    let so = c.loop-place.invariant over in
    let flag : is_open_at over.scenario over.scenario.lines place ≡ c.is_open.result =
    flush_flag means old over place c.loop-place.self c.is_open.result so below c.is_open.ensures in
    let inside = flush_inside means old over place below in
    elim c.if-is_open.branch [
      | then-is_open w ↦
          subst (λ host. HaveFlushedTo means over.scenario (place + 1) old host) (sym w.self-is)
          (subst (λ (n : ℕ). HaveFlushedTo means over.scenario n old w.flush.new.self) (sym (add-one place))
          (flushed_next means old over place c.loop-place.self w.flush.new.self so inside (flag ∙ w.if-is_open.true) w.flush.ensures.host w.flush.ensures.asked))
      | else-is_open w ↦
          subst (λ host. HaveFlushedTo means over.scenario (place + 1) old host) (sym w.self-is)
          (subst (λ (n : ℕ). HaveFlushedTo means over.scenario n old c.loop-place.self) (sym (add-one place))
          (flushed_past means old over place c.loop-place.self so inside (flag ∙ w.if-is_open.false)))
    ]

pub returns : goal.returns
returns g c = record {
  flushed = λ over.
      let most : length over.scenario.writers ≤ c.loop-place.place =
      subst (λ (n : ℕ). n ≤ c.loop-place.place) (c.len-place-end.ensures ∙ c.args.self.now.writers.ok.0 ∙ flush_many g.W.Words.means c.args.self.now over) c.loop-place-test.false in
      flushed_all g.W.Words.means c.args.self.now over c.loop-place.place c.loop-place.self (c.loop-place.invariant over) most;
}
