-- One writer behind another answers, where its producer is open.
use Rattle.std.proofs.Common.{◌≡◌, ℕ, suc, ◌+◌, ◌<◌, false, length, sym, subst, arith}
use Rattle.replay_host.specs.Answering.{HaveAnsweredTo}
use Rattle.replay_host.proofs.RequestLemmas.{answered_none, answered_more, answered_closed, answered_all, writers_many, open_is, may_answer, flag_down}
use Rattle.replay_host.proofs.requests.Host+W+W+Writer+W+Service.answer_all.Goals as goal
use Rattle.replay_host.proofs.requests.Host+W+W+Writer+W+Service.answer_all.Goals.{then-is_open, else-is_open}

pub loop-place-init : goal.loop-place-init
loop-place-init g c amid = answered_none g.W.Words.means amid.scenario amid.before c.args.self.now amid.going.kept.is_host

pub is_open-requires-clause-host : goal.is_open-requires-clause-host
is_open-requires-clause-host g c = (c.loop-place.invariant c.requires.amid).goes.host

pub is_open-requires-clause-place : goal.is_open-requires-clause-place
is_open-requires-clause-place g c =
    let to = c.loop-place.invariant c.requires.amid in
    let many = to.goes.host.stands.many in
    let kept_many = to.goes.keeps.many in
    let joined = c.args.self.now.writers.ok.0 in
    let end = c.len-place-end.ensures in
    let test = c.loop-place-test.true in
    omega (arith, many, kept_many, joined, end, test)

pub answer_between-requires : goal.answer_between-requires
answer_between-requires g c =
    let amid = c.requires.amid in
    let to = c.loop-place.invariant amid in
    let many = writers_many g.W.Words.means amid.scenario amid.before amid.rest amid.notes c.args.self.now amid.going in
    let joined = c.args.self.now.writers.ok.0 in
    let end = c.len-place-end.ensures in
    let test = c.loop-place-test.true in
    record {
      may = may_answer g.W.Words.means amid.scenario amid.before amid.rest amid.notes c.loop-place.place c.args.self.now
          c.loop-place.self amid.going to
          (omega (arith, many, joined, end, test)) (c.is_open.ensures.0 c.if-is_open.true);
    }

pub loop-place-preserved : goal.loop-place-preserved
loop-place-preserved g c amid =
    let means = g.W.Words.means in
    let old = c.args.self.now in
    let mid = c.loop-place.self in
    let place : ℕ = c.loop-place.place in
    let to = c.loop-place.invariant amid in
    let many = writers_many means amid.scenario amid.before amid.rest amid.notes old amid.going in
    let joined = old.writers.ok.0 in
    let end = c.len-place-end.ensures in
    let test = c.loop-place-test.true in
    let below : place < length amid.scenario.writers = omega (arith, many, joined, end, test) in
    let next : suc place ≡ place + 1 = omega arith in
    elim c.if-is_open.branch [
      | then-is_open w ↦
          subst (λ h. HaveAnsweredTo means amid.scenario amid.before (place + 1) old h) (sym w.self-is)
          (subst (λ (n : ℕ). HaveAnsweredTo means amid.scenario amid.before n old w.answer_between.new.self) next
          (answered_more means amid.scenario amid.before amid.rest amid.notes place old mid w.answer_between.new.self amid.going to below
          (open_is means amid.scenario amid.before amid.rest amid.notes place old mid amid.going to below _
          (c.is_open.ensures.0 w.if-is_open.true))
          w.answer_between.ensures.answered))
      | else-is_open w ↦
          subst (λ h. HaveAnsweredTo means amid.scenario amid.before (place + 1) old h) (sym w.self-is)
          (subst (λ (n : ℕ). HaveAnsweredTo means amid.scenario amid.before n old mid) next
          (answered_closed means amid.scenario amid.before place old mid to below
          (open_is means amid.scenario amid.before amid.rest amid.notes place old mid amid.going to below false
          (flag_down _ c.is_open.result c.is_open.ensures.1 w.if-is_open.false))))
    ]

pub returns : goal.returns
returns g c = record {
  answered = λ amid.
      let means = g.W.Words.means in
      let many = writers_many means amid.scenario amid.before amid.rest amid.notes c.args.self.now amid.going in
      let joined = c.args.self.now.writers.ok.0 in
      let end = c.len-place-end.ensures in
      let test = c.loop-place-test.false in
      answered_all means amid.scenario amid.before c.loop-place.place c.args.self.now c.loop-place.self (c.loop-place.invariant amid)
      (omega (arith, many, joined, end, test));
}
