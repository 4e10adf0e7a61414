use Rattle.std.proofs.Common.{◌≢◌, ◌∙◌, ℕ, refl, sym, subst, arith}
use Rattle.std.proofs.lemmas.Bool.{false≢true}
use Rattle.packet_runs.specs.Tellers.{run_at}
use Rattle.packet_runs.proofs.BorderLemmas.{IsCandidate, candidate_first, candidate_next, border_more, border_ends}
use Rattle.packet_runs.proofs.search.next_border.Goals as goal

pub borders-init : goal.borders-init
borders-init c = candidate_first (run_at c.args.emitted.now c.args.place) c.args.len _ (c.requires.known c.args.len c.requires.some (omega arith))

pub borders-preserved : goal.borders-preserved
borders-preserved c =
    let b = c.borders.border in
    let shorter = c.borders.invariant.is_border.shorter in
    candidate_next (run_at c.args.emitted.now c.args.place) c.args.len b _ c.borders.invariant (λ e. false≢true (c.borders-test.ensures.1 (e ∙ sym c.get.ensures))) (c.requires.known b (omega arith) (omega arith))

pub returns-then-border-eq0 : goal.returns-then-border-eq0
returns-then-border-eq0 c =
    let run = run_at c.args.emitted.now c.args.place in
    let none = c.if-border-eq0.true in
    let apart : run c.borders.border ≢ run c.args.len = λ e. false≢true (c.borders-test.ensures.1 (e ∙ sym c.get.ensures)) in
    border_ends run c.args.len (subst (IsCandidate run c.args.len) none c.borders.invariant) (subst (λ (b : ℕ). run b ≢ run c.args.len) none apart)

pub returns : goal.returns
returns c = border_more (run_at c.args.emitted.now c.args.place) c.args.len _ c.borders.invariant (c.borders-test.ensures.0 refl ∙ c.get.ensures)
