use Rattle.std.proofs.Common.{◌≡◌, ◌∙◌, ◌++◌, ◌∷◌, [], length, sym, ap, subst, append_assoc, length-append, arith}
use Rattle.std.specs.Vec.Iter.{into_iter_items}
use Rattle.tune_run.specs.Jobs.{AreReady}
use Rattle.tune_run.proofs.Reports.{jobs_more}
use Rattle.tune_run.proofs.run.new_jobs.Goals as goal

pub loop-seat-preserved : goal.loop-seat-preserved
loop-seat-preserved c =
    let at = c.loop-seat in let seat = c.in-Some.seat in let invariant = at.invariant in
    let steps : into_iter_items at.seat-iterator ≡ seat ∷ into_iter_items c.next.new.self = c.in-Some.ensures.steps.0 in
    let all = ap (λ l. at.yielded ++ l) (sym steps) ∙ (invariant.all ∙ c.into_iter-seat-iterator.ensures.into_iter_gives.0) in
    let items = c.in_ok-push.ensures.items in
    record {
      all = append_assoc at.yielded (seat ∷ []) _ ∙ rw (← steps) invariant.all;
      count = let was = invariant.count in let gone = c.in-Some.ensures.steps.1 in let short = ap length steps in omega arith;
      many = ap length items ∙ (length-append at.jobs.items _ ∙ (let was = invariant.many in let longer = length-append at.yielded (seat ∷ []) in omega (arith, was, longer)));
      ready = subst (AreReady c.args.table.now) (sym items)
          (jobs_more c.args.table.now c.args.table.now.shape.users c.args.seats.items at.yielded _ at.jobs.items seat c.new.result c.requires.seats c.requires.users all invariant.many invariant.ready);
    }
