use Rattle.std.proofs.Common.{◌≡◌, ◌<◌, ◌∙◌, ◌++◌, ◌∷◌, [], get_or, length, sym, ap, subst, append_assoc, length-append, arith}
use Rattle.std.proofs.Math.Seq.{get_or-append_seam}
use Rattle.std.specs.Vec.Iter.{into_iter_items}
use Rattle.layout_tuner.specs.Knows.{CollectView}
use Rattle.layout_tuner.specs.Sits.{known_by_collector}
use Rattle.tune_run.specs.Jobs.{IsPlayed}
use Rattle.tune_run.specs.Told.{HaveTold}
use Rattle.tune_run.proofs.Reports.{told_more}
use Rattle.tune_run.proofs.run.tell_all.Goals as goal

pub loop-job-preserved : goal.loop-job-preserved
loop-job-preserved c =
    let at = c.loop-job in let job = c.in-Some.job in let invariant = at.invariant in let table = c.args.table.now in
    let steps : into_iter_items at.job-iterator ≡ job ∷ into_iter_items c.next.new.self = c.in-Some.ensures.steps.0 in
    let all : at.yielded ++ job ∷ into_iter_items c.next.new.self ≡ c.args.jobs.items = ap (λ l. at.yielded ++ l) (sym steps) ∙ (invariant.all ∙ c.into_iter-job-iterator.ensures.into_iter_gives.0) in
    let longer = length-append at.yielded (job ∷ into_iter_items c.next.new.self) in
    let inside : length at.yielded < length c.args.jobs.items = subst (λ l. length at.yielded < length l) all (omega (arith, longer)) in
    let here : get_or c.args.jobs.items (length at.yielded) job ≡ job = ap (λ l. get_or l (length at.yielded) job) (sym all) ∙ get_or-append_seam at.yielded job _ job in
    let played : IsPlayed table c.args.turns (length at.yielded) job = subst (IsPlayed table c.args.turns (length at.yielded)) here (c.requires.played (length at.yielded) job inside) in
    record {
      all = append_assoc at.yielded (job ∷ []) _ ∙ rw (← steps) invariant.all;
      count = let was = invariant.count in let gone = c.in-Some.ensures.steps.1 in let short = ap length steps in omega arith;
      collect = c.tell.ensures.collect;
      told = subst (λ n. HaveTold table c.args.turns n (known_by_collector c.tell.new.collect) c.push_reserved.new.self.items c.push_reserved-in-loop-job.new.self.items)
          (sym (length-append at.yielded (job ∷ [])))
          (rw (c.push_reserved.ensures.items, c.push_reserved-in-loop-job.ensures.items)
          (told_more table c.args.turns (length at.yielded) (known_by_collector at.collect) (known_by_collector c.tell.new.collect) at.counts.items at.seats.items job c.tell.new.seat
          invariant.told played c.tell.ensures.told c.tell.ensures.view c.tell.ensures.number c.tell.ensures.seat));
      taken = ap (λ (v : CollectView). v.taken) c.tell.ensures.told ∙ invariant.taken;
      counts_room = c.push_reserved.ensures.capacity ∙ invariant.counts_room;
      seats_room = c.push_reserved-in-loop-job.ensures.capacity ∙ invariant.seats_room;
    }
