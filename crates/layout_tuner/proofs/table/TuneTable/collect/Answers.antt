use Rattle.std.proofs.Common.{◌≡◌, ◌+◌, refl, subst, arith}
use Rattle.layout_tuner.specs.PageWords.{spot}
use Rattle.layout_tuner.specs.Collecting.{Collects, IsCaughtUp}
use Rattle.layout_tuner.specs.Sits.{known_by_collector}
use Rattle.layout_tuner.proofs.Collections.{collects_start, collects_more, caught_more, counts_more}
use Rattle.layout_tuner.proofs.table.TuneTable.collect.Goals as goal

pub loop-page-init : goal.loop-page-init
loop-page-init c = record {
  seat = c.requires.seat;
  collects = collects_start (known_by_collector c.args.seat.now) c.requires.seat.none_read;
  count = omega arith;
  most = omega arith;
  caught_up = λ at below. absurd (omega (arith, below));
}

pub loop-place-preserved : goal.loop-place-preserved
loop-place-preserved c =
    let page = c.loop-page.page in let place = c.loop-place.place in let invariant = c.loop-place.invariant in let users = c.args.self.now.shape.users in
    let old = known_by_collector c.args.seat.now in let view = known_by_collector c.loop-place.seat in let new = known_by_collector c.collect_one-count.new.seat in
    let one = c.collect_one-count.ensures.collects in let counts = counts_more users page place c.collect_one-count.result view new one in
    let next : spot page place + 1 ≡ spot page (place + 1) = omega arith in
    record {
      seat = c.collect_one-count.ensures.seat;
      collects = subst (λ n. Collects n old new) next (collects_more users (spot page place) page place c.collect_one-count.result old view new invariant.collects one refl c.loop-place-test.true);
      count = let was = invariant.count in let more = counts.0 in omega (arith, was, more);
      most = let was = invariant.most in let few = counts.1 in omega (arith, was, few);
      caught_up = subst (λ n. IsCaughtUp users n new) next (caught_more users page place (spot page place) c.collect_one-count.result view new invariant.caught_up one refl);
    }
