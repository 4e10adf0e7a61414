use Rattle.std.proofs.Common.{◌≡◌, ℕ, ◌+◌, ◌-◌, ◌∙◌, ◌++◌, List, ap, arith}
use Rattle.chunk_plain.specs.Owned.{times}
use Rattle.chunk_plain.specs.Steps.{without}
use Rattle.chunk_plain.proofs.Lists.{times-without_other}
use Rattle.layout_tuner.specs.PageWords.{spot}
use Rattle.layout_tuner.specs.Knows.{UserView, first_spots}
use Rattle.layout_tuner.specs.Sits.{known_by}
use Rattle.layout_tuner.proofs.Spots.{apart_places, without-last_spot}
use Rattle.layout_tuner.proofs.table.TuneTable.give_first.Goals as goal

pub loop-left-preserved : goal.loop-left-preserved
loop-left-preserved t c =
    let invariant = c.loop-left.invariant in let page = c.args.page in let left = c.loop-left.left in let some = c.loop-left-test.true in
    let last = left - 1 in let next : left ≡ last + 1 = omega arith in
    let before = known_by c.loop-left.seat in
    let view = c.step_give.ensures.view in
    let most = invariant.most in
    record {
      seat = c.step_give.ensures.seat;
      number = c.step_give.ensures.number ∙ invariant.number;
      most = omega (arith, most);
      steps = let was = invariant.steps in let one = c.tick.ensures in omega (arith, was, one, next);
      has = λ place below.
          let stays = ap (λ (v : UserView). times (spot page place) v.claimed) view
          ∙ times-without_other (spot page place) (spot page last) before.claimed (apart_places page last place (λ same. absurd (omega (arith, below, same)))) in
          let had = invariant.has place (omega (arith, below)) in omega (arith, stays, had);
      claimed = λ kept is none.
          ap (λ (v : UserView). v.claimed) view
          ∙ (ap (λ (l : List ℕ). without (spot page last) l) (invariant.claimed kept is none ∙ ap (λ n. kept ++ first_spots page n) next)
          ∙ without-last_spot page last kept (none last (omega (arith, next, most))));
      asked = ap (λ (v : UserView). v.asked) view ∙ invariant.asked;
      held = ap (λ (v : UserView). v.held) view ∙ invariant.held;
      completed = ap (λ (v : UserView). v.completed) view ∙ invariant.completed;
      retiled = ap (λ (v : UserView). v.retiled) view ∙ invariant.retiled;
      sights = ap (λ (v : UserView). v.sights) view ∙ invariant.sights;
    }
