use Rattle.std.proofs.Common.{◌≡◌, ◌≢◌, ◌<◌, ◌∙◌, length, refl, ap, sym, subst, arith}
use Rattle.chunk_plain.specs.Owned.{times}
use Rattle.chunk_plain.proofs.Lists.{length-without, times-without_other}
use native.Mathlib.Decide.{ℕ_discrete}
use mathlib.Core.Logic.{dite}
use Rattle.layout_tuner.specs.PageWords.{spot}
use Rattle.layout_tuner.specs.Knows.{UserView, gives}
use Rattle.layout_tuner.specs.Sits.{known_by}
use Rattle.layout_tuner.proofs.Spots.{apart_places, times-first_spots}
use Rattle.tune_run.proofs.Giving.{length-first_spots, nothing_left}
use Rattle.tune_run.proofs.turns.give_all.Goals as goal

pub loop-claimed-init : goal.loop-claimed-init
loop-claimed-init t c =
    let tile = c.args.tile in let claimed = c.requires.claimed in let none = c.requires.none in let few = c.requires.few in
    record {
      seat = c.requires.seat;
      number = refl;
      page = refl;
      chunks = refl;
      left = let many = ap length claimed ∙ length-first_spots tile.page tile.chunks in omega (arith, many, none);
      has = λ place low below. let one = ap (times (spot tile.page place)) claimed ∙ times-first_spots tile.page tile.chunks place below few in omega (arith, one);
      view = refl;
    }

pub loop-claimed-preserved : goal.loop-claimed-preserved
loop-claimed-preserved t c =
    let invariant = c.loop-claimed.invariant in let tile = c.loop-claimed.tile in let before = known_by c.loop-claimed.seat in
    let next = c.in-Some.ensures in let view = c.give.ensures.view in
    let at : spot c.in-Some.claimed.page c.in-Some.claimed.place ≡ spot tile.page tile.handed = let page = next.chunk.0 in let place = next.chunk.1 in omega (arith, page, place) in
    let inside : tile.handed < tile.chunks = dite (ℕ_discrete tile.handed tile.chunks)
    (λ all. absurd (let clash = next.none.1 all in cc)) (λ differs. let most = tile.most in omega (arith, most, differs)) in
    let given : known_by c.give.new.seat ≡ gives before (spot tile.page tile.handed) = view ∙ ap (gives before) at in
    let had = invariant.has tile.handed (omega arith) inside in
    record {
      seat = c.give.ensures.seat;
      number = c.give.ensures.number ∙ invariant.number;
      page = next.page ∙ invariant.page;
      chunks = next.chunks ∙ invariant.chunks;
      left = let fewer = ap (λ (v : UserView). length v.claimed) given in let less = length-without (spot tile.page tile.handed) before.claimed had in
          let was = invariant.left in let one = next.handed in let same = next.chunks in omega (arith, fewer, less, was, one, same);
      has = λ place low below.
          let one = next.handed in let same = next.chunks in let page = next.page in
          let differs : place ≢ tile.handed = λ e. absurd (omega (arith, low, one, e)) in
          subst (λ p. 0 < times (spot p place) (known_by c.give.new.seat).claimed) (sym page)
          (let stays = ap (λ (v : UserView). times (spot tile.page place) v.claimed) given ∙ times-without_other (spot tile.page place) (spot tile.page tile.handed) before.claimed (apart_places tile.page tile.handed place differs) in
          let still = invariant.has place (omega (arith, low, one)) (omega (arith, below, same)) in omega (arith, stays, still));
      view = given ∙ (ap (λ (v : UserView). gives v (spot tile.page tile.handed)) invariant.view
          ∙ ap (λ l. let v : UserView = record (known_by c.args.seat.now) { claimed = l } in v) (sym (ap (λ (v : UserView). v.claimed) given)));
    }

pub returns-clause-view : goal.returns-clause-view
returns-clause-view t c =
    let invariant = c.loop-claimed.invariant in let left = invariant.left in let all = c.in_default.ensures.none.0 refl in
    invariant.view ∙ ap (λ l. let v : UserView = record (known_by c.args.seat.now) { claimed = l } in v) (nothing_left (known_by c.loop-claimed.seat).claimed (omega (arith, left, all)))
