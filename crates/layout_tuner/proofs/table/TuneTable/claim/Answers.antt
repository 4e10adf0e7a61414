use Rattle.std.proofs.Common.{◌≡◌, ◌+◌, ◌∙◌, refl, subst, arith, true}
use Rattle.layout_tuner.specs.PageWords.{spot}
use Rattle.layout_tuner.specs.Claiming.{AsksInVain}
use Rattle.layout_tuner.specs.Sits.{known_by}
use Rattle.layout_tuner.proofs.Asking.{taken_word, clear_word, asks_none, asks_more, lost_is, has_won}
use Rattle.layout_tuner.proofs.table.TuneTable.claim.Goals as goal

pub loop-page-init : goal.loop-page-init
loop-page-init t c = record { seat = c.requires.seat; number = refl; vain = asks_none (known_by c.args.seat.now); steps = omega arith }

pub loop-place-preserved : goal.loop-place-preserved
loop-place-preserved t c =
    let invariant = c.loop-place.invariant in let page = c.loop-page.page in let place = c.loop-place.place in
    let claims = c.step_claim-found.ensures.claims in
    let taken = taken_word c.step_claim-found.result place (c.claimed.ensures.0 c.if-not-claimed.false) in
    let asked = asks_more (spot page place) page place c.step_claim-found.result (known_by c.args.seat.now) (known_by c.loop-place.seat) (known_by c.step_claim-found.new.seat) invariant.vain refl
    c.loop-place-test.true taken (lost_is page place c.step_claim-found.result (known_by c.loop-place.seat) (known_by c.step_claim-found.new.seat) claims taken) in
    record {
      seat = c.step_claim-found.ensures.seat;
      number = c.step_claim-found.ensures.number ∙ invariant.number;
      vain = subst (λ n. AsksInVain n (known_by c.args.seat.now) (known_by c.step_claim-found.new.seat)) (let e : spot page place + 1 ≡ spot page (place + 1) = omega arith in e) asked;
      steps = let was = invariant.steps in let one = c.tick.ensures in omega (arith, was, one);
    }

pub returns-then-not-claimed-clause-has : goal.returns-then-not-claimed-clause-has
returns-then-not-claimed-clause-has t c =
    let page = c.loop-page.page in let place = c.loop-place.place in
    record {
      page_in = c.loop-page-test.true;
      place_in = c.loop-place-test.true;
      claimed = has_won page place c.step_claim-found.result (known_by c.loop-place.seat) (known_by c.step_claim-found.new.seat) c.step_claim-found.ensures.claims
          (clear_word c.step_claim-found.result place (λ set_. absurd (let clash : c.claimed.result ≡ true = c.claimed.ensures.1 set_ in let unset = c.if-not-claimed.true in cc)));
    }
