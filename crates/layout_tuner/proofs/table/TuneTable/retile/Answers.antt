use Rattle.std.proofs.Common.{◌≡◌, ◌+◌, ◌<◌, ◌∙◌, refl, subst, sym, ap, arith, true}
use Rattle.chunk_plain.specs.Owned.{times}
use Rattle.layout_tuner.specs.PageWords.{spot, chunks_of, layout_in, generation_in}
use Rattle.layout_tuner.specs.Knows.{UserView, retiles}
use Rattle.layout_tuner.specs.Retiling.{GivesFirst}
use Rattle.layout_tuner.specs.Sits.{known_by}
use Rattle.layout_tuner.proofs.Puts.{some_chunks}
use Rattle.layout_tuner.proofs.Asking.{taken_word, clear_word, lost_is}
use Rattle.layout_tuner.proofs.Wins.{wins_none, wins_first, wins_has, wins_agree, wins_more, wins_all, given_none, finds_busy, finds_worn, has_page}
use Rattle.layout_tuner.proofs.table.TuneTable.retile.Goals as goal

pub returns-then-claimed-clause-refused : goal.returns-then-claimed-clause-refused
returns-then-claimed-clause-refused t c =
    let page = c.args.page in let first = c.step_claim-first.result in let claims = c.step_claim-first.ensures.claims in
    let old = known_by c.args.seat.now in let new = known_by c.step_claim-first.new.seat in
    finds_busy page 0 (layout_in first) (generation_in first) first old old new new (wins_none page (layout_in first) (generation_in first) old) claims
    (taken_word first 0 (c.claimed.ensures.0 c.if-claimed.true)) (some_chunks (layout_in first) claims.layout_least claims.layout_most) (given_none page new)

pub loop-place-init : goal.loop-place-init
loop-place-init t c =
    let first = c.step_claim-first.result in
    record {
      seat = c.step_claim-first.ensures.seat;
      number = c.step_claim-first.ensures.number;
      wins = wins_first c.args.page first (known_by c.args.seat.now) (known_by c.step_claim-first.new.seat) c.step_claim-first.ensures.claims
          (clear_word first 0 (λ set_. absurd (let clash : c.claimed.result ≡ true = c.claimed.ensures.1 set_ in let unset = c.if-claimed.false in cc)));
      steps = c.tick.ensures;
    }

pub give_first-requires-clause-has : goal.give_first-requires-clause-has
give_first-requires-clause-has t c place below =
    let page = c.args.page in let at = c.loop-place.place in let found = c.step_claim-found.result in let view = known_by c.loop-place.seat in
    let taken = taken_word found at (c.claimed-in-loop-place.ensures.0 c.if-claimed-2.true) in
    let few = c.chunk_count-old_chunks.ensures.most in let less = c.loop-place-test.true in
    let has = wins_has page at _ _ (known_by c.args.seat.now) view c.loop-place.invariant.wins (omega (arith, few, less)) place below in
    subst (λ (v : UserView). 0 < times (spot page place) v.claimed) (sym (lost_is page at found view (known_by c.step_claim-found.new.seat) c.step_claim-found.ensures.claims taken)) has

pub returns-then-claimed-2-clause-refused : goal.returns-then-claimed-2-clause-refused
returns-then-claimed-2-clause-refused t c =
    let page = c.args.page in let at = c.loop-place.place in let first = c.step_claim-first.result in let found = c.step_claim-found.result in
    let old = known_by c.args.seat.now in let view = known_by c.loop-place.seat in let lost = known_by c.step_claim-found.new.seat in let new = known_by c.give_first.new.seat in
    let claims = c.step_claim-found.ensures.claims in let wins = c.loop-place.invariant.wins in
    let few = c.chunk_count-old_chunks.ensures.most in let less = c.loop-place-test.true in let some = c.loop-place.auto.place in
    let same = wins_agree page at (layout_in first) (generation_in first) found old view lost wins (omega (arith, few, less)) some claims in
    let count : c.chunk_count-old_chunks.result ≡ chunks_of (layout_in first) = c.chunk_count-old_chunks.ensures.is ∙ ap chunks_of c.layout_of-old_layout.ensures in
    finds_busy page at (layout_in first) (generation_in first) found old view lost new wins claims (taken_word found at (c.claimed-in-loop-place.ensures.0 c.if-claimed-2.true))
    (subst (λ l. at < chunks_of l) (sym same.0) (omega (arith, less, count))) c.give_first.ensures.given

pub returns-then-claimed-2-clause-steps_refused : goal.returns-then-claimed-2-clause-steps_refused
returns-then-claimed-2-clause-steps_refused t c =
    let page = c.args.page in let at = c.loop-place.place in let first = c.step_claim-first.result in let found = c.step_claim-found.result in
    let old = known_by c.args.seat.now in let view = known_by c.loop-place.seat in let lost = known_by c.step_claim-found.new.seat in
    let few = c.chunk_count-old_chunks.ensures.most in let less = c.loop-place-test.true in
    let same = wins_agree page at (layout_in first) (generation_in first) found old view lost c.loop-place.invariant.wins (omega (arith, few, less)) c.loop-place.auto.place c.step_claim-found.ensures.claims in
    let count : c.chunk_count-old_chunks.result ≡ chunks_of (layout_in first) = c.chunk_count-old_chunks.ensures.is ∙ ap chunks_of c.layout_of-old_layout.ensures in
    let size : chunks_of (layout_in found) ≡ chunks_of (layout_in first) = ap chunks_of same.0 in
    let so_far = c.loop-place.invariant.steps in let one = c.tick-in-loop-place.ensures in let given = c.give_first.ensures.steps in
    omega (arith, less, count, size, so_far, one, given)

pub loop-place-preserved : goal.loop-place-preserved
loop-place-preserved t c =
    let page = c.args.page in let at = c.loop-place.place in let first = c.step_claim-first.result in let found = c.step_claim-found.result in
    let old = known_by c.args.seat.now in let view = known_by c.loop-place.seat in let new = known_by c.step_claim-found.new.seat in
    let claims = c.step_claim-found.ensures.claims in let invariant = c.loop-place.invariant in
    let few = c.chunk_count-old_chunks.ensures.most in let less = c.loop-place-test.true in
    let same = wins_agree page at (layout_in first) (generation_in first) found old view new invariant.wins (omega (arith, few, less)) c.loop-place.auto.place claims in
    record {
      seat = c.step_claim-found.ensures.seat;
      number = c.step_claim-found.ensures.number ∙ invariant.number;
      wins = wins_more page at (layout_in first) (generation_in first) found old view new invariant.wins (omega (arith, few, less)) claims
          (clear_word found at (λ set_. absurd (let clash : c.claimed-in-loop-place.result ≡ true = c.claimed-in-loop-place.ensures.1 set_ in let unset = c.if-claimed-2.false in cc))) same.0 same.1;
      steps = let was = invariant.steps in let one = c.tick-in-loop-place.ensures in omega (arith, was, one);
    }

pub give_first-requires-then-generation-eq-LAST_GENERATION-clause-has : goal.give_first-requires-then-generation-eq-LAST_GENERATION-clause-has
give_first-requires-then-generation-eq-LAST_GENERATION-clause-has t c place below =
    let at = c.loop-place.place in let few = c.chunk_count-old_chunks.ensures.most in let past = c.loop-place-test.false in
    let end = c.loop-place.auto.place-end c.chunk_count-old_chunks.ensures.some in
    wins_has c.args.page at _ _ (known_by c.args.seat.now) (known_by c.loop-place.seat) c.loop-place.invariant.wins (omega (arith, few, end)) place (omega (arith, below, past))

pub returns-then-generation-eq-LAST_GENERATION-clause-refused : goal.returns-then-generation-eq-LAST_GENERATION-clause-refused
returns-then-generation-eq-LAST_GENERATION-clause-refused t c =
    let page = c.args.page in let at = c.loop-place.place in let first = c.step_claim-first.result in let layout = layout_in first in
    let old = known_by c.args.seat.now in let view = known_by c.loop-place.seat in
    let past = c.loop-place-test.false in let end = c.loop-place.auto.place-end c.chunk_count-old_chunks.ensures.some in let some = c.chunk_count-old_chunks.ensures.some in
    let count : c.chunk_count-old_chunks.result ≡ chunks_of layout = c.chunk_count-old_chunks.ensures.is ∙ ap chunks_of c.layout_of-old_layout.ensures in
    let all : at ≡ chunks_of layout = omega (arith, past, end, count) in
    finds_worn page layout (generation_in first) old view (known_by c.give_first-then-generation-eq-LAST_GENERATION.new.seat)
    (wins_all page at layout (generation_in first) old view c.loop-place.invariant.wins all)
    (sym c.generation_of-generation.ensures.is ∙ c.if-generation-eq-LAST_GENERATION.true) (omega (arith, some, count))
    (subst (λ n. GivesFirst page n view (known_by c.give_first-then-generation-eq-LAST_GENERATION.new.seat)) count c.give_first-then-generation-eq-LAST_GENERATION.ensures.given)

pub step_retile-requires-clause-has : goal.step_retile-requires-clause-has
step_retile-requires-clause-has t c =
    let page = c.args.page in let at = c.loop-place.place in let first = c.step_claim-first.result in let layout = layout_in first in
    let old = known_by c.args.seat.now in let view = known_by c.loop-place.seat in
    let past = c.loop-place-test.false in let end = c.loop-place.auto.place-end c.chunk_count-old_chunks.ensures.some in
    let some = c.chunk_count-old_chunks.ensures.some in let few = c.chunk_count-old_chunks.ensures.most in
    let count : c.chunk_count-old_chunks.result ≡ chunks_of layout = c.chunk_count-old_chunks.ensures.is ∙ ap chunks_of c.layout_of-old_layout.ensures in
    let all : at ≡ chunks_of layout = omega (arith, past, end, count) in
    rw (c.layout_of-old_layout.ensures, c.generation_of-generation.ensures.is)
    (has_page page layout (generation_in first) old view (wins_all page at layout (generation_in first) old view c.loop-place.invariant.wins all) (omega (arith, some, count)) (omega (arith, few, count)))

pub returns-clause-ok : goal.returns-clause-ok
returns-clause-ok t c =
    let page = c.args.page in let at = c.loop-place.place in let first = c.step_claim-first.result in let layout = layout_in first in
    let old = known_by c.args.seat.now in let view = known_by c.loop-place.seat in
    let past = c.loop-place-test.false in let end = c.loop-place.auto.place-end c.chunk_count-old_chunks.ensures.some in let some = c.chunk_count-old_chunks.ensures.some in
    let count : c.chunk_count-old_chunks.result ≡ chunks_of layout = c.chunk_count-old_chunks.ensures.is ∙ ap chunks_of c.layout_of-old_layout.ensures in
    let all : at ≡ chunks_of layout = omega (arith, past, end, count) in
    let most = c.generation_of-generation.ensures.most in let last = c.if-generation-eq-LAST_GENERATION.false in let is = c.generation_of-generation.ensures.is in
    record {
      partitions = record {
        old_layout = layout;
        generation = generation_in first;
        between = view;
        wins = wins_all page at layout (generation_in first) old view c.loop-place.invariant.wins all;
        some = omega (arith, some, count);
        unworn = omega (arith, most, last, is);
        new_is = c.step_retile.ensures.view ∙ ap (λ g. retiles view page c.args.layout (chunks_of c.args.layout) (g + 1)) is;
      };
      page_is = refl;
      none_handed = refl;
      chunks_are = c.chunk_count.ensures.is;
    }
