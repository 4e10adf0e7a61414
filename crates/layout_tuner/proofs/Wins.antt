-- The claims of a page's chunks, one behind another.
use Rattle.std.proofs.Common.{◌≡◌, ℕ, suc, ◌+◌, ◌<◌, ◌≤◌, true, false, List, [], ◌∷◌, ◌++◌, replicate, subst, sym, refl, ap, ◌∙◌, arith, ⊎_elim, append_assoc, append-nil, eq-eqb, ne_eqb}
use Rattle.std.specs.Prelude.{if◌then◌else◌}
use Rattle.std.proofs.lemmas.List.{length-append}
use native.Mathlib.Decide.{ℕ_discrete}
use mathlib.Core.Logic.{dite}
use mathlib.Core.Option.{some-ne-none}
use Rattle.chunk_plain.specs.Owned.{times}
use Rattle.chunk_plain.proofs.Lists.{at_more, times-both}
use Rattle.layout_tuner.specs.PageWords.{spot, chunks_of, layout_in, generation_in, is_clear}
use Rattle.layout_tuner.specs.Knows.{Ask, UserView, seen_in, first_spots}
use Rattle.layout_tuner.specs.Plays.{HasPage, Claims}
use Rattle.layout_tuner.specs.Retiling.{WinsFirst, GivesBack, GivesFirst, FindsBusy, FindsWorn}
use Rattle.layout_tuner.proofs.Spots.{times-first_spots}
use Rattle.layout_tuner.proofs.Laid.{sight_of}
use Rattle.layout_tuner.proofs.Asking.{won_is, lost_is}

pub wins_none : (page layout generation : ℕ) (view : UserView) → WinsFirst page 0 layout generation view view
wins_none page layout generation view = record {
  asks = [];
  many = refl;
  each = λ k ask at. absurd (some-ne-none ask (sym at));
  asked = sym (append-nil view.asked);
  claimed = sym (append-nil view.claimed);
  fresh = λ place below. absurd (omega (arith, below));
  held = refl;
  completed = refl;
  retiled = refl;
  seen = λ some. absurd (omega (arith, some));
  elsewhere = λ other differs. refl;
  sights = refl;
}

-- the user has each place that it won
pub wins_has : (page count layout generation : ℕ) (old new : UserView) → WinsFirst page count layout generation old new → count ≤ 14 → (place : ℕ) → place < count → 0 < times (spot page place) new.claimed
wins_has page count layout generation old new wins few place below =
    let all = ap (times (spot page place)) wins.claimed ∙ times-both (spot page place) old.claimed (first_spots page count) in
    let one = times-first_spots page count place below few in omega (arith, all, one)

-- the word of a later claim has the layout and the generation of the first one
pub wins_agree : (page count layout generation found : ℕ) (old view new : UserView) → WinsFirst page count layout generation old view → count ≤ 14 → 0 < count → Claims page count view found new
    → (layout_in found ≡ layout) × (generation_in found ≡ generation)
wins_agree page count layout generation found old view new wins few some is =
    let has = wins_has page count layout generation old view wins few 0 some in
    let same = sym (is.agrees 0 (omega arith) (omega (arith, has))) ∙ wins.seen some in
    (ap (λ (x : ℕ × ℕ). x.0) same, ap (λ (x : ℕ × ℕ). x.1) same)

-- one more is won, whose word has this layout and generation
pub wins_more : (page count layout generation found : ℕ) (old view new : UserView) → WinsFirst page count layout generation old view → count < 14 → Claims page count view found new
    → is_clear found count ≡ true → layout_in found ≡ layout → generation_in found ≡ generation → WinsFirst page (count + 1) layout generation old new
wins_more page count layout generation found old view new wins few is clear layout_is generation_is =
    let now = won_is page count found view new is clear in
    let ask : Ask = record { page = page; place = count; found = found } in
    record {
      asks = wins.asks ++ ask ∷ [];
      many = length-append wins.asks (ask ∷ []) ∙ (let many = wins.many in omega (arith, many));
      each = λ k one at. ⊎_elim
          (λ before. wins.each k one before)
          (λ last. let here : count ≡ k = sym wins.many ∙ sym last.0 in
          subst (λ (a : Ask). (a.page ≡ page) × (a.place ≡ k) × (is_clear a.found k ≡ true) × (layout_in a.found ≡ layout) × (generation_in a.found ≡ generation)) last.1
          (refl, here, subst (λ j. is_clear found j ≡ true) here clear, layout_is, generation_is))
          (at_more wins.asks ask one k at);
      asked = ap (λ (v : UserView). v.asked) now ∙ (ap (λ (l : List Ask). l ++ ask ∷ []) wins.asked ∙ append_assoc old.asked wins.asks (ask ∷ []));
      claimed = ap (λ (v : UserView). v.claimed) now ∙ (ap (λ (l : List ℕ). l ++ spot page count ∷ []) wins.claimed
          ∙ (append_assoc old.claimed (first_spots page count) (spot page count ∷ []) ∙ ap (λ n. old.claimed ++ first_spots page n) (let e : suc count ≡ count + 1 = omega arith in e)));
      fresh = λ place below. dite (ℕ_discrete place count)
          (λ same. let none = is.fresh clear in
          let all = ap (times (spot page count)) wins.claimed ∙ times-both (spot page count) old.claimed (first_spots page count) in
          subst (λ p. times (spot page p) old.claimed ≡ 0) (sym same) (omega (arith, none, all)))
          (λ differs. wins.fresh place (omega (arith, below, differs)));
      held = ap (λ (v : UserView). v.held) now ∙ wins.held;
      completed = ap (λ (v : UserView). v.completed) now ∙ wins.completed;
      retiled = ap (λ (v : UserView). v.retiled) now ∙ wins.retiled;
      seen = λ _. ap (λ (v : UserView). seen_in page v.sights) now
          ∙ (ap (λ b. let x : ℕ × ℕ = if b then (layout_in found, generation_in found) else seen_in page view.sights in x) (eq-eqb page page refl) ∙ (λ i. (layout_is i, generation_is i)));
      elsewhere = λ other differs. ap (λ (v : UserView). seen_in other v.sights) now
          ∙ (ap (λ b. let x : ℕ × ℕ = if b then (layout_in found, generation_in found) else seen_in other view.sights in x) (ne_eqb page other (λ e. differs (sym e))) ∙ wins.elsewhere other differs);
      sights = ap (λ (v : UserView). v.sights) now ∙ ((λ i. sight_of page (layout_is i) (generation_is i) ∷ wins.sights i)
          ∙ ap (λ n. replicate n (sight_of page layout generation) ++ old.sights) (let e : suc count ≡ count + 1 = omega arith in e));
    }

-- the first claim tells layout and generation
pub wins_first : (page found : ℕ) (old new : UserView) → Claims page 0 old found new → is_clear found 0 ≡ true → WinsFirst page 1 (layout_in found) (generation_in found) old new
wins_first page found old new is clear = wins_more page 0 (layout_in found) (generation_in found) found old old new (wins_none page (layout_in found) (generation_in found) old) (omega arith) is clear refl refl

pub given_back : (page count layout generation : ℕ) (old view lost new : UserView) → WinsFirst page count layout generation old view → lost.claimed ≡ view.claimed → lost.held ≡ view.held
    → lost.completed ≡ view.completed → lost.retiled ≡ view.retiled → GivesFirst page count lost new → GivesBack old new
given_back page count layout generation old view lost new wins claimed held completed retiled is = record {
  claimed = is.claimed old.claimed (claimed ∙ wins.claimed) wins.fresh;
  held = is.held ∙ (held ∙ wins.held);
  completed = is.completed ∙ (completed ∙ wins.completed);
  retiled = is.retiled ∙ (retiled ∙ wins.retiled);
}

pub finds_busy : (page place layout generation word : ℕ) (old view lost new : UserView) → WinsFirst page place layout generation old view → Claims page place view word lost → is_clear word place ≡ false
    → place < chunks_of (layout_in word) → GivesFirst page place lost new → FindsBusy page word old new
finds_busy page place layout generation word old view lost new wins is taken inside given =
    let asks = lost_is page place word view lost is taken in
    record {
      place = place;
      layout = layout;
      generation = generation;
      between = view;
      wins = wins;
      taken = taken;
      inside = inside;
      asked = given.asked ∙ ap (λ (v : UserView). v.asked) asks;
      sights = given.sights ∙ ap (λ (v : UserView). v.sights) asks;
      back = given_back page place layout generation old view lost new wins (ap (λ (v : UserView). v.claimed) asks) (ap (λ (v : UserView). v.held) asks)
          (ap (λ (v : UserView). v.completed) asks) (ap (λ (v : UserView). v.retiled) asks) given;
    }

pub has_page : (page layout generation : ℕ) (old view : UserView) → WinsFirst page (chunks_of layout) layout generation old view → 0 < chunks_of layout → chunks_of layout ≤ 14 → HasPage view page layout generation
has_page page layout generation old view wins some few = record {
  seen = wins.seen some;
  some = some;
  all = wins_has page (chunks_of layout) layout generation old view wins few;
}

-- nothing is given back where nothing was won
pub given_none : (page : ℕ) (view : UserView) → GivesFirst page 0 view view
given_none page view = record { claimed = λ kept is none. is ∙ append-nil kept; asked = refl; held = refl; completed = refl; retiled = refl; sights = refl }

pub finds_worn : (page layout generation : ℕ) (old view new : UserView) → WinsFirst page (chunks_of layout) layout generation old view → generation ≡ 262143 → 0 < chunks_of layout
    → GivesFirst page (chunks_of layout) view new → FindsWorn page old new
finds_worn page layout generation old view new wins last some given = record {
  layout = layout;
  between = view;
  wins = subst (λ g. WinsFirst page (chunks_of layout) layout g old view) last wins;
  some = some;
  asked = given.asked;
  sights = given.sights;
  back = given_back page (chunks_of layout) layout generation old view view new wins refl refl refl refl given;
}

-- the chunks that are won are all where so many were claimed
pub wins_all : (page count layout generation : ℕ) (old view : UserView) → WinsFirst page count layout generation old view → count ≡ chunks_of layout → WinsFirst page (chunks_of layout) layout generation old view
wins_all page count layout generation old view wins all = subst (λ n. WinsFirst page n layout generation old view) all wins
