-- The looks of one collect, one behind another.
use Rattle.std.proofs.Common.{◌≡◌, ℕ, ◌+◌, ◌<◌, ◌≤◌, Bool, true, false, List, [], ◌∷◌, ◌++◌, length, subst, sym, refl, ap, ◌∙◌, arith, ⊎_elim, append_assoc, append-nil, eq-eqb}
use Rattle.std.specs.Prelude.{if◌then◌else◌}
use Rattle.std.proofs.lemmas.List.{length-append}
use native.Mathlib.Decide.{ℕ_discrete}
use mathlib.Core.Logic.{dite}
use mathlib.Core.Option.{some-ne-none}
use Rattle.chunk_plain.specs.Owned.{times}
use Rattle.chunk_plain.specs.Steps.{without}
use Rattle.chunk_plain.proofs.Lists.{at_more, times-both, times-here}
use Rattle.layout_tuner.specs.PageWords.{spot, is_full}
use Rattle.layout_tuner.specs.Knows.{Look, CollectView, takes_in, lets_go}
use Rattle.layout_tuner.specs.Plays.{told_total, Looks}
use Rattle.layout_tuner.specs.Collecting.{full_spots, Collects, IsCaughtUp, CollectsOne}

-- ---- one place

-- a complete chunk is taken and given back
pub collects_full : (users page place found : ℕ) (old first second new : CollectView) → Looks users page place old found first → old.reading ≡ [] → is_full found place ≡ true
    → second ≡ takes_in first (spot page place) → new ≡ lets_go second (spot page place) → CollectsOne users page place old new 1
collects_full users page place found old first second new looks none full takes gives =
    let at = spot page place in
    let done : CollectView = record old { looks = old.looks ++ record { page = page; place = place; found = found } ∷ []; taken = old.taken ++ at ∷ [] } in
    let all = gives ∙ (ap (λ (v : CollectView). lets_go v at) takes ∙ ap (λ (v : CollectView). lets_go (takes_in v at) at) looks.new_is) in
    let back : without at (old.reading ++ at ∷ []) ≡ old.reading = ap (λ l. without at (l ++ at ∷ [])) none ∙ (ap (λ b. if b then [] else at ∷ []) (eq-eqb at at refl) ∙ sym none) in
    let is : new ≡ done = all ∙ ap (λ (l : List ℕ). let v : CollectView = record done { reading = l } in v) back in
    record {
      found = found;
      new_is = is ∙ ap (λ b. let v : CollectView = record old { looks = old.looks ++ record { page = page; place = place; found = found } ∷ []; taken = old.taken ++ (if b then at ∷ [] else []) } in v) (sym full);
      count_is = ap (λ b. if b then 1 else 0) (sym full);
      caught_up = subst (λ (v : CollectView). told_total users at v ≤ times at v.taken) (sym is)
          (let more = times-here at old.taken in let most = looks.most in omega (arith, more, most));
    }

-- a chunk that isn't complete stays
pub collects_none : (users page place found : ℕ) (old new : CollectView) → Looks users page place old found new → is_full found place ≡ false → CollectsOne users page place old new 0
collects_none users page place found old new looks isnt =
    let at = spot page place in
    let seen : List Look = old.looks ++ record { page = page; place = place; found = found } ∷ [] in
    record {
      found = found;
      new_is = looks.new_is ∙ (ap (λ (l : List ℕ). let v : CollectView = record old { looks = seen; taken = l } in v) (sym (append-nil old.taken))
          ∙ ap (λ b. let v : CollectView = record old { looks = seen; taken = old.taken ++ (if b then at ∷ [] else []) } in v) (sym isnt));
      count_is = ap (λ b. if b then 1 else 0) (sym isnt);
      caught_up = subst (λ (v : CollectView). told_total users at v ≤ times at v.taken) (sym looks.new_is) (looks.told isnt);
    }

-- ---- all of them

pub collects_start : (view : CollectView) → view.reading ≡ [] → Collects 0 view view
collects_start view none = record {
  looks = [];
  many = refl;
  each = λ k look at. absurd (some-ne-none look (sym at));
  looks_is = sym (append-nil view.looks);
  taken_is = sym (append-nil view.taken);
  reading = none;
  told = refl;
}

full_spots-more : (looks : List Look) (look : Look) → full_spots (looks ++ look ∷ []) ≡ full_spots looks ++ (if is_full look.found look.place then spot look.page look.place ∷ [] else [])
full_spots-more [] look = refl
full_spots-more (one ∷ looks) look = step (is_full one.found one.place) (full_spots-more looks look)
  where
    last : List ℕ
    last = if is_full look.found look.place then spot look.page look.place ∷ [] else []

    step : (b : Bool) → full_spots (looks ++ look ∷ []) ≡ full_spots looks ++ last
        → (if b then spot one.page one.place ∷ full_spots (looks ++ look ∷ []) else full_spots (looks ++ look ∷ [])) ≡ (if b then spot one.page one.place ∷ full_spots looks else full_spots looks) ++ last
    step true tail = ap (λ l. spot one.page one.place ∷ l) tail
    step false tail = tail

pub collects_more : (users count page place n : ℕ) (old view new : CollectView) → Collects count old view → CollectsOne users page place view new n → spot page place ≡ count → place < 14 → Collects (count + 1) old new
collects_more users count page place n old view new all one here below =
    let look : Look = record { page = page; place = place; found = one.found } in
    let last : List ℕ = if is_full one.found place then spot page place ∷ [] else [] in
    record {
      looks = all.looks ++ look ∷ [];
      many = length-append all.looks (look ∷ []) ∙ (let many = all.many in omega (arith, many));
      each = λ k found at. ⊎_elim
          (λ before. all.each k found before)
          (λ new_. subst (λ (l : Look). (spot l.page l.place ≡ k) × (l.place < 14)) new_.1 (here ∙ (sym all.many ∙ sym new_.0), below))
          (at_more all.looks look found k at);
      looks_is = ap (λ (v : CollectView). v.looks) one.new_is ∙ (ap (λ l. l ++ look ∷ []) all.looks_is ∙ append_assoc old.looks all.looks (look ∷ []));
      taken_is = ap (λ (v : CollectView). v.taken) one.new_is ∙ (ap (λ l. l ++ last) all.taken_is
          ∙ (append_assoc old.taken (full_spots all.looks) last ∙ ap (λ l. old.taken ++ l) (sym (full_spots-more all.looks look))));
      reading = ap (λ (v : CollectView). v.reading) one.new_is ∙ all.reading;
      told = ap (λ (v : CollectView). v.told) one.new_is ∙ all.told;
    }

pub caught_more : (users page place count n : ℕ) (view new : CollectView) → IsCaughtUp users count view → CollectsOne users page place view new n → spot page place ≡ count → IsCaughtUp users (count + 1) new
caught_more users page place count n view new so_far one here at below = dite (ℕ_discrete at count)
    (λ same. subst (λ a. told_total users a new ≤ times a new.taken) (here ∙ sym same) one.caught_up)
    (λ differs.
    let was = so_far at (omega (arith, below, differs)) in
    let last : List ℕ = if is_full one.found place then spot page place ∷ [] else [] in
    let told : told_total users at new ≡ told_total users at view = ap (told_total users at) one.new_is in
    let taken = ap (λ (v : CollectView). times at v.taken) one.new_is ∙ times-both at view.taken last in
    omega (arith, was, told, taken))

pub counts_more : (users page place n : ℕ) (view new : CollectView) → CollectsOne users page place view new n → (length new.taken ≡ length view.taken + n) × (n ≤ 1)
counts_more users page place n view new one = step (is_full one.found place) refl
  where
    step : (b : Bool) → is_full one.found place ≡ b → (length new.taken ≡ length view.taken + n) × (n ≤ 1)
    step true is =
        let count = one.count_is ∙ ap (λ b. if b then 1 else 0) is in
        let taken = ap (λ (v : CollectView). length v.taken) one.new_is ∙ (ap (λ b. length (view.taken ++ (if b then spot page place ∷ [] else []))) is ∙ length-append view.taken (spot page place ∷ [])) in
        (omega (arith, count, taken), omega (arith, count))
    step false is =
        let count = one.count_is ∙ ap (λ b. if b then 1 else 0) is in
        let taken = ap (λ (v : CollectView). length v.taken) one.new_is ∙ (ap (λ b. length (view.taken ++ (if b then spot page place ∷ [] else []))) is ∙ length-append view.taken []) in
        (omega (arith, count, taken), omega (arith, count))
