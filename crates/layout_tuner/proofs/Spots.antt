-- The numbers of places, and how often they stand in the lists of a view.
use Rattle.std.proofs.Common.{◌≡◌, ◌≢◌, ℕ, zero, suc, ◌+◌, ◌<◌, ◌≤◌, Bool, true, false, ◌==◌, List, [], ◌∷◌, ◌++◌, subst, sym, refl, ap, ◌∙◌, arith, append_assoc, eq-eqb, ne_eqb}
use Rattle.std.specs.Prelude.{if◌then◌else◌}
use Rattle.std.proofs.lemmas.Bool.Decides.{nat_tests}
use native.Mathlib.Decide.{ℕ_discrete}
use mathlib.Core.Logic.{dite}
use Rattle.chunk_plain.specs.Owned.{times}
use Rattle.chunk_plain.specs.Steps.{without}
use Rattle.chunk_plain.proofs.Lists.{times-first, times-passed, times-both, times-here, times-other}
use Rattle.layout_tuner.specs.PageWords.{spot}
use Rattle.layout_tuner.specs.Knows.{is_of, elsewhere, first_spots}

pub is_of-here : (page place : ℕ) → place < 14 → is_of page (spot page place) ≡ true
is_of-here page place inside = grind (arith, nat_tests, inside)

pub is_of-other : (page other place : ℕ) → other ≢ page → place < 14 → is_of page (spot other place) ≡ false
is_of-other page other place differs inside = grind (arith, nat_tests, inside, differs)

-- two places of different pages have different numbers
pub apart : (page other place q : ℕ) → place < 14 → q < 14 → other ≢ page → spot other q ≢ spot page place
apart page other place q inside below differs same = differs (omega (arith, inside, below, same))

pub apart_places : (page place q : ℕ) → q ≢ place → spot page q ≢ spot page place
apart_places page place q differs same = differs (omega (arith, same))

-- ---- the places of other pages

pub times-elsewhere_here : (page at : ℕ) (xs : List ℕ) → is_of page at ≡ true → times at (elsewhere page xs) ≡ 0
times-elsewhere_here page at [] of = refl
times-elsewhere_here page at (x ∷ xs) of = let tail = times-elsewhere_here page at xs of in step (is_of page x) refl tail
  where
    step : (b : Bool) → is_of page x ≡ b → times at (elsewhere page xs) ≡ 0 → times at (if b then elsewhere page xs else x ∷ elsewhere page xs) ≡ 0
    step true is tail = tail
    step false is tail = times-passed at x (elsewhere page xs) (λ same. absurd (let clash : is_of page at ≡ false = subst (λ y. is_of page y ≡ false) (sym same) is in cc)) ∙ tail

pub times-elsewhere_other : (page at : ℕ) (xs : List ℕ) → is_of page at ≡ false → times at (elsewhere page xs) ≡ times at xs
times-elsewhere_other page at [] of = refl
times-elsewhere_other page at (x ∷ xs) of = let tail = times-elsewhere_other page at xs of in step (is_of page x) refl tail
  where
    step : (b : Bool) → is_of page x ≡ b → times at (elsewhere page xs) ≡ times at xs → times at (if b then elsewhere page xs else x ∷ elsewhere page xs) ≡ times at (x ∷ xs)
    step true is tail = tail ∙ sym (times-passed at x xs (λ same. absurd (let clash : is_of page at ≡ true = subst (λ y. is_of page y ≡ true) (sym same) is in cc)))
    step false is tail = ap (λ n. if x == at then n + 1 else n) tail

-- ---- the first places of a page

pub times-first_spots_behind : (page n place : ℕ) → n ≤ place → times (spot page place) (first_spots page n) ≡ 0
times-first_spots_behind page zero place past = refl
times-first_spots_behind page (suc n) place past =
    times-other (spot page place) (spot page n) (first_spots page n) (apart_places page n place (λ e. absurd (omega (arith, past, e)))) ∙ times-first_spots_behind page n place (omega (arith, past))

pub times-first_spots : (page n place : ℕ) → place < n → n ≤ 14 → times (spot page place) (first_spots page n) ≡ 1
times-first_spots page zero place inside most = absurd (omega (arith, inside))
times-first_spots page (suc n) place inside most = dite (ℕ_discrete place n)
    (λ same. subst (λ m. times (spot page m) (first_spots page (suc n)) ≡ 1) (sym same)
    (times-here (spot page n) (first_spots page n) ∙ (let none = times-first_spots_behind page n n (omega arith) in omega (arith, none))))
    (λ differs. times-other (spot page place) (spot page n) (first_spots page n) (apart_places page n place differs) ∙ times-first_spots page n place (omega (arith, inside, differs)) (omega (arith, most)))

pub times-first_spots_other : (page other n place : ℕ) → other ≢ page → place < 14 → n ≤ 14 → times (spot other place) (first_spots page n) ≡ 0
times-first_spots_other page other zero place differs inside most = refl
times-first_spots_other page other (suc n) place differs inside most =
    times-other (spot other place) (spot page n) (first_spots page n) (apart page other n place (omega (arith, most)) inside differs)
    ∙ times-first_spots_other page other n place differs inside (omega (arith, most))

-- ---- the last one is taken out again

pub without-last : (x : ℕ) (xs : List ℕ) → times x xs ≡ 0 → without x (xs ++ x ∷ []) ≡ xs
without-last x [] none = ap (λ b. if b then [] else x ∷ []) (eq-eqb x x refl)
without-last x (y ∷ ys) none = dite (ℕ_discrete y x)
    (λ same. absurd (let has = times-first x ys in let all : times x (x ∷ ys) ≡ 0 = subst (λ z. times x (z ∷ ys) ≡ 0) same none in omega (arith, has, all)))
    (λ differs. ap (λ b. if b then ys ++ x ∷ [] else y ∷ without x (ys ++ x ∷ [])) (ne_eqb y x differs)
    ∙ ap (λ l. y ∷ l) (without-last x ys (sym (times-passed x y ys (λ e. differs (sym e))) ∙ none)))

pub without-last_spot : (page n : ℕ) (kept : List ℕ) → times (spot page n) kept ≡ 0 → without (spot page n) (kept ++ first_spots page (n + 1)) ≡ kept ++ first_spots page n
without-last_spot page n kept none =
    let next : n + 1 ≡ suc n = omega arith in
    ap (λ m. without (spot page n) (kept ++ first_spots page m)) next
    ∙ (ap (without (spot page n)) (sym (append_assoc kept (first_spots page n) (spot page n ∷ [])))
    ∙ without-last (spot page n) (kept ++ first_spots page n) (times-both (spot page n) kept (first_spots page n) ∙ (let behind = times-first_spots_behind page n n (omega arith) in omega (arith, none, behind))))
