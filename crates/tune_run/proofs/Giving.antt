-- The chunks of a page that was partitioned anew, which its user has and gives back.
use Rattle.std.proofs.Common.{◌≡◌, ℕ, zero, suc, ◌-◌, ◌≤◌, Bool, true, false, List, [], ◌∷◌, ◌++◌, length, get_or, refl, ap, ◌∙◌, arith}
use Rattle.std.specs.Prelude.{if◌then◌else◌}
use Rattle.std.proofs.lemmas.List.{length-append}
use Rattle.layout_tuner.specs.PageWords.{spot, chunks_of}
use Rattle.layout_tuner.specs.Knows.{UserView, is_of, elsewhere, first_spots}
use Rattle.layout_tuner.specs.Retiling.{Partitions}
use Rattle.layout_tuner.proofs.Spots.{is_of-here}

pub length-first_spots : (page n : ℕ) → length (first_spots page n) ≡ n
length-first_spots page zero = refl
length-first_spots page (suc n) = length-append (first_spots page n) (spot page n ∷ []) ∙ (let tail = length-first_spots page n in omega (arith, tail))

pub nothing_left : (xs : List ℕ) → length xs ≡ 0 → xs ≡ []
nothing_left [] none = refl
nothing_left (x ∷ xs) none = absurd (omega (arith, none))

elsewhere-append : (page : ℕ) (xs ys : List ℕ) → elsewhere page (xs ++ ys) ≡ elsewhere page xs ++ elsewhere page ys
elsewhere-append page [] ys = refl
elsewhere-append page (x ∷ xs) ys = step (is_of page x) (elsewhere-append page xs ys)
  where
    step : (b : Bool) → elsewhere page (xs ++ ys) ≡ elsewhere page xs ++ elsewhere page ys
        → (if b then elsewhere page (xs ++ ys) else x ∷ elsewhere page (xs ++ ys)) ≡ (if b then elsewhere page xs else x ∷ elsewhere page xs) ++ elsewhere page ys
    step true tail = tail
    step false tail = ap (λ l. x ∷ l) tail

elsewhere-first_spots : (page n : ℕ) → n ≤ 14 → elsewhere page (first_spots page n) ≡ []
elsewhere-first_spots page zero few = refl
elsewhere-first_spots page (suc n) few =
    elsewhere-append page (first_spots page n) (spot page n ∷ [])
    ∙ (ap (λ l. l ++ elsewhere page (spot page n ∷ [])) (elsewhere-first_spots page n (omega (arith, few)))
    ∙ ap (λ b. if b then [] else spot page n ∷ []) (is_of-here page n (omega (arith, few))))

-- no layout has more than 14 chunks
few_at : (k : ℕ) → get_or (1 ∷ 2 ∷ 4 ∷ 7 ∷ 14 ∷ []) k 0 ≤ 14
few_at zero = omega arith
few_at (suc zero) = omega arith
few_at (suc (suc zero)) = omega arith
few_at (suc (suc (suc zero))) = omega arith
few_at (suc (suc (suc (suc zero)))) = omega arith
few_at (suc (suc (suc (suc (suc k))))) = omega arith

-- a user that had nothing has just the chunks of the page that it partitioned anew
pub partitioned_claims : (page layout : ℕ) (old new : UserView) → old.claimed ≡ [] → Partitions page layout old new → new.claimed ≡ first_spots page (chunks_of layout)
partitioned_claims page layout old new none one =
    let few : chunks_of one.old_layout ≤ 14 = few_at (one.old_layout - 1) in
    let before = one.wins.claimed ∙ ap (λ l. l ++ first_spots page (chunks_of one.old_layout)) none in
    ap (λ (v : UserView). v.claimed) one.new_is
    ∙ ap (λ l. l ++ first_spots page (chunks_of layout)) (ap (elsewhere page) before ∙ elsewhere-first_spots page (chunks_of one.old_layout) few)
