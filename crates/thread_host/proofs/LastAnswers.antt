-- What the writers answer at the end of a run, one after another.
use Rattle.std.proofs.Common.{◌≡◌, ℕ, zero, suc, ◌⊎◌, inl, inr, Some, List, [], ◌∷◌, set, refl, ap, arith}
use Rattle.std.specs.Prelude.{slice_get}
use Rattle.std.proofs.lemmas.Option.{same_Some}

-- what stands in a list in which one element was written
pub set_get : {A : Type 0} (xs : List A) (i j : ℕ) (x y : A) → slice_get (set xs i x) j ≡ Some y
    → ((j ≡ i) × (x ≡ y)) ⊎ ((j ≡ i → ⊥) × (slice_get xs j ≡ Some y))
set_get [] i j x y there = absurd (cc)
set_get (z ∷ xs) zero zero x y there = inl (refl, same_Some x y there)
set_get (z ∷ xs) zero (suc j) x y there = inr (λ same. omega (arith, same), there)
set_get (z ∷ xs) (suc i) zero x y there = inr (λ same. omega (arith, same), there)
set_get (z ∷ xs) (suc i) (suc j) x y there = elim (set_get xs i j x y there) [
  | inl is ↦ inl (ap suc is.0, is.1)
  | inr old ↦ inr (λ same. old.0 (omega (arith, same)), old.1)
]
