-- Things in their places.
use Rattle.std.proofs.Common.{◌≡◌, ℕ, suc, zero, ◌≤◌, length, List, [], ◌∷◌, slice_set, refl, arith}

pub set_past : {X : Type 0} (things : List X) (i : ℕ) (thing : X) → length things ≤ i → slice_set things i thing ≡ things
set_past [] i thing past = refl
set_past (first ∷ others) zero thing past = absurd (omega arith)
set_past (first ∷ others) (suc i) thing past = rw (set_past others i thing (omega arith)) refl
