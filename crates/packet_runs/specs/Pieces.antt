-- How packets share one list of bytes.
use Rattle.std.specs.Prelude.{ℕ, ◌-◌, ◌≤◌, List, [], ◌∷◌, take, drop}

-- the pieces of the bytes from a place on, each up to the next of these ends
abbrev pub pieces : List ℕ → ℕ → List ℕ → List (List ℕ)
pieces bytes start [] = []
pieces bytes start (end ∷ ends) = take (end - start) (drop start bytes) ∷ pieces bytes end ends

-- the ends rise from this place, and lie within so many bytes
abbrev pub AreEnds : ℕ → ℕ → List ℕ → Type 0
AreEnds size start [] = Unit {0}
AreEnds size start (end ∷ ends) = (start ≤ end) × (end ≤ size) × AreEnds size end ends
