-- A table with one writer begins with nothing taken of any place.
use Rattle.std.proofs.Common.{◌≡◌, ℕ, zero, suc, [], ◌∷◌, get_or, refl}
use Rattle.chunk_plain.specs.Views.{none_taken}

pub nothing_taken : (place : ℕ) → (get_or (none_taken ∷ []) place none_taken).count ≡ 0
nothing_taken zero = refl
nothing_taken (suc zero) = refl
nothing_taken (suc (suc place)) = refl
