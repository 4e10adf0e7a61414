use Rattle.std.proofs.Common.{ℕ, zero, suc, ◌<◌, [], ◌∷◌, get_or, refl, ◌∙◌, arith}
use Rattle.std.proofs.lemmas.Nat.{le_bytes_2}
use Rattle.trace_file.proofs.parts.two.Goals as goal

bytes_fit : (first second : ℕ) → first < 256 → second < 256 → (i : ℕ) → get_or (first ∷ second ∷ []) i 0 < 256
bytes_fit first second one two zero = one
bytes_fit first second one two (suc zero) = two
bytes_fit first second one two (suc (suc i)) = omega arith

pub returns : goal.returns
returns c =
    c.to_le_bytes.ensures
    ∙ le_bytes_2 (c.args.first ∷ c.args.second ∷ []) c.from_le_bytes.result refl
    (bytes_fit c.args.first c.args.second c.ranges.first.fits c.ranges.second.fits) c.from_le_bytes.ensures
