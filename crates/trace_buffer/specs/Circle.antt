-- Bits for the positions from a base on, as a circle.
use Rattle.std.specs.Prelude.{ℕ, zero, suc, ◌%◌, Bool, false, List, [], ◌∷◌, ◌++◌, slice_index_or, slice_set, if◌then◌else◌}
use Rattle.trace_base.specs.declared.limits.TheConstants.{IDS_AHEAD}

-- the bit of a position, in a circle of as many as may come ahead
abbrev pub bit : List Bool → ℕ → Bool
bit bits position = slice_index_or bits (position % IDS_AHEAD) false

-- the circle with the bit of a position set or cleared
abbrev pub with_bit : List Bool → ℕ → Bool → List Bool
with_bit bits position b = slice_set bits (position % IDS_AHEAD) b

-- so many numbers from one on
abbrev pub numbers : ℕ → ℕ → List ℕ
numbers zero at = []
numbers (suc n) at = at ∷ numbers n (suc at)

-- of so many positions from one on those whose bits are set
unfoldable pub marked : List Bool → ℕ → ℕ → List ℕ
marked bits zero at = []
marked bits (suc n) at = if bit bits at then at ∷ marked bits n (suc at) else marked bits n (suc at)

-- all positions below the base, and those whose bits are set
abbrev pub arrived_of : ℕ → List Bool → List ℕ
arrived_of base bits = numbers base 0 ++ marked bits IDS_AHEAD base
