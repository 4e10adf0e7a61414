-- Borders, after Knuth, Morris and Pratt: a front of a pattern that is also the end of a longer front. A pattern is given
-- by what stands at each of its places.
use Rattle.std.specs.Prelude.{◌≡◌, ℕ, ◌+◌, ◌-◌, ◌<◌, ◌≤◌, List, slice_index}

-- P holds at no place from one up to another
abbrev pub Nowhere : (ℕ → Type 0) → ℕ → ℕ → Type 0
Nowhere P low high = (k : ℕ) → low ≤ k → k < high → P k → ⊥

-- the first `len` packets of the pattern end with its first `border`
pub record IsBorder (pattern : ℕ → List ℕ) (len border : ℕ) : Type 0 where
  pub shorter : border < len
  pub repeats : (k : ℕ) → k < border → pattern k ≡ pattern (len - border + k)

-- no longer border ends them
pub record IsLongestBorder (pattern : ℕ → List ℕ) (len border : ℕ) : Type 0 where
  pub is_border : IsBorder pattern len border
  pub longest : (other : ℕ) → border < other → IsBorder pattern len other → ⊥

-- each front of fewer than `count` packets has its longest border in the table
abbrev pub BordersBelow : (ℕ → List ℕ) → List ℕ → ℕ → Type 0
BordersBelow pattern borders count = (len : ℕ) → 0 < len → len < count → IsLongestBorder pattern len (slice_index borders len)

-- the first `len` packets of the pattern stand in a text of `size` packets from a place on
pub record StandsAt (size : ℕ) (text pattern : ℕ → List ℕ) (len place : ℕ) : Type 0 where
  pub fits : place + len ≤ size
  pub reads : (k : ℕ) → k < len → text (place + k) ≡ pattern k
