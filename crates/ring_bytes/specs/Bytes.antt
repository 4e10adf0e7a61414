-- Parts of a list of bytes, and what a write leaves alone.
use Rattle.std.specs.Prelude.{◌≡◌, ℕ, ◌+◌, ◌≤◌, List, length, take, drop}

-- the bytes from a place on, so many
abbrev pub slice : ℕ → ℕ → List ℕ → List ℕ
slice at count bytes = take count (drop at bytes)

-- each stretch that ends before `from` or begins behind `to` is as it was
pub record SameOutside (from to : ℕ) (old new : List ℕ) : Type 0 where
  pub below : (at count : ℕ) → at + count ≤ from → slice at count new ≡ slice at count old
  pub above : (at count : ℕ) → to ≤ at → slice at count new ≡ slice at count old
  pub size : length new ≡ length old
