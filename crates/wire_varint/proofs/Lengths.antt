-- How many bytes a varint and a tag have. `varint_lengths` is the set of them for callers.
use Rattle.std.proofs.Common.{◌≡◌, refl, ℕ, suc, zero, ◌+◌, ◌*◌, ◌/◌, ◌^◌, ◌<◌, ◌≤◌, length, arith, inl, inr}
use Rattle.std.proofs.lemmas.Bool.{cases_lt}
use Rattle.std.proofs.lemmas.Nat.{div_below}
use Rattle.std.proofs.Math.Nat.{pow-suc}
use Rattle.wire_varint.specs.Varint.{groups, varint, redundant, tag}
use Rattle.wire_varint.proofs.Groups.{groups_last, groups_more}

pub length-groups-pos : (most n : ℕ) → 1 ≤ length (groups (suc most) n)
length-groups-pos most n = elim (cases_lt n 128) [
  | inl small ↦ rw (groups_last most n small) (omega arith)
  | inr large ↦ rw (groups_more most n large) (omega arith)
]

-- so many groups hold a number below that power of 128
pub length-groups-le : (most k n : ℕ) → n < 128 ^ suc k → length (groups most n) ≤ suc k
unfolding groups
length-groups-le zero k n fits = omega arith
length-groups-le (suc most) zero n fits = let small : n < 128 = omega (arith, fits) in rw (groups_last most n small) (omega arith)
length-groups-le (suc most) (suc k) n fits = elim (cases_lt n 128) [
  | inl small ↦ rw (groups_last most n small) (omega arith)
  | inr large ↦
      let less : n / 128 < 128 ^ suc k = div_below n 128 (128 ^ suc k) (omega arith) (rw (pow-suc 128 (suc k)) at fits) in
      rw (groups_more most n large) (omega (arith, length-groups-le most k (n / 128) less))
]

pub length-groups-most : (most n : ℕ) → length (groups most n) ≤ most
unfolding groups
length-groups-most zero n = omega arith
length-groups-most (suc most) n = elim (cases_lt n 128) [
  | inl small ↦ rw (groups_last most n small) (omega arith)
  | inr large ↦ rw (groups_more most n large) (omega (arith, length-groups-most most (n / 128)))
]

pub length-varint-pos : (n : ℕ) → 1 ≤ length (varint n)
unfolding varint
length-varint-pos n = length-groups-pos 9 n

pub length-varint-le : (n : ℕ) → length (varint n) ≤ 10
unfolding varint
length-varint-le n = length-groups-most 10 n

-- a number below a power of 128 has at most so many bytes
pub length-varint-below : (k n : ℕ) → n < 128 ^ suc k → length (varint n) ≤ suc k
unfolding varint
length-varint-below k n fits = length-groups-le 10 k n fits

pub length-tag-pos : (field wire : ℕ) → 1 ≤ length (tag field wire)
unfolding tag
length-tag-pos field wire = length-varint-pos (8 * field + wire)

-- a field number is below 2 ^ 29, and a wire type below 8
pub length-tag-le : (field wire : ℕ) → field ≤ 536870911 → wire < 8 → length (tag field wire) ≤ 5
unfolding tag
length-tag-le field wire in_range small = length-varint-below 4 (8 * field + wire) (omega arith)

pub length-redundant : (n : ℕ) → length (redundant n) ≡ 4
unfolding redundant
length-redundant n = refl

pub ruleset varint_lengths = (length-varint-pos, length-varint-le, length-tag-pos, length-tag-le, length-redundant)
