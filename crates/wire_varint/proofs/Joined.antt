-- What the low seven bits of the bytes join to.
use Rattle.std.proofs.Common.{◌≡◌, ℕ, zero, suc, ◌+◌, ◌*◌, ◌/◌, ◌^◌, ◌<◌, List, [], ◌∷◌, ◌++◌, length, arith, inl, inr}
use Rattle.std.proofs.lemmas.Bool.{cases_lt}
use Rattle.std.proofs.lemmas.Nat.{div_below}
use Rattle.std.proofs.Math.Nat.{pow-suc, pow-succ'}
use Rattle.wire_varint.specs.Reading.{joined}
use Rattle.wire_varint.specs.Varint.{groups}
use Rattle.wire_varint.proofs.Groups.{groups_last, groups_more}

pub joined-append : (front back : List ℕ) → joined (front ++ back) ≡ joined front + 128 ^ length front * joined back
joined-append [] back = omega arith
joined-append (byte ∷ front) back = rw (joined-append front back, pow-succ' 128 (length front)) (omega arith)

pub joined-lt : (bytes : List ℕ) → joined bytes < 128 ^ length bytes
joined-lt [] = omega arith
joined-lt (byte ∷ bytes) = rw (pow-succ' 128 (length bytes)) (omega (arith, joined-lt bytes))

pub joined-groups : (most n : ℕ) → n < 128 ^ suc most → joined (groups (suc most) n) ≡ n
joined-groups zero n fits = rw (groups_last 0 n (omega (arith, fits))) (omega (arith, fits))
joined-groups (suc most) n fits = elim (cases_lt n 128) [
  | inl small ↦ rw (groups_last (suc most) n small) (omega arith)
  | inr large ↦
      let less : n / 128 < 128 ^ suc most = div_below n 128 (128 ^ suc most) (omega arith) (rw (pow-suc 128 (suc most)) at fits) in
      rw (groups_more (suc most) n large, joined-groups most (n / 128) less) (omega arith)
]
