-- Where a varint ends.
use Rattle.std.proofs.Common.{◌≡◌, ℕ, zero, suc, ◌+◌, ◌/◌, ◌%◌, ◌^◌, ◌<◌, ◌≤◌, List, [], ◌∷◌, ◌++◌, length, ap, arith, inl, inr, All}
use Rattle.std.proofs.lemmas.Bool.{cases_lt}
use Rattle.std.proofs.lemmas.List.Elements.{All-head, All-tail}
use Rattle.std.proofs.lemmas.Nat.{div_below}
use Rattle.std.proofs.Math.Nat.{pow-suc}
use Rattle.wire_varint.specs.Reading.{IsWhole}
use Rattle.wire_varint.specs.Varint.{groups}
use Rattle.wire_varint.proofs.Groups.{groups_last, groups_more}

pub IsWhole-cons : (byte : ℕ) (bytes : List ℕ) → 128 ≤ byte → IsWhole bytes → IsWhole (byte ∷ bytes)
IsWhole-cons byte [] high whole = absurd whole
IsWhole-cons byte (next ∷ bytes) high whole = (high, whole)

pub whole_some : (bytes : List ℕ) → IsWhole bytes → 0 < length bytes
whole_some [] whole = absurd whole
whole_some (byte ∷ bytes) whole = omega arith

pub IsWhole-push : (bytes : List ℕ) (last : ℕ) → All (λ b. 128 ≤ b) bytes → last < 128 → IsWhole (bytes ++ last ∷ [])
IsWhole-push [] last high low = low
IsWhole-push (byte ∷ bytes) last high low =
    IsWhole-cons byte (bytes ++ last ∷ []) (All-head (λ b. 128 ≤ b) byte bytes high) (IsWhole-push bytes last (All-tail (λ b. 128 ≤ b) byte bytes high) low)

pub IsWhole-groups : (most n : ℕ) → n < 128 ^ suc most → IsWhole (groups (suc most) n)
IsWhole-groups zero n fits = let small : n < 128 = omega (arith, fits) in rw (groups_last 0 n small) small
IsWhole-groups (suc most) n fits = elim (cases_lt n 128) [
  | inl small ↦ rw (groups_last (suc most) n small) small
  | inr large ↦
      let less : n / 128 < 128 ^ suc most = div_below n 128 (128 ^ suc most) (omega arith) (rw (pow-suc 128 (suc most)) at fits) in
      rw (groups_more (suc most) n large) (IsWhole-cons (128 + n % 128) (groups (suc most) (n / 128)) (omega arith) (IsWhole-groups most (n / 128) less))
]

pub last_low : (front : List ℕ) (last : ℕ) → IsWhole (front ++ last ∷ []) → last < 128
last_low [] last whole = whole
last_low (byte ∷ []) last whole = whole.1
last_low (byte ∷ next ∷ front) last whole = last_low (next ∷ front) last whole.1

-- bytes that all go on have no end
pub high_not_whole : (bytes : List ℕ) → All (λ b. 128 ≤ b) bytes → IsWhole bytes → ⊥
high_not_whole [] high whole = whole
high_not_whole (byte ∷ []) high low = omega (arith, All-head (λ b. 128 ≤ b) byte [] high, low)
high_not_whole (byte ∷ next ∷ bytes) high whole = high_not_whole (next ∷ bytes) (All-tail (λ b. 128 ≤ b) byte (next ∷ bytes) high) whole.1

-- what stands in front of other bytes ends at one place
pub whole_once : (a b x y : List ℕ) → IsWhole a → IsWhole b → a ++ x ≡ b ++ y → a ≡ b
whole_once [] b x y p q e = absurd p
whole_once (m ∷ a) [] x y p q e = absurd q
whole_once (m ∷ []) (n ∷ []) x y p q e = let same : m ≡ n = cc in ap (λ k. k ∷ []) same
whole_once (m ∷ []) (n ∷ n' ∷ b) x y p q e = let same : m ≡ n = cc in absurd (omega (arith, p, q.0, same))
whole_once (m ∷ m' ∷ a) (n ∷ []) x y p q e = let same : m ≡ n = cc in absurd (omega (arith, p.0, q, same))
whole_once (m ∷ m' ∷ a) (n ∷ n' ∷ b) x y p q e =
    let rest : (m' ∷ a) ++ x ≡ (n' ∷ b) ++ y = cc in
    let tails : m' ∷ a ≡ n' ∷ b = whole_once (m' ∷ a) (n' ∷ b) x y p.1 q.1 rest in
    cc
