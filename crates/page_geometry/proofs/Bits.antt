-- Single bits and small fields of a word, and what `|`, `&`, `!` and shifts make of them.
use Rattle.std.proofs.Common.{◌≡◌, ◌≢◌, ℕ, ◌+◌, ◌-◌, ◌*◌, ◌/◌, ◌%◌, ◌^◌, ◌<◌, bit_and, sym, ◌∙◌, ap, inl, inr, arith}
use Rattle.std.specs.Int.{bit_at}
use Rattle.std.proofs.lemmas.Bool.{cases_lt}
use Rattle.std.proofs.lemmas.Nat.{shl-shr, shr-shr}
use Rattle.std.proofs.lemmas.Nat.Bits.{bit_at-zero, bit_at_and, bit_at-lt, bit_at_above, bit_at_cat_low}

-- a number shifted up has no bit below the shift
pub bit_at-shl_below : (n k bit : ℕ) → bit < k → bit_at (n * 2 ^ k) bit ≡ 0
bit_at-shl_below n k bit below =
    let as_sum : n * 2 ^ k ≡ n * 2 ^ k + 0 = omega arith in
    ap (λ x. bit_at x bit) as_sum ∙ (bit_at_cat_low n k 0 bit below ∙ bit_at-zero bit)

-- and above it the bits that it had
pub bit_at-shl : (n k bit : ℕ) → bit_at (n * 2 ^ k) (k + bit) ≡ bit_at n bit
bit_at-shl n k bit = ap (λ x. x % 2) (sym (shr-shr (n * 2 ^ k) k bit)) ∙ ap (λ x. bit_at x bit) (shl-shr n k)

-- a number shifted down has the bits from there on
pub bit_at-shr : (n k bit : ℕ) → bit_at (n / 2 ^ k) bit ≡ bit_at n (k + bit)
bit_at-shr n k bit = ap (λ x. x % 2) (shr-shr n k bit)

-- a field of two bits has no others
pub bit_at-shl_outside : (field k bit : ℕ) → field < 4 → bit ≢ k → bit ≢ k + 1 → bit_at (field * 2 ^ k) bit ≡ 0
bit_at-shl_outside field k bit small low high =
    elim (cases_lt bit k) [
      | inl below ↦ bit_at-shl_below field k bit below
      | inr above ↦
          let as_sum : bit ≡ k + (bit - k) = omega arith in
          ap (λ x. bit_at (field * 2 ^ k) x) as_sum ∙ (bit_at-shl field k (bit - k) ∙ bit_at_above field 2 (bit - k) small (omega arith))
    ]

-- an and with a mask keeps each bit that the mask has
pub bit_at-and_kept : (word mask bit : ℕ) → word < 2 ^ 64 → (bit < 64 → bit_at mask bit ≡ 1) → bit_at (bit_and word mask) bit ≡ bit_at word bit
bit_at-and_kept word mask bit fits kept =
    elim (cases_lt bit 64) [
      | inl inside ↦ bit_at_and word mask bit ∙ omega (arith, kept inside, bit_at-lt word bit)
      | inr outside ↦ bit_at_and word mask bit ∙ omega (arith, bit_at_above word 64 bit fits outside)
    ]

-- and clears each that it hasn't
pub bit_at-and_cleared : (word mask bit : ℕ) → bit_at mask bit ≡ 0 → bit_at (bit_and word mask) bit ≡ 0
bit_at-and_cleared word mask bit cleared = bit_at_and word mask bit ∙ omega (arith, cleared)
