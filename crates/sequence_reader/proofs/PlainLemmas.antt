-- Which fragments of a chunk may be packets by themselves, for all that its header says.
use Rattle.std.proofs.Common.{◌≡◌, ℕ, ◌+◌, ◌-◌, ◌%◌, ◌<◌, ◌≤◌, ◌==◌, ◌&&◌, Bool, true, false, refl, arith, eqb-true, ne_eqb}

-- a fragment from the first on that continues no packet isn't a first one that does
pub no_first : (flags passed start : ℕ) → (flags % 2 ≡ 1 → start ≡ 1) → start ≤ passed → ((flags % 2 == 1) && (passed == 0)) ≡ false
no_first flags passed start told from = of (flags % 2 == 1) refl
  where
    of : (b : Bool) → (flags % 2 == 1) ≡ b → (b && (passed == 0)) ≡ false
    of true is =
        let one : flags % 2 ≡ 1 = eqb-true (flags % 2) 1 is in
        ne_eqb passed 0 (λ e. absurd (omega (arith, e, from, told one)))
    of false is = refl

-- a fragment before the end of those for which this isn't told isn't a last one for which it is
pub no_last : (told : Bool) (passed count end : ℕ) → passed < end → (told ≡ true → end ≡ count - 1) → (told && (passed + 1 == count)) ≡ false
no_last true passed count end below last = ne_eqb (passed + 1) count (λ e. absurd (omega (arith, e, below, last refl)))
no_last false passed count end below last = refl
