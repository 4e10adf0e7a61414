-- The loop that counts a varint's bytes: what it has counted, and how each step goes on.
use Rattle.std.proofs.Common.{◌≡◌, ℕ, suc, ◌+◌, ◌-◌, ◌/◌, ◌^◌, ◌<◌, ◌≤◌, length, refl, arith, inl, inr}
use Rattle.std.proofs.lemmas.Bool.{cases_lt}
use Rattle.std.proofs.lemmas.Nat.{div_below}
use Rattle.std.proofs.Math.Nat.{pow-suc}
use Rattle.wire_varint.specs.Varint.{groups, varint}
use Rattle.wire_varint.proofs.Groups.{groups_last, groups_more}

-- the bytes so far and the groups of the rest are as many as the varint has
pub record IsCountedUpTo (value rest len : ℕ) : Type 0 where
  pub most : ℕ
  pub within : len + most ≤ 9
  pub fits : rest < 128 ^ suc most
  pub whole : len + length (groups (suc most) rest) ≡ length (varint value)

pub counted_nothing : (value : ℕ) → value < 2 ^ 64 → IsCountedUpTo value value 0
unfolding varint
counted_nothing value fits =
    let all : length (groups 10 value) ≡ length (varint value) = refl in
    record { most = 9; within = omega arith; fits = omega (arith, fits); whole = omega (arith, all) }

pub counted_more : (value rest len : ℕ) → IsCountedUpTo value rest len → 128 ≤ rest → IsCountedUpTo value (rest / 128) (len + 1)
counted_more value rest len counted large =
    let some : 0 < counted.most = elim (cases_lt 0 counted.most) [
      | inl lt ↦ lt
      | inr ge ↦ let none : counted.most ≡ 0 = omega arith in absurd (omega (arith, rw none at counted.fits, large))
    ] in
    let step : counted.most ≡ suc (counted.most - 1) = omega (arith, some) in
    let all : len + suc (length (groups (suc (counted.most - 1)) (rest / 128))) ≡ length (varint value) =
    rw (groups_more counted.most rest large, step) at counted.whole in
    record {
      most = counted.most - 1;
      within = omega (arith, counted.within, some);
      fits = div_below rest 128 (128 ^ suc (counted.most - 1)) (omega arith) (rw (step, pow-suc 128 (suc (counted.most - 1))) at counted.fits);
      whole = omega (arith, all);
    }

pub counted_last : (value rest len : ℕ) → IsCountedUpTo value rest len → rest < 128 → len + 1 ≡ length (varint value)
counted_last value rest len counted small = rw (groups_last counted.most rest small) at counted.whole
