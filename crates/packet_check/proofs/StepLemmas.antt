-- What the steps of the code owe.
use Rattle.std.proofs.Common.{◌≡◌, ◌≢◌, ℕ, ◌+◌, ◌*◌, ◌%◌, ◌^◌, ◌<◌, ◌≤◌, refl, arith, inl, inr, add-one}
use Rattle.std.proofs.lemmas.Bool.{cases_eq}
use Rattle.std.proofs.Math.Nat.{pow-suc, pow-le-pow_right, mul-le-mul_left}
use Rattle.packet_check.specs.Values.{IsVarintPart}

-- one group more stays below the next place's worth
pub below_more : (value scale count group : ℕ) → IsVarintPart value scale count → group < 128 → value + scale * group < 128 ^ (count + 1)
below_more value scale count group part small =
    let most : 128 ^ count * group ≤ 128 ^ count * 127 = mul-le-mul_left (128 ^ count) (omega arith) in
    rw (part.scale_is, add-one, pow-suc 128 count) (omega (arith, most, part.small))

-- of the tenth byte one bit is left
pub value_fits : (value scale count byte : ℕ) → IsVarintPart value scale count → (count ≡ 9 → byte ≤ 1) → value + scale * (byte % 128) < 2 ^ 64
value_fits value scale count byte part tenth = elim (cases_eq count 9) [
  | inl nine ↦
      let scale_is : scale ≡ 128 ^ 9 = rw nine at part.scale_is in
      let below : value < 128 ^ 9 = rw nine at part.small in
      rw scale_is (omega (arith, below, tenth nine))
  | inr before ↦
      let most : 128 ^ (count + 1) ≤ 128 ^ 9 = pow-le-pow_right {n = 128} (omega arith) {i = count + 1} {j = 9} (omega (arith, before, part.most)) in
      omega (arith, most, below_more value scale count (byte % 128) part (omega arith))
]

pub scale_fits : (value scale count : ℕ) → IsVarintPart value scale count → count ≢ 9 → scale * 128 < 2 ^ 64
scale_fits value scale count part before =
    let most : 128 ^ count ≤ 128 ^ 8 = pow-le-pow_right {n = 128} (omega arith) {i = count} {j = 8} (omega (arith, before, part.most)) in
    omega (arith, most, part.scale_is)

-- a varint that goes on
pub part_more : (value scale count byte : ℕ) → IsVarintPart value scale count → count ≢ 9
    → IsVarintPart (value + scale * (byte % 128)) (scale * 128) (count + 1)
part_more value scale count byte part before = record {
  most = omega (arith, part.most, before);
  scale_is = rw (part.scale_is, add-one, pow-suc 128 count) refl;
  small = below_more value scale count (byte % 128) part (omega arith);
}

pub ruleset varint_steps = (value_fits, scale_fits, part_more)
