-- The loop that reads a varint: what it has read, and what each end of it says.
use Rattle.std.proofs.Common.{◌≡◌, ◌≢◌, ℕ, ◌+◌, ◌*◌, ◌%◌, ◌^◌, ◌<◌, ◌≤◌, List, [], ◌∷◌, length, take, get_or, arith, All, sym, refl, ◌∙◌, add-one, inl, inr}
use Rattle.std.proofs.lemmas.Bool.{cases_lt, cases_eq}
use Rattle.std.proofs.lemmas.List.{take_more, take-take, length-take-le, get_or-take, length-take, take_all}
use Rattle.std.proofs.lemmas.List.Elements.{All-more, All-take}
use Rattle.std.proofs.Math.Nat.{pow-le-pow_right, mul-le-mul_left, pow-suc}
use Rattle.wire_varint.specs.Reading.{joined, IsVarint, NoVarintInFront}
use Rattle.wire_varint.proofs.Joined.{joined-append}
use Rattle.wire_varint.proofs.Whole.{IsWhole-push, high_not_whole, last_low}

-- the bytes so far go on, and join to the value; the next byte's place is worth the scale
pub record IsReadUpTo (bytes : List ℕ) (at value scale : ℕ) : Type 0 where
  pub place : at ≤ 9
  pub high : All (λ b. 128 ≤ b) (take at bytes)
  pub so_far : joined (take at bytes) ≡ value
  pub scale_is : scale ≡ 128 ^ at
  pub small : value < 128 ^ at

-- one group more stays below the next place's worth
pub read_below : (bytes : List ℕ) (at value scale group : ℕ) → IsReadUpTo bytes at value scale → group < 128
    → value + scale * group < 128 ^ (at + 1)
read_below bytes at value scale group read small =
    let most : 128 ^ at * group ≤ 128 ^ at * 127 = mul-le-mul_left (128 ^ at) (omega arith) in
    rw (read.scale_is, add-one, pow-suc 128 at) (omega (arith, most, read.small))

pub scale_fits : (bytes : List ℕ) (at value scale : ℕ) → IsReadUpTo bytes at value scale → at ≢ 9 → scale * 128 < 2 ^ 64
scale_fits bytes at value scale read before =
    let most : 128 ^ at ≤ 128 ^ 8 = pow-le-pow_right {n = 128} (omega arith) {i = at} {j = 8} (omega arith) in
    omega (arith, most, read.scale_is)

-- of the tenth byte one bit is left
pub read_fits : (bytes : List ℕ) (at value scale group : ℕ) → IsReadUpTo bytes at value scale → group < 128 → (at ≡ 9 → group ≤ 1)
    → value + scale * group < 2 ^ 64
read_fits bytes at value scale group read small tenth = elim (cases_eq at 9) [
  | inl is ↦
      let scale_is : scale ≡ 128 ^ 9 = rw is at read.scale_is in
      let below : value < 128 ^ 9 = rw is at read.small in
      rw scale_is (omega (arith, below, tenth is))
  | inr before ↦
      let most : 128 ^ (at + 1) ≤ 128 ^ 9 = pow-le-pow_right {n = 128} (omega arith) {i = at + 1} {j = 9} (omega arith) in
      omega (arith, most, read_below bytes at value scale group read small)
]

pub joined_more : (bytes : List ℕ) (at value scale group : ℕ) → IsReadUpTo bytes at value scale → at < length bytes
    → group ≡ get_or bytes at 0 % 128 → joined (take (at + 1) bytes) ≡ value + scale * group
joined_more bytes at value scale group read within is =
    rw (take_more bytes at 0 within, joined-append (take at bytes) (get_or bytes at 0 ∷ []), length-take-le at bytes (omega arith), read.so_far, is, read.scale_is)
    (omega arith)

pub read_more : (bytes : List ℕ) (at value scale group : ℕ) → IsReadUpTo bytes at value scale → at < length bytes
    → 128 ≤ get_or bytes at 0 → group ≡ get_or bytes at 0 % 128 → at ≢ 9
    → IsReadUpTo bytes (at + 1) (value + scale * group) (scale * 128)
read_more bytes at value scale group read within high is before = record {
  place = omega arith;
  high = All-more (λ b. 128 ≤ b) bytes at 0 within read.high high;
  so_far = joined_more bytes at value scale group read within is;
  scale_is = rw (read.scale_is, add-one, pow-suc 128 at) refl;
  small = read_below bytes at value scale group read (omega (arith, is));
}

-- the byte that ends a varint
pub read_last : (bytes : List ℕ) (at value scale group : ℕ) → IsReadUpTo bytes at value scale → at < length bytes
    → get_or bytes at 0 < 128 → group ≡ get_or bytes at 0 % 128 → (at ≡ 9 → get_or bytes at 0 ≤ 1)
    → IsVarint (take (at + 1) bytes) (value + scale * group)
read_last bytes at value scale group read within low is tenth = record {
  whole = rw (take_more bytes at 0 within) (IsWhole-push (take at bytes) (get_or bytes at 0) read.high low);
  most = omega (arith, length-take (at + 1) bytes, read.place);
  value = joined_more bytes at value scale group read within is;
  fits = read_fits bytes at value scale group read (omega (arith, is)) (λ nine. omega (arith, is, tenth nine));
}

-- where each byte goes on, no varint stands in front
pub none_short : (bytes : List ℕ) → All (λ b. 128 ≤ b) bytes → NoVarintInFront bytes
none_short bytes high n len found = high_not_whole (take len bytes) (All-take (λ b. 128 ≤ b) len bytes high) found.whole

-- where the bytes end with one that goes on, none does
pub none_end : (bytes : List ℕ) (at value scale : ℕ) → IsReadUpTo bytes at value scale → length bytes ≤ at
    → NoVarintInFront bytes
none_end bytes at value scale read end = none_short bytes (rw (take_all at bytes end) at read.high)

-- where nine bytes go on and the tenth is above 1, none does
pub none_over : (bytes : List ℕ) (at value scale : ℕ) → IsReadUpTo bytes at value scale → at < length bytes → 1 < get_or bytes at 0 → at ≡ 9
    → NoVarintInFront bytes
none_over bytes at value scale read within large tenth n len found = elim (cases_lt len 10) [
  | inl early ↦ none_short (take 9 bytes) (rw tenth at read.high) n len (rw (take-take len 9 bytes (omega arith)) found)
  | inr late ↦
      let short : take 10 (take len bytes) ≡ take len bytes = take_all 10 (take len bytes) found.most in
      let ten : take len bytes ≡ take (at + 1) bytes = rw tenth (sym short ∙ take-take 10 len bytes late) in
      let low : get_or bytes at 0 < 128 = last_low (take at bytes) (get_or bytes at 0) (rw (ten, take_more bytes at 0 within) at found.whole) in
      let value_is = joined_more bytes at value scale (get_or bytes at 0 % 128) read within refl in
      let scale_is : scale ≡ 128 ^ 9 = rw tenth at read.scale_is in
      omega (arith, rw (ten, value_is, scale_is) at found.value, found.fits, low, large)
]

-- a byte that ends a varint within the first nine isn't one that goes on
pub low_early : (bytes : List ℕ) (at : ℕ) → at < 9 → at < length bytes → get_or bytes at 0 < 128 → All (λ b. 128 ≤ b) (take 9 bytes) → ⊥
low_early bytes at before within low high =
    omega (arith, low, rw (get_or-take 9 bytes at 0 before) at (high at 0 (omega (arith, length-take 9 bytes))))

-- what `get_long` needs of them
pub ruleset reading_steps = (read_fits, low_early)
