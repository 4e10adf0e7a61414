-- The table of the values of hexadecimal digits, and what the sum of a pair's values says.
use Rattle.std.proofs.Common.{◌≡◌, ℕ, zero, suc, ◌+◌, ◌-◌, ◌*◌, ◌<◌, ◌≤◌, List, [], ◌∷◌, ◌++◌, length, length-append, get_or, bit_or, ◌&&◌, nat_le, if◌then◌else◌, Option, Some, None, inl, inr, arith, refl, sym, ap, subst, take, drop, ◌∙◌}
use Rattle.std.proofs.lemmas.Bool.{cases_lt, cond_both, and_parts, leb-true}
use Rattle.std.proofs.lemmas.List.{get_or_append_left, get_or_push, drop_more, take_rest}
use Rattle.std.proofs.lemmas.Nat.{le_or_l, le_or_r}
use Rattle.field_tree.specs.Machine.{hex_value, or_more, digit_or_more}
use Rattle.field_tree.specs.Scanning.{IsPair, ArePairs}
use Rattle.field_tree.specs.Grammar.{is_digit}
use Rattle.field_tree.proofs.TestLemmas.{digit_range}

-- the values of the first bytes
unfoldable values : ℕ → List ℕ
values zero = []
values (suc n) = values n ++ digit_or_more n ∷ []

values_length : (n : ℕ) → length (values n) ≡ n
unfolding values
values_length zero = refl
values_length (suc n) = omega (arith, length-append (values n) (digit_or_more n ∷ []), values_length n)

values_at : (n k d : ℕ) → k < n → get_or (values n) k d ≡ digit_or_more k
unfolding values
values_at zero k d h = absurd (omega arith)
values_at (suc n) k d h =
    elim (cases_lt k n) [
      | inl under ↦ get_or_append_left (values n) (digit_or_more n ∷ []) d k (rw (values_length n) under) ∙ values_at n k d under
      | inr over ↦
          let same : length (values n) ≡ k = values_length n ∙ (omega arith) in
          get_or_push (values n) (digit_or_more n) d k same ∙ ap digit_or_more (omega arith)
    ]

abbrev pub hex_table : List ℕ
hex_table = 256 ∷ 256 ∷ 256 ∷ 256 ∷ 256 ∷ 256 ∷ 256 ∷ 256 ∷ 256 ∷ 256 ∷ 256 ∷ 256 ∷ 256 ∷ 256 ∷ 256 ∷ 256 ∷ 256 ∷ 256 ∷ 256 ∷ 256 ∷ 256 ∷ 256 ∷ 256 ∷ 256 ∷ 256 ∷ 256 ∷ 256 ∷ 256 ∷ 256 ∷ 256 ∷ 256 ∷ 256 ∷ 256 ∷ 256 ∷ 256 ∷ 256 ∷ 256 ∷ 256 ∷ 256 ∷ 256 ∷ 256 ∷ 256 ∷ 256 ∷ 256 ∷ 256 ∷ 256 ∷ 256 ∷ 256 ∷ 0 ∷ 1 ∷ 2 ∷ 3 ∷ 4 ∷ 5 ∷ 6 ∷ 7 ∷ 8 ∷ 9 ∷ 256 ∷ 256 ∷ 256 ∷ 256 ∷ 256 ∷ 256 ∷ 256 ∷ 256 ∷ 256 ∷ 256 ∷ 256 ∷ 256 ∷ 256 ∷ 256 ∷ 256 ∷ 256 ∷ 256 ∷ 256 ∷ 256 ∷ 256 ∷ 256 ∷ 256 ∷ 256 ∷ 256 ∷ 256 ∷ 256 ∷ 256 ∷ 256 ∷ 256 ∷ 256 ∷ 256 ∷ 256 ∷ 256 ∷ 256 ∷ 256 ∷ 256 ∷ 256 ∷ 256 ∷ 256 ∷ 10 ∷ 11 ∷ 12 ∷ 13 ∷ 14 ∷ 15 ∷ 256 ∷ 256 ∷ 256 ∷ 256 ∷ 256 ∷ 256 ∷ 256 ∷ 256 ∷ 256 ∷ 256 ∷ 256 ∷ 256 ∷ 256 ∷ 256 ∷ 256 ∷ 256 ∷ 256 ∷ 256 ∷ 256 ∷ 256 ∷ 256 ∷ 256 ∷ 256 ∷ 256 ∷ 256 ∷ 256 ∷ 256 ∷ 256 ∷ 256 ∷ 256 ∷ 256 ∷ 256 ∷ 256 ∷ 256 ∷ 256 ∷ 256 ∷ 256 ∷ 256 ∷ 256 ∷ 256 ∷ 256 ∷ 256 ∷ 256 ∷ 256 ∷ 256 ∷ 256 ∷ 256 ∷ 256 ∷ 256 ∷ 256 ∷ 256 ∷ 256 ∷ 256 ∷ 256 ∷ 256 ∷ 256 ∷ 256 ∷ 256 ∷ 256 ∷ 256 ∷ 256 ∷ 256 ∷ 256 ∷ 256 ∷ 256 ∷ 256 ∷ 256 ∷ 256 ∷ 256 ∷ 256 ∷ 256 ∷ 256 ∷ 256 ∷ 256 ∷ 256 ∷ 256 ∷ 256 ∷ 256 ∷ 256 ∷ 256 ∷ 256 ∷ 256 ∷ 256 ∷ 256 ∷ 256 ∷ 256 ∷ 256 ∷ 256 ∷ 256 ∷ 256 ∷ 256 ∷ 256 ∷ 256 ∷ 256 ∷ 256 ∷ 256 ∷ 256 ∷ 256 ∷ 256 ∷ 256 ∷ 256 ∷ 256 ∷ 256 ∷ 256 ∷ 256 ∷ 256 ∷ 256 ∷ 256 ∷ 256 ∷ 256 ∷ 256 ∷ 256 ∷ 256 ∷ 256 ∷ 256 ∷ 256 ∷ 256 ∷ 256 ∷ 256 ∷ 256 ∷ 256 ∷ 256 ∷ 256 ∷ 256 ∷ 256 ∷ 256 ∷ 256 ∷ 256 ∷ 256 ∷ 256 ∷ 256 ∷ 256 ∷ 256 ∷ 256 ∷ 256 ∷ 256 ∷ 256 ∷ 256 ∷ 256 ∷ 256 ∷ 256 ∷ 256 ∷ 256 ∷ 256 ∷ 256 ∷ 256 ∷ 256 ∷ 256 ∷ 256 ∷ 256 ∷ 256 ∷ 256 ∷ 256 ∷ []

table_is_values : hex_table ≡ values 256
unfolding values hex_value
table_is_values = refl

pub table_value : (b : ℕ) → b < 256 → get_or hex_table b 0 ≡ digit_or_more b
table_value b within = ap (λ (l : List ℕ). get_or l b 0) table_is_values ∙ values_at 256 b 0 within

hex_small : (b v : ℕ) → hex_value b ≡ Some v → v < 16
unfolding hex_value
hex_small b v is =
    let letter = nat_le 97 b && nat_le b 102 in
    cond_both (is_digit b) (Some (b - 48)) (if letter then Some (b - 87) else None) (λ (o : Option ℕ). o ≡ Some v → v < 16)
    (λ digit same.
    let value : b - 48 ≡ v = cc in
    omega (arith, digit_range b digit, value))
    (λ _.
    cond_both letter (Some (b - 87)) None (λ (o : Option ℕ). o ≡ Some v → v < 16)
    (λ lower same.
    let value : b - 87 ≡ v = cc in
    omega (arith, leb-true b 102 (and_parts (nat_le 97 b) (nat_le b 102) lower).1, value))
    (λ _ same. absurd (cc))) is

no_value : (o : Option ℕ) → ((v : ℕ) → o ≡ Some v → v < 16) → 16 ≤ or_more o → None ≡ o
no_value None all big = refl
no_value (Some v) all big = absurd (omega (arith, all v refl))

pub value_refused : (b : ℕ) → 16 ≤ digit_or_more b → None ≡ hex_value b
value_refused b big = no_value (hex_value b) (hex_small b) big

most_value : (o : Option ℕ) → ((v : ℕ) → o ≡ Some v → v < 16) → or_more o ≤ 256
most_value None all = omega arith
most_value (Some v) all = omega (arith, all v refl)

pub value_within : (b : ℕ) → digit_or_more b ≤ 256
value_within b = most_value (hex_value b) (hex_small b)

-- a pair of digits, by the sum
pair_of : (high low : ℕ) (rest : List ℕ) (h l : Option ℕ) → hex_value high ≡ h → hex_value low ≡ l
    → 16 * or_more h + or_more l < 256 → IsPair (high ∷ low ∷ rest) (16 * or_more h + or_more l) rest
pair_of high low rest None l high_is low_is small = absurd (omega arith)
pair_of high low rest (Some h) None high_is low_is small = absurd (omega arith)
pair_of high low rest (Some h) (Some l) high_is low_is small =
    record { high = high; low = low; cut = refl; high_value = h; low_value = l; high_is = high_is; low_is = low_is; byte_is = refl }

pub pair_read : (high low : ℕ) (rest : List ℕ) → 16 * digit_or_more high + digit_or_more low < 256
    → IsPair (high ∷ low ∷ rest) (16 * digit_or_more high + digit_or_more low) rest
pair_read high low rest small = pair_of high low rest (hex_value high) (hex_value low) refl refl small

-- what has the bits of four numbers is as large as each of them
pub four_small : (a b c d : ℕ) → bit_or (bit_or (bit_or a b) c) d < 256 → (a < 256) × (b < 256) × (c < 256) × (d < 256)
four_small a b c d small =
    let fourth = le_or_r (bit_or (bit_or a b) c) d in
    let three = le_or_l (bit_or (bit_or a b) c) d in
    let third = le_or_r (bit_or a b) c in
    let two = le_or_l (bit_or a b) c in
    let second = le_or_r a b in
    let first = le_or_l a b in (
      omega (arith, first, two, three, small),
      omega (arith, second, two, three, small),
      omega (arith, third, three, small),
      omega (arith, fourth, small),
    )

-- the sum of the two values at a place and behind it
abbrev pub sum_at : List ℕ → ℕ → ℕ
sum_at bytes n = 16 * digit_or_more (get_or bytes n 0) + digit_or_more (get_or bytes (n + 1) 0)

-- a pair of digits behind some bytes, by the sum
pair_behind : (bytes : List ℕ) (n sum : ℕ) → n + 2 ≤ length bytes → sum ≡ sum_at bytes n → sum < 256 → IsPair (drop n bytes) sum (drop (n + 2) bytes)
pair_behind bytes n sum long is small =
    let high = get_or bytes n 0 in
    let low = get_or bytes (n + 1) 0 in
    let rest = drop (n + 2) bytes in
    let cut : drop n bytes ≡ high ∷ low ∷ rest =
    drop_more bytes n 0 (omega arith) ∙ ap (λ (l : List ℕ). high ∷ l) (drop_more bytes (n + 1) 0 (omega arith) ∙ ap (λ (k : ℕ). low ∷ drop k bytes) (omega arith)) in
    let pair = pair_read high low rest (subst (λ (s : ℕ). s < 256) is small) in
    rw cut (subst (λ (s : ℕ). IsPair (high ∷ low ∷ rest) s rest) (sym is) pair)

pub four_pairs_read : (bytes : List ℕ) (a b c d : ℕ) → 8 ≤ length bytes → bit_or (bit_or (bit_or a b) c) d < 256
    → a ≡ sum_at bytes 0 → b ≡ sum_at bytes 2 → c ≡ sum_at bytes 4 → d ≡ sum_at bytes 6 → ArePairs bytes (a ∷ b ∷ c ∷ d ∷ []) (take (length bytes - 8) (drop 8 bytes))
four_pairs_read bytes a b c d long small a_is b_is c_is d_is =
    let each = four_small a b c d small in (
      drop 2 bytes,
      pair_behind bytes 0 a (omega arith) a_is each.0,
      (drop 4 bytes, pair_behind bytes 2 b (omega arith) b_is each.1, (drop 6 bytes, pair_behind bytes 4 c (omega arith) c_is each.2, (drop 8 bytes, pair_behind bytes 6 d (omega arith) d_is each.3, sym (take_rest bytes 8)))),
    )
