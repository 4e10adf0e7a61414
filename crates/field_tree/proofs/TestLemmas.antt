-- What the tests of a byte say, and what one digit more makes of a number.
use Rattle.std.proofs.Common.{◌≡◌, ℕ, ◌+◌, ◌-◌, ◌*◌, ◌/◌, ◌%◌, ◌^◌, ◌<◌, ◌≤◌, true, cond, ◌&&◌, ◌==◌, not, nat_le, nat_lt, Option, Some, None, List, [], ◌∷◌, ◌++◌, sym, ap, arith, ◌∙◌}
use Rattle.std.proofs.lemmas.Bool.{cond_both, cond-true, cond-false, and_parts, leb-true, eqb-false, not-true, lt-ltb, le-ltb}
use Rattle.std.proofs.lemmas.Fmt.{decimal_step, decimal_digit}
use Rattle.field_tree.specs.declared.mode.Action.{Action}
use Rattle.field_tree.specs.declared.mode.Action.TheVariants.{Refuse}
use Rattle.field_tree.specs.Grammar.{number, hex_digit, pairs, is_digit, IsTextByte}
use Rattle.field_tree.specs.Machine.{is_first_digit, is_text_byte, grown, hex_value, go_on}

pub digit_range : (b : ℕ) → is_digit b ≡ true → (48 ≤ b) × (b ≤ 57)
digit_range b is =
    let both = and_parts (nat_le 48 b) (nat_le b 57) is in
    (leb-true 48 b both.0, leb-true b 57 both.1)

pub first_digit_range : (b : ℕ) → is_first_digit b ≡ true → (49 ≤ b) × (b ≤ 57)
first_digit_range b is =
    let both = and_parts (nat_le 49 b) (nat_le b 57) is in
    (leb-true 49 b both.0, leb-true b 57 both.1)

pub text_byte : (b : ℕ) → is_text_byte b ≡ true → IsTextByte b
text_byte b is =
    let last = and_parts (nat_le 32 b && nat_le b 126 && not (b == 34)) (not (b == 92)) is in
    let third = and_parts (nat_le 32 b && nat_le b 126) (not (b == 34)) last.0 in
    let range = and_parts (nat_le 32 b) (nat_le b 126) third.0 in
    (leb-true 32 b range.0, leb-true b 126 range.1, eqb-false b 34 (not-true (b == 34) third.1), eqb-false b 92 (not-true (b == 92) last.1))

pub by_grown : (P : Action → Type 0) (most value b : ℕ) (f : ℕ → Action) → P Refuse
    → ((digit : ℕ) → digit < 10 → b ≡ 48 + digit → value * 10 + digit ≤ most → P (f (value * 10 + digit)))
    → P (go_on (grown most value b) f)
unfolding grown
by_grown P most value b f refused grows =
    cond_both (is_digit b && nat_le (value * 10 + (b - 48)) most) (Some (value * 10 + (b - 48))) None (λ (o : Option ℕ). P (go_on o f))
    (λ is.
    let both = and_parts (is_digit b) (nat_le (value * 10 + (b - 48)) most) is in
    let range = digit_range b both.0 in
    grows (b - 48) (omega arith) (omega arith) (leb-true (value * 10 + (b - 48)) most both.1))
    (λ is. refused)

pub hex_digit_low : (h : ℕ) → h < 10 → hex_digit h ≡ 48 + h
hex_digit_low h low = cond-true (nat_lt h 10) (48 + h) (87 + h) (lt-ltb h 10 low)

pub hex_digit_high : (h : ℕ) → 10 ≤ h → hex_digit h ≡ 87 + h
hex_digit_high h high = cond-false (nat_lt h 10) (48 + h) (87 + h) (le-ltb h 10 high)

pub by_hex : (P : Action → Type 0) (b : ℕ) (f : ℕ → Action) → P Refuse
    → ((h : ℕ) → h < 16 → b ≡ hex_digit h → P (f h))
    → P (go_on (hex_value b) f)
unfolding hex_value
by_hex P b f refused goes =
    cond_both (is_digit b) (Some (b - 48)) (cond (nat_le 97 b && nat_le b 102) (Some (b - 87)) None) (λ (o : Option ℕ). P (go_on o f))
    (λ is.
    let range = digit_range b is in
    let low : b - 48 < 10 = omega arith in
    let back : b ≡ 48 + (b - 48) = omega arith in
    goes (b - 48) (omega arith) (back ∙ sym (hex_digit_low (b - 48) low)))
    (λ other. cond_both (nat_le 97 b && nat_le b 102) (Some (b - 87)) None (λ (o : Option ℕ). P (go_on o f))
    (λ is.
    let both = and_parts (nat_le 97 b) (nat_le b 102) is in
    let from = leb-true 97 b both.0 in
    let to = leb-true b 102 both.1 in
    let high : 10 ≤ b - 87 = omega arith in
    let back : b ≡ 87 + (b - 87) = omega arith in
    goes (b - 87) (omega arith) (back ∙ sym (hex_digit_high (b - 87) high)))
    (λ is. refused))

-- ---- numbers

pub number_digit : (n : ℕ) → n < 10 → number n ≡ (48 + n) ∷ []
unfolding number
number_digit n small = decimal_digit n small

pub number_more : (n digit : ℕ) → 1 ≤ n → digit < 10 → n * 10 + digit < 2 ^ 64
    → number (n * 10 + digit) ≡ number n ++ (48 + digit) ∷ []
unfolding number
number_more n digit some small fits =
    let front : (n * 10 + digit) / 10 ≡ n = omega arith in
    let last : (n * 10 + digit) % 10 ≡ digit = omega arith in
    decimal_step (n * 10 + digit) (omega arith) fits
    ∙ rw (front, last)

-- ---- pairs

pub pairs-push : (t : List ℕ) (high low : ℕ) → low < 16
    → pairs (t ++ (16 * high + low) ∷ []) ≡ (pairs t ++ hex_digit high ∷ []) ++ hex_digit low ∷ []
pairs-push [] high low small =
    let front : (16 * high + low) / 16 ≡ high = omega arith in
    let last : (16 * high + low) % 16 ≡ low = omega arith in
    rw (front, last)
pairs-push (b ∷ t) high low small = ap (λ (rest : List ℕ). hex_digit (b / 16) ∷ hex_digit (b % 16) ∷ rest) (pairs-push t high low small)
