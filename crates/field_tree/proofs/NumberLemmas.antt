-- How many digits a number has.
use Rattle.std.proofs.Common.{◌≡◌, ℕ, ◌+◌, ◌/◌, ◌%◌, ◌^◌, ◌<◌, ◌≤◌, [], ◌∷◌, length, ap, arith, ◌∙◌, length-append}
use Rattle.std.proofs.lemmas.Fmt.{decimal_step, decimal_digit, length-decimal-le}
use Rattle.std.specs.Fmt.{decimal}
use Rattle.field_tree.specs.Grammar.{number}

pub length_number_digit : (n : ℕ) → n < 10 → length (number n) ≡ 1
unfolding number
length_number_digit n small = ap length (decimal_digit n small)

pub length_number_more : (n : ℕ) → 10 ≤ n → n < 2 ^ 64 → length (number n) ≡ length (number (n / 10)) + 1
unfolding number
length_number_more n big fits = ap length (decimal_step n big fits) ∙ length-append (decimal (n / 10)) ((48 + n % 10) ∷ [])

pub length_number_most : (n : ℕ) → n < 2 ^ 64 → length (number n) ≤ 20
unfolding number
length_number_most n fits = length-decimal-le 20 n (omega arith) (omega arith) fits
