-- How a number is read digit by digit.
use Rattle.std.proofs.Common.{◌≡◌, ℕ, ◌+◌, ◌-◌, ◌*◌, ◌^◌, ◌<◌, ◌≤◌, Bool, true, false, cond, nat_lt, Option, Some, None, List, [], ◌∷◌, drop, length, get_or, add-one, drop-cons, refl, sym, arith, lit<}
use Rattle.std.specs.Char.{is_ascii_digit}
use Rattle.std.proofs.lemmas.List.{drop_all}
use Rattle.std.proofs.lemmas.Grind.{common_steps}
use Rattle.trace_base.specs.declared.numeral.Numeral.{Numeral}
use Rattle.trace_base.specs.declared.numeral.Numeral.TheVariants.{Fits, TooLarge}
use Rattle.trace_base.specs.Numerals.{value_from, sized, sized_value, longer}

-- what the digits go on to behind a number so far
unfoldable pub going : Numeral → List ℕ → Option Numeral
going numeral [] = Some numeral
going numeral (digit ∷ digits) = cond (is_ascii_digit digit) (going (longer numeral (digit - 48)) digits) None

too_large_one : (is : Bool) (value : ℕ) (digits : List ℕ) → 2 ^ 64 ≤ value
    → (2 ^ 64 ≤ value → going TooLarge digits ≡ sized_value (value_from value digits))
    → cond is (going TooLarge digits) None ≡ sized_value (cond is (value_from value digits) None)
unfolding sized_value
too_large_one true value digits large again = again large
too_large_one false value digits large again = refl

-- a number that is too large stays so
too_large_stays : (value : ℕ) (digits : List ℕ) → 2 ^ 64 ≤ value → going TooLarge digits ≡ sized_value (value_from value digits)
unfolding going value_from sized_value sized longer
too_large_stays value [] large =
    let past : nat_lt value (2 ^ 64) ≡ false = grind (arith, common_steps, large) in
    rw past refl
too_large_stays value (digit ∷ digits) large =
    too_large_one (is_ascii_digit digit) (value * 10 + (digit - 48)) digits (omega arith)
    (λ more. too_large_stays (value * 10 + (digit - 48)) digits more)

by_size : (small : Bool) (value : ℕ) (digits : List ℕ) → nat_lt value (2 ^ 64) ≡ small
    → (value < 2 ^ 64 → going (Fits value) digits ≡ sized_value (value_from value digits))
    → going (cond small (Fits value) TooLarge) digits ≡ sized_value (value_from value digits)
by_size true value digits is fits = fits (grind (arith, common_steps, is))
by_size false value digits is fits = too_large_stays value digits (grind (arith, common_steps, is))

by_digit : (is : Bool) (value : ℕ) (digits : List ℕ)
    → going (sized value) digits ≡ sized_value (value_from value digits)
    → cond is (going (sized value) digits) None ≡ sized_value (cond is (value_from value digits) None)
unfolding sized_value sized
by_digit true value digits is = is
by_digit false value digits is = refl

fits_goes : (value : ℕ) (digits : List ℕ) → value < 2 ^ 64 → going (Fits value) digits ≡ sized_value (value_from value digits)
unfolding going value_from sized_value sized longer
fits_goes value [] small =
    let fits : nat_lt value (2 ^ 64) ≡ true = grind (arith, common_steps, small) in
    rw fits refl
fits_goes value (digit ∷ digits) small =
    by_digit (is_ascii_digit digit) (value * 10 + (digit - 48)) digits
    (by_size _ (value * 10 + (digit - 48)) digits refl (λ fits. fits_goes (value * 10 + (digit - 48)) digits fits))

-- the start of the loop
pub goes_from_start : (digits : List ℕ) → going (Fits 0) digits ≡ sized_value (value_from 0 digits)
goes_from_start digits = fits_goes 0 digits (lit< tt)

digit_more : (numeral : Numeral) (digit : ℕ) (digits : List ℕ) → is_ascii_digit digit ≡ true
    → going numeral (digit ∷ digits) ≡ going (longer numeral (digit - 48)) digits
unfolding going
digit_more numeral digit digits holds = rw holds refl

-- a digit more
pub goes_on : (numeral : Numeral) (digits : List ℕ) (at : ℕ) → at < length digits → is_ascii_digit (get_or digits at 0) ≡ true
    → going (longer numeral (get_or digits at 0 - 48)) (drop (at + 1) digits) ≡ going numeral (drop at digits)
goes_on numeral digits at inside digit =
    rw (drop-cons digits at 0 inside) (rw (← add-one at) (sym (digit_more numeral (get_or digits at 0) (drop (at + 1) digits) digit)))

-- no digit
pub goes_no_further : (numeral : Numeral) (digits : List ℕ) (at : ℕ) → at < length digits → is_ascii_digit (get_or digits at 0) ≡ false
    → going numeral (drop at digits) ≡ None
unfolding going
goes_no_further numeral digits at inside digit = rw (drop-cons digits at 0 inside) (rw digit refl)

-- the end
pub goes_to_end : (numeral : Numeral) (digits : List ℕ) (at : ℕ) → length digits ≤ at → going numeral (drop at digits) ≡ Some numeral
unfolding going
goes_to_end numeral digits at past = rw (drop_all at digits past) refl
