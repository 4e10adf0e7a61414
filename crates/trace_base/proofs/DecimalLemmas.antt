-- A number is read as it is written.
use Rattle.std.proofs.Common.{◌≡◌, ℕ, ◌+◌, ◌-◌, ◌*◌, ◌/◌, ◌%◌, ◌^◌, ◌<◌, ◌≤◌, ◌==◌, nat_lt, Bool, true, false, cond, Some, None, List, [], ◌∷◌, ◌++◌, refl, ap, ◌∙◌, arith}
use Rattle.std.specs.Char.{is_ascii_digit}
use Rattle.std.specs.Fmt.{decimal}
use Rattle.std.specs.Prelude.{nat_le}
use Rattle.std.proofs.lemmas.Bool.{lt-ltb, ne_eqb, le-leb, and_from}
use Rattle.std.proofs.lemmas.Fmt.{decimal_by_steps}
use Rattle.trace_base.specs.declared.numeral.Numeral.TheVariants.{Fits}
use Rattle.trace_base.specs.Numerals.{value_from, number_of, sized, sized_value, numeral_of}

digit : (n : ℕ) → n < 10 → is_ascii_digit (48 + n) ≡ true
digit n small = and_from (nat_le 48 (48 + n)) (nat_le (48 + n) 57) (le-leb 48 (48 + n) (omega arith)) (le-leb (48 + n) 57 (omega arith))

-- ---- a digit more

value_one : (is : Bool) (before : ℕ) (ds : List ℕ) (w d : ℕ)
    → (value_from before ds ≡ Some w → value_from before (ds ++ (48 + d) ∷ []) ≡ Some (w * 10 + d))
    → cond is (value_from before ds) None ≡ Some w → cond is (value_from before (ds ++ (48 + d) ∷ [])) None ≡ Some (w * 10 + d)
value_one true before ds w d again given = again given
value_one false before ds w d again given = absurd (cc)

value_last : (v w d : ℕ) → v ≡ w → d < 10 → cond (is_ascii_digit (48 + d)) (Some (v * 10 + (48 + d - 48))) None ≡ Some (w * 10 + d)
value_last v w d same small =
    let is : is_ascii_digit (48 + d) ≡ true = digit d small in
    let value : v * 10 + (48 + d - 48) ≡ w * 10 + d = omega arith in
    rw is (ap (λ (n : ℕ). Some n) value)

value_push : (ds : List ℕ) (v w d : ℕ) → value_from v ds ≡ Some w → d < 10 → value_from v (ds ++ (48 + d) ∷ []) ≡ Some (w * 10 + d)
unfolding value_from
value_push [] v w d given small =
    let same : v ≡ w = cc in
    value_last v w d same small
value_push (x ∷ ds) v w d given small =
    value_one (is_ascii_digit x) (v * 10 + (x - 48)) ds w d (λ later. value_push ds (v * 10 + (x - 48)) w d later small) given

-- ---- no zero in front

abbrev StartsPlain : List ℕ → Type 0
StartsPlain [] = ⊥
StartsPlain (x ∷ xs) = (x == 48) ≡ false

plain_push : (ds more : List ℕ) → StartsPlain ds → StartsPlain (ds ++ more)
plain_push [] more plain = absurd plain
plain_push (x ∷ ds) more plain = plain

number_push : (ds : List ℕ) (last : ℕ) → StartsPlain ds → number_of (ds ++ last ∷ []) ≡ value_from 0 (ds ++ last ∷ [])
unfolding number_of
number_push [] last plain = absurd plain
number_push (x ∷ []) last plain = rw plain refl
number_push (x ∷ y ∷ ds) last plain = rw plain refl

-- the digits go on to the number, and are one
record IsRead (n : ℕ) (ds : List ℕ) : Type 0 where
  value : value_from 0 ds ≡ Some n
  plain : 1 ≤ n → StartsPlain ds
  whole : number_of ds ≡ Some n

one_read : (n : ℕ) → n < 10 → IsRead n ((48 + n) ∷ [])
unfolding value_from number_of
one_read n small =
    let is : is_ascii_digit (48 + n) ≡ true = digit n small in
    let value : 0 * 10 + (48 + n - 48) ≡ n = omega arith in
    let found : cond (is_ascii_digit (48 + n)) (Some (0 * 10 + (48 + n - 48))) None ≡ Some n = rw is (ap (λ (m : ℕ). Some m) value) in
    record {
      value = found;
      plain = λ some. ne_eqb (48 + n) 48 (λ same. absurd (omega arith));
      whole = found;
    }

more_read : (n : ℕ) (ds : List ℕ) → 10 ≤ n → IsRead (n / 10) ds → IsRead n (ds ++ (48 + n % 10) ∷ [])
more_read n ds big before =
    let some : 1 ≤ n / 10 = omega arith in
    let same : n / 10 * 10 + n % 10 ≡ n = omega arith in
    let value : value_from 0 (ds ++ (48 + n % 10) ∷ []) ≡ Some n =
    value_push ds 0 (n / 10) (n % 10) before.value (omega arith) ∙ ap (λ (m : ℕ). Some m) same in
    record {
      value = value;
      plain = λ _. plain_push ds ((48 + n % 10) ∷ []) (before.plain some);
      whole = number_push ds (48 + n % 10) (before.plain some) ∙ value;
    }

number_read : (n : ℕ) → n < 2 ^ 64 → number_of (decimal n) ≡ Some n
number_read n small = (decimal_by_steps IsRead one_read more_read n small).whole

pub numeral_read : (n : ℕ) → n < 2 ^ 64 → numeral_of (decimal n) ≡ Some (Fits n)
unfolding numeral_of sized_value sized
numeral_read n small =
    let fits : nat_lt n (2 ^ 64) ≡ true = lt-ltb n (2 ^ 64) small in
    rw (number_read n small, fits) refl
