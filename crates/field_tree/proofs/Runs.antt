-- The steps at the bytes that a spelling has.
use Rattle.std.proofs.Common.{◌≡◌, ◌≢◌, ℕ, ◌+◌, ◌-◌, ◌*◌, ◌/◌, ◌%◌, ◌^◌, ◌<◌, ◌≤◌, inl, inr, Bool, true, false, cond, ◌&&◌, ◌||◌, ◌==◌, not, nat_lt, nat_le, Option, Some, None, List, [], ◌∷◌, ◌++◌, refl, sym, ap, subst, arith, ◌∙◌}
use Rattle.std.proofs.lemmas.Bool.{cond_both, cond-true, cond-false, and_from, and_right, ne_eqb, le-leb, lt-leb, not_from_false, or_from, cases_lt}
use Rattle.std.proofs.lemmas.Fmt.{decimal_by_steps}
use Rattle.trace_base.specs.declared.limits.TheConstants.{MAX_FIELD, MAX_PACKET_LEN, MAX_NUMBER}
use Rattle.field_tree.specs.declared.mode.Mode.TheVariants.{Start, Field, Value, Zero, Digits, Text, Quoted, Star, Times, Tick, Pairs, Half, Packed}
use Rattle.field_tree.specs.declared.mode.Action.{Action}
use Rattle.field_tree.specs.declared.mode.Action.TheVariants.{Refuse, Go, Keep, Open, Close}
use Rattle.field_tree.specs.Nodes.{Shown}
use Rattle.field_tree.specs.Grammar.{IsTextByte, number, hex_digit, is_digit}
use Rattle.field_tree.specs.Machine.{TextReading, is_first_digit, is_text_byte, grown, hex_value, go_on, act, settled, moved, applied, next, then_run, run}
use Rattle.field_tree.specs.Scanning.{reading_with}
use Rattle.field_tree.proofs.TestLemmas.{hex_digit_low, hex_digit_high}

-- ---- texts one behind another

run_one : (o : Option TextReading) (a b : List ℕ) → ((q : TextReading) → run q (a ++ b) ≡ then_run (λ p. run p b) (run q a))
    → then_run (λ q. run q (a ++ b)) o ≡ then_run (λ p. run p b) (then_run (λ q. run q a) o)
run_one None a b again = refl
run_one (Some q) a b again = again q

pub run-append : (a b : List ℕ) (r : TextReading) → run r (a ++ b) ≡ then_run (λ q. run q b) (run r a)
unfolding run
run-append [] b r = refl
run-append (x ∷ a) b r = run_one (next r x) a b (λ q. run-append a b q)

pub run_joins : (a b : List ℕ) (r q : TextReading) (o : Option TextReading) → run r a ≡ Some q → run q b ≡ o → run r (a ++ b) ≡ o
run_joins a b r q o first second = run-append a b r ∙ ap (then_run (λ p. run p b)) first ∙ second

pub run_next : (b : ℕ) (bs : List ℕ) (r q : TextReading) (o : Option TextReading) → next r b ≡ Some q → run q bs ≡ o → run r (b ∷ bs) ≡ o
unfolding run
run_next b bs r q o first second = ap (then_run (λ p. run p bs)) first ∙ second

pub run_last : (b : ℕ) (r : TextReading) (o : Option TextReading) → next r b ≡ o → run r (b ∷ []) ≡ o
unfolding run
run_last b r None first = ap (then_run (λ p. run p [])) first
run_last b r (Some q) first = ap (then_run (λ p. run p [])) first

-- ---- a byte that ends no field

pub no_end : (r : TextReading) (b : ℕ) → b ≢ 32 → b ≢ 125 → next r b ≡ moved b r
unfolding next
no_end r b no_space no_brace =
    ap (moved b) (cond-false (b == 32 || b == 125) (settled r) r (or_from (b == 32) (b == 125) (ne_eqb b 32 no_space) (ne_eqb b 125 no_brace)))

pub no_pending : (r : TextReading) (b : ℕ) → settled r ≡ r → next r b ≡ moved b r
unfolding next
no_pending r b same = ap (moved b) (cond_both (b == 32 || b == 125) (settled r) r (λ (q : TextReading). q ≡ r) (λ _. same) (λ _. refl))

-- ---- digits

pub first_digit : (n : ℕ) → 1 ≤ n → n < 10 → is_first_digit (48 + n) ≡ true
first_digit n some small = and_from (nat_le 49 (48 + n)) (nat_le (48 + n) 57) (le-leb 49 (48 + n) (omega arith)) (le-leb (48 + n) 57 (omega arith))

pub digit : (n : ℕ) → n < 10 → is_digit (48 + n) ≡ true
digit n small = and_from (nat_le 48 (48 + n)) (nat_le (48 + n) 57) (le-leb 48 (48 + n) (omega arith)) (le-leb (48 + n) 57 (omega arith))

pub grown_by : (most value n : ℕ) → n < 10 → value * 10 + n ≤ most → grown most value (48 + n) ≡ Some (value * 10 + n)
unfolding grown
grown_by most value n small fits =
    let same : 48 + n - 48 ≡ n = omega arith in
    let P : ℕ → Type 0 = λ m. cond (is_digit (48 + n) && nat_le (value * 10 + m) most) (Some (value * 10 + m)) None ≡ Some (value * 10 + n) in
    subst P (sym same) (cond-true (is_digit (48 + n) && nat_le (value * 10 + n) most) (Some (value * 10 + n)) None
    (and_from (is_digit (48 + n)) (nat_le (value * 10 + n) most) (digit n small) (le-leb (value * 10 + n) most fits)))

-- a number of any length, where its first digit and each further one are taken
pub number_runs : (most : ℕ) (from : TextReading) (to : ℕ → TextReading) → most < 2 ^ 64
    → ((n : ℕ) → 1 ≤ n → n < 10 → next from (48 + n) ≡ Some (to n))
    → ((n d : ℕ) → 1 ≤ n → d < 10 → n * 10 + d ≤ most → next (to n) (48 + d) ≡ Some (to (n * 10 + d)))
    → (n : ℕ) → 1 ≤ n → n ≤ most → run from (number n) ≡ Some (to n)
unfolding number
number_runs most from to small first later n some fits =
    decimal_by_steps (λ m ds. 1 ≤ m → m ≤ most → run from ds ≡ Some (to m))
    (λ m one some fits. run_last (48 + m) from (Some (to m)) (first m some one))
    (λ m ds big before some fits.
    let same : m / 10 * 10 + m % 10 ≡ m = omega arith in
    let last : next (to (m / 10)) (48 + m % 10) ≡ Some (to (m / 10 * 10 + m % 10)) = later (m / 10) (m % 10) (omega arith) (omega arith) (omega arith) in
    run_joins ds ((48 + m % 10) ∷ []) from (to (m / 10)) (Some (to m)) (before (omega arith) (omega arith))
    (run_last (48 + m % 10) (to (m / 10)) (Some (to m)) (last ∙ ap (λ (k : ℕ). Some (to k)) same)))
    n (omega arith) some fits

pub start_digit : (ns : List Shown) (d : ℕ) (opened : Bool) (n : ℕ) → 1 ≤ n → n < 10
    → next (reading_with ns d [] (Start opened)) (48 + n) ≡ Some (reading_with ns d [] (Field n))
unfolding act applied settled
start_digit ns d opened n some small =
    let same : 48 + n - 48 ≡ n = omega arith in
    no_pending (reading_with ns d [] (Start opened)) (48 + n) refl
    ∙ ap (λ (a : Action). applied a (reading_with ns d [] (Start opened)))
    (cond-true (is_first_digit (48 + n)) (Go (Field (48 + n - 48))) (cond (opened && nat_lt 0 d && 48 + n == 125) Close Refuse) (first_digit n some small))
    ∙ ap (λ (m : ℕ). Some (reading_with ns d [] (Field m))) same

pub field_digit : (ns : List Shown) (d n digit : ℕ) → digit < 10 → n * 10 + digit ≤ MAX_FIELD
    → next (reading_with ns d [] (Field n)) (48 + digit) ≡ Some (reading_with ns d [] (Field (n * 10 + digit)))
unfolding act applied settled
field_digit ns d n digit small fits =
    no_pending (reading_with ns d [] (Field n)) (48 + digit) refl
    ∙ ap (λ (a : Action). applied a (reading_with ns d [] (Field n)))
    (cond-false (48 + digit == 58) (Go (Value n)) (cond (48 + digit == 123) (Open n) (go_on (grown MAX_FIELD n (48 + digit)) (λ m. Go (Field m)))) (ne_eqb (48 + digit) 58 (λ is. omega arith))
    ∙ cond-false (48 + digit == 123) (Open n) (go_on (grown MAX_FIELD n (48 + digit)) (λ m. Go (Field m))) (ne_eqb (48 + digit) 123 (λ is. omega arith))
    ∙ ap (λ (o : Option ℕ). go_on o (λ m. Go (Field m))) (grown_by MAX_FIELD n digit small fits))

pub field_runs : (ns : List Shown) (d : ℕ) (opened : Bool) (n : ℕ) → 1 ≤ n → n ≤ MAX_FIELD
    → run (reading_with ns d [] (Start opened)) (number n) ≡ Some (reading_with ns d [] (Field n))
field_runs ns d opened n some fits =
    number_runs MAX_FIELD (reading_with ns d [] (Start opened)) (λ m. reading_with ns d [] (Field m)) (omega arith)
    (λ m one small. start_digit ns d opened m one small)
    (λ m digit one small more. field_digit ns d m digit small more) n some fits

pub value_digit : (ns : List Shown) (d f n : ℕ) → 1 ≤ n → n < 10
    → next (reading_with ns d [] (Value f)) (48 + n) ≡ Some (reading_with ns d [] (Digits f n))
unfolding act applied settled
value_digit ns d f n some small =
    let same : 48 + n - 48 ≡ n = omega arith in
    let digits = cond (is_first_digit (48 + n)) (Go (Digits f (48 + n - 48))) Refuse in
    let zero_or = cond (48 + n == 48) (Go (Zero f)) digits in
    let tick_or = cond (48 + n == 120) (Go (Tick f)) zero_or in
    no_pending (reading_with ns d [] (Value f)) (48 + n) refl
    ∙ ap (λ (a : Action). applied a (reading_with ns d [] (Value f)))
    (cond-false (48 + n == 34) (Go (Text f)) tick_or (ne_eqb (48 + n) 34 (λ is. omega arith))
    ∙ cond-false (48 + n == 120) (Go (Tick f)) zero_or (ne_eqb (48 + n) 120 (λ is. omega arith))
    ∙ cond-false (48 + n == 48) (Go (Zero f)) digits (ne_eqb (48 + n) 48 (λ is. omega arith))
    ∙ cond-true (is_first_digit (48 + n)) (Go (Digits f (48 + n - 48))) Refuse (first_digit n some small))
    ∙ ap (λ (m : ℕ). Some (reading_with ns d [] (Digits f m))) same

pub digits_digit : (ns : List Shown) (d f n digit : ℕ) → digit < 10 → n * 10 + digit ≤ MAX_NUMBER
    → next (reading_with ns d [] (Digits f n)) (48 + digit) ≡ Some (reading_with ns d [] (Digits f (n * 10 + digit)))
unfolding act applied
digits_digit ns d f n digit small fits =
    no_end (reading_with ns d [] (Digits f n)) (48 + digit) (λ is. omega arith) (λ is. omega arith)
    ∙ ap (λ (o : Option ℕ). applied (go_on o (λ m. Go (Digits f m))) (reading_with ns d [] (Digits f n))) (grown_by MAX_NUMBER n digit small fits)

pub value_runs : (ns : List Shown) (d f n : ℕ) → 1 ≤ n → n < 2 ^ 64
    → run (reading_with ns d [] (Value f)) (number n) ≡ Some (reading_with ns d [] (Digits f n))
value_runs ns d f n some fits =
    number_runs MAX_NUMBER (reading_with ns d [] (Value f)) (λ m. reading_with ns d [] (Digits f m)) (omega arith)
    (λ m one small. value_digit ns d f m one small)
    (λ m digit one small more. digits_digit ns d f m digit small more) n some (omega arith)

pub star_digit : (ns : List Shown) (d f n : ℕ) (t : List ℕ) → 1 ≤ n → n < 10
    → next (reading_with ns d t (Star f)) (48 + n) ≡ Some (reading_with ns d t (Times f n))
unfolding act applied settled
star_digit ns d f n t some small =
    let same : 48 + n - 48 ≡ n = omega arith in
    no_pending (reading_with ns d t (Star f)) (48 + n) refl
    ∙ ap (λ (a : Action). applied a (reading_with ns d t (Star f))) (cond-true (is_first_digit (48 + n)) (Go (Times f (48 + n - 48))) Refuse (first_digit n some small))
    ∙ ap (λ (m : ℕ). Some (reading_with ns d t (Times f m))) same

pub times_digit : (ns : List Shown) (d f n digit : ℕ) (t : List ℕ) → digit < 10 → n * 10 + digit ≤ MAX_PACKET_LEN
    → next (reading_with ns d t (Times f n)) (48 + digit) ≡ Some (reading_with ns d t (Times f (n * 10 + digit)))
unfolding act applied
times_digit ns d f n digit t small fits =
    no_end (reading_with ns d t (Times f n)) (48 + digit) (λ is. omega arith) (λ is. omega arith)
    ∙ ap (λ (o : Option ℕ). applied (go_on o (λ m. Go (Times f m))) (reading_with ns d t (Times f n))) (grown_by MAX_PACKET_LEN n digit small fits)

pub times_runs : (ns : List Shown) (d f n : ℕ) (t : List ℕ) → 1 ≤ n → n ≤ MAX_PACKET_LEN
    → run (reading_with ns d t (Star f)) (number n) ≡ Some (reading_with ns d t (Times f n))
times_runs ns d f n t some fits =
    number_runs MAX_PACKET_LEN (reading_with ns d t (Star f)) (λ m. reading_with ns d t (Times f m)) (omega arith)
    (λ m one small. star_digit ns d f m t one small)
    (λ m digit one small more. times_digit ns d f m digit t small more) n some fits

-- ---- texts

text_taken : (b : ℕ) → IsTextByte b → is_text_byte b ≡ true
text_taken b text =
    and_from (nat_le 32 b && nat_le b 126 && not (b == 34)) (not (b == 92))
    (and_from (nat_le 32 b && nat_le b 126) (not (b == 34))
    (and_from (nat_le 32 b) (nat_le b 126) (le-leb 32 b text.0) (le-leb b 126 text.1))
    (not_from_false (b == 34) (ne_eqb b 34 text.2)))
    (not_from_false (b == 92) (ne_eqb b 92 text.3))

pub text_step : (ns : List Shown) (d f b : ℕ) (t : List ℕ) → IsTextByte b
    → next (reading_with ns d t (Text f)) b ≡ Some (reading_with ns d (t ++ b ∷ []) (Text f))
unfolding act applied settled
text_step ns d f b t text =
    no_pending (reading_with ns d t (Text f)) b refl
    ∙ ap (λ (a : Action). applied a (reading_with ns d t (Text f)))
    (cond-false (b == 34) (Go (Quoted f)) (cond (is_text_byte b) (Keep (Text f) b) Refuse) (ne_eqb b 34 text.2)
    ∙ cond-true (is_text_byte b) (Keep (Text f) b) Refuse (text_taken b text))

-- ---- pairs

no_digit_above : (b : ℕ) → 58 ≤ b → is_digit b ≡ false
no_digit_above b above = and_right (nat_le 48 b) (nat_le b 57) (lt-leb b 57 (omega arith))

pub hex_back : (h : ℕ) → h < 16 → hex_value (hex_digit h) ≡ Some h
unfolding hex_value
hex_back h small = elim (cases_lt h 10) [
  | inl low ↦
      let same : 48 + h - 48 ≡ h = omega arith in
      let P : ℕ → Type 0 = λ b. cond (is_digit b) (Some (b - 48)) (cond (nat_le 97 b && nat_le b 102) (Some (b - 87)) None) ≡ Some h in
      subst P (sym (hex_digit_low h low))
      (cond-true (is_digit (48 + h)) (Some (48 + h - 48)) (cond (nat_le 97 (48 + h) && nat_le (48 + h) 102) (Some (48 + h - 87)) None) (digit h low)
      ∙ ap Some same)
  | inr high ↦
      let same : 87 + h - 87 ≡ h = omega arith in
      let P : ℕ → Type 0 = λ b. cond (is_digit b) (Some (b - 48)) (cond (nat_le 97 b && nat_le b 102) (Some (b - 87)) None) ≡ Some h in
      let no_digit : is_digit (87 + h) ≡ false = no_digit_above (87 + h) (omega arith) in
      subst P (sym (hex_digit_high h high))
      (cond-false (is_digit (87 + h)) (Some (87 + h - 48)) (cond (nat_le 97 (87 + h) && nat_le (87 + h) 102) (Some (87 + h - 87)) None) no_digit
      ∙ cond-true (nat_le 97 (87 + h) && nat_le (87 + h) 102) (Some (87 + h - 87)) None
      (and_from (nat_le 97 (87 + h)) (nat_le (87 + h) 102) (le-leb 97 (87 + h) (omega arith)) (le-leb (87 + h) 102 (omega arith)))
      ∙ ap Some same)
]

pub hex_above : (h : ℕ) → 48 ≤ hex_digit h
hex_above h = cond_both (nat_lt h 10) (48 + h) (87 + h) (λ (b : ℕ). 48 ≤ b) (λ _. omega arith) (λ _. omega arith)

pub pair_first : (ns : List Shown) (d f h : ℕ) (t : List ℕ) → h < 16
    → next (reading_with ns d t (Pairs f)) (hex_digit h) ≡ Some (reading_with ns d t (Half f h))
unfolding act applied settled
pair_first ns d f h t small =
    let above = hex_above h in
    no_pending (reading_with ns d t (Pairs f)) (hex_digit h) refl
    ∙ ap (λ (a : Action). applied a (reading_with ns d t (Pairs f)))
    (cond-false (hex_digit h == 39) (Go (Packed f)) (go_on (hex_value (hex_digit h)) (λ high. Go (Half f high))) (ne_eqb (hex_digit h) 39 (λ is. omega arith))
    ∙ ap (λ (o : Option ℕ). go_on o (λ high. Go (Half f high))) (hex_back h small))

pub pair_last : (ns : List Shown) (d f h l : ℕ) (t : List ℕ) → l < 16
    → next (reading_with ns d t (Half f h)) (hex_digit l) ≡ Some (reading_with ns d (t ++ (16 * h + l) ∷ []) (Pairs f))
unfolding act applied settled
pair_last ns d f h l t small =
    no_pending (reading_with ns d t (Half f h)) (hex_digit l) refl
    ∙ ap (λ (o : Option ℕ). applied (go_on o (λ low. Keep (Pairs f) (16 * h + low))) (reading_with ns d t (Half f h))) (hex_back l small)

pub pair_runs : (ns : List Shown) (d f b : ℕ) (t rest : List ℕ) (o : Option TextReading) → b < 256
    → run (reading_with ns d (t ++ b ∷ []) (Pairs f)) rest ≡ o
    → run (reading_with ns d t (Pairs f)) (hex_digit (b / 16) ∷ hex_digit (b % 16) ∷ rest) ≡ o
pair_runs ns d f b t rest o small later =
    let high : b / 16 < 16 = omega arith in
    let low : b % 16 < 16 = omega arith in
    let same : 16 * (b / 16) + b % 16 ≡ b = omega arith in
    run_next (hex_digit (b / 16)) (hex_digit (b % 16) ∷ rest) (reading_with ns d t (Pairs f)) (reading_with ns d t (Half f (b / 16))) o (pair_first ns d f (b / 16) t high)
    (run_next (hex_digit (b % 16)) rest (reading_with ns d t (Half f (b / 16))) (reading_with ns d (t ++ b ∷ []) (Pairs f)) o
    (pair_last ns d f (b / 16) (b % 16) t low ∙ ap (λ (x : ℕ). Some (reading_with ns d (t ++ x ∷ []) (Pairs f))) same) later)
