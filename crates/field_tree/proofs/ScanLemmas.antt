-- What several bytes at once come to, from the steps at each.
use Rattle.std.proofs.Common.{◌≡◌, ℕ, ◌+◌, ◌-◌, ◌*◌, ◌<◌, ◌≤◌, Bool, true, ◌&&◌, ◌==◌, nat_le, Option, Some, None, List, [], ◌∷◌, ◌++◌, refl, sym, ap, subst, arith, ◌∙◌, append_assoc, append-nil, length, take, drop, take-append-drop}
use Rattle.std.proofs.lemmas.Bool.{cond_both, cond-false, and_parts, leb-true, ne_eqb}
use Rattle.std.specs.List.{AllByRecursion}
use Rattle.trace_base.specs.declared.limits.TheConstants.{MAX_FIELD, MAX_PACKET_LEN, MAX_NUMBER}
use Rattle.field_tree.specs.declared.mode.Mode.TheVariants.{Start, Field, Value, Digits, Text, Quoted, Star, Times, Tick, Pairs, Half, Packed}
use Rattle.field_tree.specs.declared.mode.Action.{Action}
use Rattle.field_tree.specs.declared.mode.Action.TheVariants.{Go, Keep}
use Rattle.field_tree.specs.Nodes.{Shown}
use Rattle.field_tree.specs.Grammar.{IsTextByte, is_digit}
use Rattle.field_tree.specs.Machine.{TextReading, is_first_digit, grown, hex_value, go_on, act, settled, applied, next, run}
use Rattle.field_tree.specs.Scanning.{reading_with, RunsOver, IsPair, ArePairs, ReadsPairs, TakesDigits}
use Rattle.field_tree.proofs.TestLemmas.{digit_range, first_digit_range}
use Rattle.field_tree.proofs.Runs.{run_joins, run_next, no_pending, start_digit, field_digit, value_digit, digits_digit, star_digit, times_digit, text_step}

-- ---- one behind another

-- over no bytes
pub stays_here : (r : TextReading) (bytes : List ℕ) → RunsOver r bytes r bytes
unfolding run
stays_here r bytes = ([], refl, refl)

-- over the byte in front, and then over more
pub over_front : (b : ℕ) (from via to : TextReading) (bytes rest behind : List ℕ) → bytes ≡ b ∷ rest → next from b ≡ Some via
    → RunsOver via rest to behind → RunsOver from bytes to behind
over_front b from via to bytes rest behind cut first more =
    (b ∷ more.0, cut ∙ ap (λ (w : List ℕ). b ∷ w) more.1, run_next b more.0 from via (Some to) first more.2)

-- over some bytes, and then over more
pub over_both : (from via to : TextReading) (bytes rest behind : List ℕ) → RunsOver from bytes via rest → RunsOver via rest to behind
    → RunsOver from bytes to behind
over_both from via to bytes rest behind first more = (
  first.0 ++ more.0,
  first.1 ∙ ap (λ (w : List ℕ). first.0 ++ w) more.1 ∙ sym (append_assoc first.0 more.0 behind),
  run_joins first.0 more.0 from via (Some to) first.2 more.2,
)

-- ---- digits

-- a digit more, by what it makes of the number
pub one_digit : (most value b more : ℕ) (to : ℕ → TextReading) → TakesDigits most to → grown most value b ≡ Some more → next (to value) b ≡ Some (to more)
unfolding grown
one_digit most value b more to takes is =
    cond_both (is_digit b && nat_le (value * 10 + (b - 48)) most) (Some (value * 10 + (b - 48))) None
    (λ (o : Option ℕ). o ≡ Some more → next (to value) b ≡ Some (to more))
    (λ fits same.
    let both = and_parts (is_digit b) (nat_le (value * 10 + (b - 48)) most) fits in
    let range = digit_range b both.0 in
    let byte : 48 + (b - 48) ≡ b = omega arith in
    let number : value * 10 + (b - 48) ≡ more = cc in
    subst (λ (x : ℕ). next (to value) x ≡ Some (to more)) byte
    (takes value (b - 48) (omega arith) (leb-true (value * 10 + (b - 48)) most both.1) ∙ ap (λ (n : ℕ). Some (to n)) number))
    (λ _ same. absurd (cc)) is

pub field_takes : (ns : List Shown) (d : ℕ) → TakesDigits MAX_FIELD (λ n. reading_with ns d [] (Field n))
field_takes ns d n digit small fits = field_digit ns d n digit small fits

pub value_takes : (ns : List Shown) (d f : ℕ) → TakesDigits MAX_NUMBER (λ n. reading_with ns d [] (Digits f n))
value_takes ns d f n digit small fits = digits_digit ns d f n digit small fits

pub times_takes : (ns : List Shown) (d f : ℕ) (t : List ℕ) → TakesDigits MAX_PACKET_LEN (λ n. reading_with ns d t (Times f n))
times_takes ns d f t n digit small fits = times_digit ns d f n digit t small fits

-- ---- a first digit

by_digit : (P : ℕ → ℕ → Type 0) (b : ℕ) → is_first_digit b ≡ true → ((n : ℕ) → 1 ≤ n → n < 10 → P (48 + n) n) → P b (b - 48)
by_digit P b is all =
    let range = first_digit_range b is in
    let byte : 48 + (b - 48) ≡ b = omega arith in
    subst (λ (x : ℕ). P x (b - 48)) byte (all (b - 48) (omega arith) (omega arith))

pub first_of_field : (ns : List Shown) (d : ℕ) (opened : Bool) (b : ℕ) → is_first_digit b ≡ true
    → next (reading_with ns d [] (Start opened)) b ≡ Some (reading_with ns d [] (Field (b - 48)))
first_of_field ns d opened b is =
    by_digit (λ x n. next (reading_with ns d [] (Start opened)) x ≡ Some (reading_with ns d [] (Field n))) b is (start_digit ns d opened)

pub first_of_value : (ns : List Shown) (d f b : ℕ) → is_first_digit b ≡ true → next (reading_with ns d [] (Value f)) b ≡ Some (reading_with ns d [] (Digits f (b - 48)))
first_of_value ns d f b is = by_digit (λ x n. next (reading_with ns d [] (Value f)) x ≡ Some (reading_with ns d [] (Digits f n))) b is (value_digit ns d f)

pub first_of_times : (ns : List Shown) (d f b : ℕ) (t : List ℕ) → is_first_digit b ≡ true → next (reading_with ns d t (Star f)) b ≡ Some (reading_with ns d t (Times f (b - 48)))
first_of_times ns d f b t is =
    by_digit (λ x n. next (reading_with ns d t (Star f)) x ≡ Some (reading_with ns d t (Times f n))) b is (λ n some small. star_digit ns d f n t some small)

-- ---- the bytes between

pub at_colon : (ns : List Shown) (d n : ℕ) → next (reading_with ns d [] (Field n)) 58 ≡ Some (reading_with ns d [] (Value n))
unfolding next act applied
at_colon ns d n = refl

pub at_quote : (ns : List Shown) (d n : ℕ) → next (reading_with ns d [] (Value n)) 34 ≡ Some (reading_with ns d [] (Text n))
unfolding next act applied
at_quote ns d n = refl

pub at_x : (ns : List Shown) (d n : ℕ) → next (reading_with ns d [] (Value n)) 120 ≡ Some (reading_with ns d [] (Tick n))
unfolding next act applied
at_x ns d n = refl

pub at_tick : (ns : List Shown) (d n : ℕ) → next (reading_with ns d [] (Tick n)) 39 ≡ Some (reading_with ns d [] (Pairs n))
unfolding next act applied
at_tick ns d n = refl

pub at_second_tick : (ns : List Shown) (d n : ℕ) (t : List ℕ) → next (reading_with ns d t (Pairs n)) 39 ≡ Some (reading_with ns d t (Packed n))
unfolding next act applied
at_second_tick ns d n t = refl

pub at_second_quote : (ns : List Shown) (d n : ℕ) (t : List ℕ) → next (reading_with ns d t (Text n)) 34 ≡ Some (reading_with ns d t (Quoted n))
unfolding next act applied
at_second_quote ns d n t = refl

pub at_star : (ns : List Shown) (d n : ℕ) (t : List ℕ) → next (reading_with ns d t (Quoted n)) 42 ≡ Some (reading_with ns d t (Star n))
unfolding next act applied
at_star ns d n t = refl

-- ---- a text

pub over_text : (ns : List Shown) (d f : ℕ) (t text behind : List ℕ) → AllByRecursion IsTextByte text
    → RunsOver (reading_with ns d t (Text f)) (text ++ behind) (reading_with ns d (t ++ text) (Text f)) behind
over_text ns d f t [] behind all = rw (append-nil t) (stays_here (reading_with ns d t (Text f)) behind)
over_text ns d f t (b ∷ text) behind all =
    let more = over_text ns d f (t ++ b ∷ []) text behind all.1 in
    over_front b (reading_with ns d t (Text f)) (reading_with ns d (t ++ b ∷ []) (Text f)) _ _ (text ++ behind) behind refl (text_step ns d f b t all.0)
    (subst (λ (w : List ℕ). RunsOver (reading_with ns d (t ++ b ∷ []) (Text f)) (text ++ behind) (reading_with ns d w (Text f)) behind) (append_assoc t (b ∷ []) text) more)

-- a text that was cut off from the bytes behind it
pub text_over : (bytes text back : List ℕ) (n : ℕ) (ns : List Shown) (d f : ℕ) → text ≡ take n bytes → back ≡ drop n bytes
    → AllByRecursion IsTextByte (take n bytes) → RunsOver (reading_with ns d [] (Text f)) bytes (reading_with ns d text (Text f)) back
text_over bytes text back n ns d f front behind all =
    let cut : text ++ back ≡ bytes = ap (λ (w : List ℕ). w ++ back) front ∙ ap (λ (w : List ℕ). take n bytes ++ w) behind ∙ take-append-drop n bytes in
    subst (λ (w : List ℕ). RunsOver (reading_with ns d [] (Text f)) w (reading_with ns d text (Text f)) back) cut
    (over_text ns d f [] text back (subst (AllByRecursion IsTextByte) (sym front) all))

-- ---- pairs of digits

no_tick : (b h : ℕ) → hex_value b ≡ Some h → b ≡ 39 → ⊥
unfolding hex_value
no_tick b h is same =
    let none : None ≡ Some h = subst (λ (x : ℕ). hex_value x ≡ Some h) same is in
    absurd (cc)

at_high : (ns : List Shown) (d f b h : ℕ) (t : List ℕ) → hex_value b ≡ Some h → next (reading_with ns d t (Pairs f)) b ≡ Some (reading_with ns d t (Half f h))
unfolding act applied settled
at_high ns d f b h t is =
    no_pending (reading_with ns d t (Pairs f)) b refl
    ∙ ap (λ (a : Action). applied a (reading_with ns d t (Pairs f)))
    (cond-false (b == 39) (Go (Packed f)) (go_on (hex_value b) (λ high. Go (Half f high))) (ne_eqb b 39 (no_tick b h is))
    ∙ ap (λ (o : Option ℕ). go_on o (λ high. Go (Half f high))) is)

at_low : (ns : List Shown) (d f h b l : ℕ) (t : List ℕ) → hex_value b ≡ Some l
    → next (reading_with ns d t (Half f h)) b ≡ Some (reading_with ns d (t ++ (16 * h + l) ∷ []) (Pairs f))
unfolding act applied settled
at_low ns d f h b l t is =
    no_pending (reading_with ns d t (Half f h)) b refl
    ∙ ap (λ (o : Option ℕ). applied (go_on o (λ low. Keep (Pairs f) (16 * h + low))) (reading_with ns d t (Half f h))) is

pub over_pair : (ns : List Shown) (d f byte : ℕ) (t bytes behind : List ℕ) → IsPair bytes byte behind
    → RunsOver (reading_with ns d t (Pairs f)) bytes (reading_with ns d (t ++ byte ∷ []) (Pairs f)) behind
over_pair ns d f byte t bytes behind pair =
    let to = reading_with ns d (t ++ (16 * pair.high_value + pair.low_value) ∷ []) (Pairs f) in
    subst (λ (b : ℕ). RunsOver (reading_with ns d t (Pairs f)) bytes (reading_with ns d (t ++ b ∷ []) (Pairs f)) behind) (sym pair.byte_is)
    (over_front pair.high (reading_with ns d t (Pairs f)) (reading_with ns d t (Half f pair.high_value)) to bytes (pair.low ∷ behind) behind pair.cut
    (at_high ns d f pair.high pair.high_value t pair.high_is)
    (over_front pair.low (reading_with ns d t (Half f pair.high_value)) to to (pair.low ∷ behind) behind behind refl
    (at_low ns d f pair.high_value pair.low pair.low_value t pair.low_is) (stays_here to behind)))

pub over_pairs : (ns : List Shown) (d f : ℕ) (t bytes said behind : List ℕ) → ArePairs bytes said behind
    → RunsOver (reading_with ns d t (Pairs f)) bytes (reading_with ns d (t ++ said) (Pairs f)) behind
over_pairs ns d f t bytes [] behind same = rw (same, append-nil t) (stays_here (reading_with ns d t (Pairs f)) behind)
over_pairs ns d f t bytes (b ∷ said) behind pairs =
    let more = over_pairs ns d f (t ++ b ∷ []) pairs.0 said behind pairs.2 in
    over_both (reading_with ns d t (Pairs f)) (reading_with ns d (t ++ b ∷ []) (Pairs f)) (reading_with ns d (t ++ b ∷ said) (Pairs f)) bytes pairs.0 behind
    (over_pair ns d f b t bytes pairs.0 pairs.1)
    (subst (λ (w : List ℕ). RunsOver (reading_with ns d (t ++ b ∷ []) (Pairs f)) pairs.0 (reading_with ns d w (Pairs f)) behind) (append_assoc t (b ∷ []) said) more)

-- from one text to another, and then to a third
pub reads_on_pairs : (t via u bytes rest behind : List ℕ) → ReadsPairs t bytes via rest → ReadsPairs via rest u behind → ReadsPairs t bytes u behind
reads_on_pairs t via u bytes rest behind first more =
    λ ns d f. over_both (reading_with ns d t (Pairs f)) (reading_with ns d via (Pairs f)) (reading_with ns d u (Pairs f)) bytes rest behind (first ns d f) (more ns d f)

pub pairs_length : (bytes said behind : List ℕ) → ArePairs bytes said behind → length bytes ≡ length said + length said + length behind
pairs_length bytes [] behind same =
    let long = ap length same in
    omega (arith, long)
pairs_length bytes (b ∷ said) behind pairs =
    let cut = ap length pairs.1.cut in
    let more = pairs_length pairs.0 said behind pairs.2 in
    omega (arith, cut, more)

-- a byte behind another, four times
pub four_pushed : (t : List ℕ) (a b c d : ℕ) {first second third fourth : List ℕ} → first ≡ t ++ a ∷ [] → second ≡ first ++ b ∷ [] → third ≡ second ++ c ∷ []
    → fourth ≡ third ++ d ∷ [] → fourth ≡ t ++ a ∷ b ∷ c ∷ d ∷ []
four_pushed t a b c d is_first is_second is_third is_fourth =
    rw (is_fourth, is_third, is_second, is_first)
    (append_assoc ((t ++ a ∷ []) ++ b ∷ []) (c ∷ []) (d ∷ []) ∙ append_assoc (t ++ a ∷ []) (b ∷ []) (c ∷ d ∷ []) ∙ append_assoc t (a ∷ []) (b ∷ c ∷ d ∷ []))
