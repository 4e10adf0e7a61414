-- What follows where a reading stands, and that each step back adds its byte in front of it.
use Rattle.std.proofs.Common.{◌≡◌, ℕ, suc, ◌+◌, ◌-◌, ◌*◌, ◌^◌, ◌<◌, Bool, true, false, cond, ◌&&◌, ◌==◌, List, [], ◌∷◌, ◌++◌, refl, sym, ap, subst, arith, ◌∙◌, append_assoc}
use Rattle.std.proofs.lemmas.Bool.{cond_both, and_parts, eqb-true}
use Rattle.std.specs.List.{AllByRecursion}
use Rattle.trace_base.specs.declared.limits.TheConstants.{MAX_FIELD, MAX_PACKET_LEN, MAX_NUMBER}
use Rattle.field_tree.specs.declared.node.FieldNode.TheVariants.{Begin, End}
use Rattle.field_tree.specs.declared.mode.Mode.{Mode}
use Rattle.field_tree.specs.declared.mode.Mode.TheVariants.{Start, Field, Value, Zero, Digits, Text, Quoted, Star, Times, Tick, Pairs, Half, Packed, After}
use Rattle.field_tree.specs.declared.mode.Action.{Action}
use Rattle.field_tree.specs.declared.mode.Action.TheVariants.{Refuse, Go, Keep, Open, Close}
use Rattle.field_tree.specs.Nodes.{Shown}
use Rattle.field_tree.specs.Grammar.{IsTextByte, IsByte, number, hex_digit, pairs}
use Rattle.field_tree.specs.Machine.{is_first_digit, is_text_byte, grown, hex_value, go_on, act, IsValid}
use Rattle.field_tree.proofs.TestLemmas.{first_digit_range, text_byte, by_grown, by_hex, number_digit, number_more, pairs-push}
use Rattle.field_tree.proofs.Messages.{InMessage, AField, closes_here, spaced, nested_before}

-- the text of the field that is being read, as far as it is read
abbrev pub body : Mode → List ℕ → List ℕ
body (Start opened) t = []
body (Field n) t = number n
body (Value n) t = number n ++ 58 ∷ []
body (Zero n) t = number n ++ 58 ∷ 48 ∷ []
body (Digits n value) t = number n ++ 58 ∷ number value
body (Text n) t = number n ++ 58 ∷ 34 ∷ t
body (Quoted n) t = number n ++ 58 ∷ 34 ∷ (t ++ 34 ∷ [])
body (Star n) t = number n ++ 58 ∷ 34 ∷ (t ++ 34 ∷ 42 ∷ [])
body (Times n times) t = number n ++ 58 ∷ 34 ∷ (t ++ 34 ∷ 42 ∷ number times)
body (Tick n) t = number n ++ 58 ∷ 120 ∷ []
body (Pairs n) t = number n ++ 58 ∷ 120 ∷ 39 ∷ pairs t
body (Half n high) t = number n ++ 58 ∷ 120 ∷ 39 ∷ (pairs t ++ hex_digit high ∷ [])
body (Packed n) t = number n ++ 58 ∷ 120 ∷ 39 ∷ (pairs t ++ 39 ∷ [])
body After t = []

-- what follows, with its nodes
abbrev pub Follows : Mode → List ℕ → ℕ → List Shown → List ℕ → Type 0
Follows After t d nodes text = InMessage true d nodes text
Follows (Start true) t d nodes text = InMessage false d nodes text
Follows (Start false) t d nodes text = AField d nodes text
Follows mode t d nodes text = AField d nodes (body mode t ++ text)

pub record GoesBack (m : Mode) (t : List ℕ) (b : ℕ) (to : Mode) (kept : List ℕ) : Type 0 where
  pub valid : IsValid to kept
  pub back : (d : ℕ) (nodes : List Shown) (text : List ℕ) → Follows to kept d nodes text → Follows m t d nodes (b ∷ text)

pub record OpensBack (m : Mode) (t : List ℕ) (b n : ℕ) : Type 0 where
  pub empty : t ≡ []
  pub back : (d : ℕ) (nodes : List Shown) (text : List ℕ)
      → Follows (Start true) [] (suc d) nodes text → Follows m t d ((Begin n, []) ∷ nodes) (b ∷ text)

pub record ClosesBack (m : Mode) (t : List ℕ) (inner : Bool) (b : ℕ) : Type 0 where
  pub empty : t ≡ []
  pub inside : inner ≡ true
  pub back : (d : ℕ) (nodes : List Shown) (text : List ℕ)
      → Follows After [] d nodes text → Follows m t (suc d) ((End, []) ∷ nodes) (b ∷ text)

abbrev pub Back : Mode → List ℕ → Bool → ℕ → Action → Type 0
Back m t inner b Refuse = Unit {0}
Back m t inner b (Go to) = GoesBack m t b to t
Back m t inner b (Keep to byte) = GoesBack m t b to (t ++ byte ∷ [])
Back m t inner b (Open n) = OpensBack m t b n
Back m t inner b Close = ClosesBack m t inner b

-- ---- inside a field

goes : (x y : List ℕ) (b : ℕ) → x ++ b ∷ [] ≡ y → (d : ℕ) (nodes : List Shown) (text : List ℕ)
    → AField d nodes (y ++ text) → AField d nodes (x ++ b ∷ text)
goes x y b is d nodes text field =
    let P : List ℕ → Type 0 = λ w. AField d nodes w in
    subst P (ap (λ (w : List ℕ). w ++ text) (sym is) ∙ append_assoc x (b ∷ []) text) field

behind_number : (n b : ℕ) (w to : List ℕ) → w ++ b ∷ [] ≡ to → (number n ++ w) ++ b ∷ [] ≡ number n ++ to
behind_number n b w to is = append_assoc (number n) w (b ∷ []) ∙ ap (λ (v : List ℕ). number n ++ v) is

pub texts-push : (t : List ℕ) (b : ℕ) → AllByRecursion IsTextByte t → IsTextByte b → AllByRecursion IsTextByte (t ++ b ∷ [])
texts-push [] b all one = (one, tt)
texts-push (x ∷ t) b all one = (all.0, texts-push t b all.1 one)

bytes-push : (t : List ℕ) (b : ℕ) → AllByRecursion IsByte t → IsByte b → AllByRecursion IsByte (t ++ b ∷ [])
bytes-push [] b all one = (one, tt)
bytes-push (x ∷ t) b all one = (all.0, bytes-push t b all.1 one)

-- ---- each mode

begins : (opened : Bool) (b : ℕ) → is_first_digit b ≡ true → GoesBack (Start opened) [] b (Field (b - 48)) []
begins true b is =
    let range = first_digit_range b is in
    let byte : b ≡ 48 + (b - 48) = omega arith in
    let digits : number (b - 48) ≡ b ∷ [] = number_digit (b - 48) (omega arith) ∙ ap (λ (x : ℕ). x ∷ []) (sym byte) in
    record {
      valid = ((omega arith, omega arith), refl);
      back = λ d nodes text field. (goes [] (number (b - 48)) b (sym digits) d nodes text field).message;
    }
begins false b is =
    let range = first_digit_range b is in
    let byte : b ≡ 48 + (b - 48) = omega arith in
    let digits : number (b - 48) ≡ b ∷ [] = number_digit (b - 48) (omega arith) ∙ ap (λ (x : ℕ). x ∷ []) (sym byte) in
    record {
      valid = ((omega arith, omega arith), refl);
      back = λ d nodes text field. goes [] (number (b - 48)) b (sym digits) d nodes text field;
    }

closes_start : (opened inner : Bool) (b : ℕ) → (opened && inner && b == 125) ≡ true → ClosesBack (Start opened) [] inner b
closes_start true inner b is =
    let both = and_parts inner (b == 125) is in
    record {
      empty = refl;
      inside = both.0;
      back = λ d nodes text m.
          let P : ℕ → Type 0 = λ x. InMessage false (suc d) ((End, []) ∷ nodes) (x ∷ text) in
          subst P (sym (eqb-true b 125 both.1)) (closes_here false d nodes text m);
    }
closes_start false inner b is = absurd (cc)

pub start_back : (opened : Bool) (t : List ℕ) (inner : Bool) (b : ℕ) → t ≡ [] → Back (Start opened) t inner b (act (Start opened) inner b)
unfolding act
start_back opened [] inner b empty =
    cond_both (is_first_digit b) (Go (Field (b - 48))) (cond (opened && inner && b == 125) Close Refuse) (λ (a : Action). Back (Start opened) [] inner b a)
    (λ is. begins opened b is)
    (λ _. cond_both (opened && inner && b == 125) Close Refuse (λ (a : Action). Back (Start opened) [] inner b a) (λ is. closes_start opened inner b is) (λ _. tt))
start_back opened (x ∷ t) inner b empty = absurd (cc)

pub field_back : (n : ℕ) (t : List ℕ) (inner : Bool) (b : ℕ) → IsValid (Field n) t → Back (Field n) t inner b (act (Field n) inner b)
unfolding act
field_back n [] inner b valid =
    cond_both (b == 58) (Go (Value n)) (cond (b == 123) (Open n) (go_on (grown MAX_FIELD n b) (λ m. Go (Field m)))) (λ (a : Action). Back (Field n) [] inner b a)
    (λ is. record {
      valid = valid;
      back = goes (number n) (number n ++ 58 ∷ []) b (ap (λ (x : ℕ). number n ++ x ∷ []) (eqb-true b 58 is));
    })
    (λ _. cond_both (b == 123) (Open n) (go_on (grown MAX_FIELD n b) (λ m. Go (Field m))) (λ (a : Action). Back (Field n) [] inner b a)
    (λ is. record {
      empty = refl;
      back = λ d nodes text m.
          let P : ℕ → Type 0 = λ x. AField d ((Begin n, []) ∷ nodes) (number n ++ x ∷ text) in
          subst P (sym (eqb-true b 123 is)) (nested_before n d nodes text valid.0 m);
    })
    (λ _. by_grown (λ (a : Action). Back (Field n) [] inner b a) MAX_FIELD n b (λ m. Go (Field m)) tt
    (λ digit small byte fits.
    let more = number_more n digit valid.0.0 small (omega arith) in
    record {
      valid = ((omega arith, fits), refl);
      back = goes (number n) (number (n * 10 + digit)) b (ap (λ (x : ℕ). number n ++ x ∷ []) byte ∙ sym more);
    })))
field_back n (x ∷ t) inner b valid = absurd (cc)

first_number : (b : ℕ) → is_first_digit b ≡ true → b ∷ [] ≡ number (b - 48)
first_number b is =
    let range = first_digit_range b is in
    let byte : b ≡ 48 + (b - 48) = omega arith in
    ap (λ (x : ℕ). x ∷ []) byte ∙ sym (number_digit (b - 48) (omega arith))

pub value_back : (n : ℕ) (t : List ℕ) (inner : Bool) (b : ℕ) → IsValid (Value n) t → Back (Value n) t inner b (act (Value n) inner b)
unfolding act
value_back n [] inner b valid =
    cond_both (b == 34) (Go (Text n)) (cond (b == 120) (Go (Tick n)) (cond (b == 48) (Go (Zero n)) (cond (is_first_digit b) (Go (Digits n (b - 48))) Refuse))) (λ (a : Action). Back (Value n) [] inner b a)
    (λ is. record {
      valid = (valid.0, tt);
      back = goes (number n ++ 58 ∷ []) (number n ++ 58 ∷ 34 ∷ []) b (behind_number n b (58 ∷ []) (58 ∷ 34 ∷ []) (ap (λ (x : ℕ). 58 ∷ x ∷ []) (eqb-true b 34 is)));
    })
    (λ _. cond_both (b == 120) (Go (Tick n)) (cond (b == 48) (Go (Zero n)) (cond (is_first_digit b) (Go (Digits n (b - 48))) Refuse)) (λ (a : Action). Back (Value n) [] inner b a)
    (λ is. record {
      valid = (valid.0, refl);
      back = goes (number n ++ 58 ∷ []) (number n ++ 58 ∷ 120 ∷ []) b (behind_number n b (58 ∷ []) (58 ∷ 120 ∷ []) (ap (λ (x : ℕ). 58 ∷ x ∷ []) (eqb-true b 120 is)));
    })
    (λ _. cond_both (b == 48) (Go (Zero n)) (cond (is_first_digit b) (Go (Digits n (b - 48))) Refuse) (λ (a : Action). Back (Value n) [] inner b a)
    (λ is. record {
      valid = (valid.0, refl);
      back = goes (number n ++ 58 ∷ []) (number n ++ 58 ∷ 48 ∷ []) b (behind_number n b (58 ∷ []) (58 ∷ 48 ∷ []) (ap (λ (x : ℕ). 58 ∷ x ∷ []) (eqb-true b 48 is)));
    })
    (λ _. cond_both (is_first_digit b) (Go (Digits n (b - 48))) Refuse (λ (a : Action). Back (Value n) [] inner b a)
    (λ is.
    let range = first_digit_range b is in
    record {
      valid = (valid.0, omega arith, omega arith, refl);
      back = goes (number n ++ 58 ∷ []) (number n ++ 58 ∷ number (b - 48)) b (behind_number n b (58 ∷ []) (58 ∷ number (b - 48)) (ap (λ (w : List ℕ). 58 ∷ w) (first_number b is)));
    })
    (λ _. tt))))
value_back n (x ∷ t) inner b valid = absurd (cc)

pub digits_back : (n v : ℕ) (t : List ℕ) (inner : Bool) (b : ℕ) → IsValid (Digits n v) t → Back (Digits n v) t inner b (act (Digits n v) inner b)
unfolding act
digits_back n v t inner b valid =
    by_grown (λ (a : Action). Back (Digits n v) t inner b a) MAX_NUMBER v b (λ m. Go (Digits n m)) tt
    (λ digit small byte fits.
    let less : v * 10 + digit < 2 ^ 64 = omega arith in
    let more = number_more v digit valid.1 small less in
    record {
      valid = (valid.0, omega arith, less, valid.3);
      back = goes (number n ++ 58 ∷ number v) (number n ++ 58 ∷ number (v * 10 + digit)) b (behind_number n b (58 ∷ number v) (58 ∷ number (v * 10 + digit)) (ap (λ (x : ℕ). 58 ∷ (number v ++ x ∷ [])) byte ∙ ap (λ (w : List ℕ). 58 ∷ w) (sym more)));
    })

pub text_back : (n : ℕ) (t : List ℕ) (inner : Bool) (b : ℕ) → IsValid (Text n) t → Back (Text n) t inner b (act (Text n) inner b)
unfolding act
text_back n t inner b valid =
    cond_both (b == 34) (Go (Quoted n)) (cond (is_text_byte b) (Keep (Text n) b) Refuse) (λ (a : Action). Back (Text n) t inner b a)
    (λ is. record {
      valid = valid;
      back = goes (number n ++ 58 ∷ 34 ∷ t) (number n ++ 58 ∷ 34 ∷ (t ++ 34 ∷ [])) b (behind_number n b (58 ∷ 34 ∷ t) (58 ∷ 34 ∷ (t ++ 34 ∷ [])) (ap (λ (x : ℕ). 58 ∷ 34 ∷ (t ++ x ∷ [])) (eqb-true b 34 is)));
    })
    (λ _. cond_both (is_text_byte b) (Keep (Text n) b) Refuse (λ (a : Action). Back (Text n) t inner b a)
    (λ is. record {
      valid = (valid.0, texts-push t b valid.1 (text_byte b is));
      back = goes (number n ++ 58 ∷ 34 ∷ t) (number n ++ 58 ∷ 34 ∷ (t ++ b ∷ [])) b (behind_number n b (58 ∷ 34 ∷ t) (58 ∷ 34 ∷ (t ++ b ∷ [])) refl);
    })
    (λ _. tt))

pub quoted_back : (n : ℕ) (t : List ℕ) (inner : Bool) (b : ℕ) → IsValid (Quoted n) t → Back (Quoted n) t inner b (act (Quoted n) inner b)
unfolding act
quoted_back n t inner b valid =
    cond_both (b == 42) (Go (Star n)) Refuse (λ (a : Action). Back (Quoted n) t inner b a)
    (λ is. record {
      valid = valid;
      back = goes (number n ++ 58 ∷ 34 ∷ (t ++ 34 ∷ [])) (number n ++ 58 ∷ 34 ∷ (t ++ 34 ∷ 42 ∷ [])) b (behind_number n b (58 ∷ 34 ∷ (t ++ 34 ∷ [])) (58 ∷ 34 ∷ (t ++ 34 ∷ 42 ∷ [])) (ap (λ (w : List ℕ). 58 ∷ 34 ∷ w) (append_assoc t (34 ∷ []) (b ∷ [])) ∙ ap (λ (x : ℕ). 58 ∷ 34 ∷ (t ++ 34 ∷ x ∷ [])) (eqb-true b 42 is)));
    })
    (λ _. tt)

pub star_back : (n : ℕ) (t : List ℕ) (inner : Bool) (b : ℕ) → IsValid (Star n) t → Back (Star n) t inner b (act (Star n) inner b)
unfolding act
star_back n t inner b valid =
    cond_both (is_first_digit b) (Go (Times n (b - 48))) Refuse (λ (a : Action). Back (Star n) t inner b a)
    (λ is.
    let range = first_digit_range b is in
    record {
      valid = (valid.0, valid.1, omega arith, omega arith);
      back = goes (number n ++ 58 ∷ 34 ∷ (t ++ 34 ∷ 42 ∷ [])) (number n ++ 58 ∷ 34 ∷ (t ++ 34 ∷ 42 ∷ number (b - 48))) b (behind_number n b (58 ∷ 34 ∷ (t ++ 34 ∷ 42 ∷ [])) (58 ∷ 34 ∷ (t ++ 34 ∷ 42 ∷ number (b - 48))) (ap (λ (w : List ℕ). 58 ∷ 34 ∷ w) (append_assoc t (34 ∷ 42 ∷ []) (b ∷ [])) ∙ ap (λ (w : List ℕ). 58 ∷ 34 ∷ (t ++ 34 ∷ 42 ∷ w)) (first_number b is)));
    })
    (λ _. tt)

pub times_back : (n k : ℕ) (t : List ℕ) (inner : Bool) (b : ℕ) → IsValid (Times n k) t → Back (Times n k) t inner b (act (Times n k) inner b)
unfolding act
times_back n k t inner b valid =
    by_grown (λ (a : Action). Back (Times n k) t inner b a) MAX_PACKET_LEN k b (λ m. Go (Times n m)) tt
    (λ digit small byte fits.
    let more = number_more k digit valid.2 small (omega arith) in
    record {
      valid = (valid.0, valid.1, omega arith, fits);
      back = goes (number n ++ 58 ∷ 34 ∷ (t ++ 34 ∷ 42 ∷ number k)) (number n ++ 58 ∷ 34 ∷ (t ++ 34 ∷ 42 ∷ number (k * 10 + digit))) b (behind_number n b (58 ∷ 34 ∷ (t ++ 34 ∷ 42 ∷ number k)) (58 ∷ 34 ∷ (t ++ 34 ∷ 42 ∷ number (k * 10 + digit))) (ap (λ (w : List ℕ). 58 ∷ 34 ∷ w) (append_assoc t (34 ∷ 42 ∷ number k) (b ∷ [])) ∙ ap (λ (x : ℕ). 58 ∷ 34 ∷ (t ++ 34 ∷ 42 ∷ (number k ++ x ∷ []))) byte ∙ ap (λ (w : List ℕ). 58 ∷ 34 ∷ (t ++ 34 ∷ 42 ∷ w)) (sym more)));
    })

pub tick_back : (n : ℕ) (t : List ℕ) (inner : Bool) (b : ℕ) → IsValid (Tick n) t → Back (Tick n) t inner b (act (Tick n) inner b)
unfolding act
tick_back n [] inner b valid =
    cond_both (b == 39) (Go (Pairs n)) Refuse (λ (a : Action). Back (Tick n) [] inner b a)
    (λ is. record {
      valid = (valid.0, tt);
      back = goes (number n ++ 58 ∷ 120 ∷ []) (number n ++ 58 ∷ 120 ∷ 39 ∷ []) b (behind_number n b (58 ∷ 120 ∷ []) (58 ∷ 120 ∷ 39 ∷ []) (ap (λ (x : ℕ). 58 ∷ 120 ∷ x ∷ []) (eqb-true b 39 is)));
    })
    (λ _. tt)
tick_back n (x ∷ t) inner b valid = absurd (cc)

pub pairs_back : (n : ℕ) (t : List ℕ) (inner : Bool) (b : ℕ) → IsValid (Pairs n) t → Back (Pairs n) t inner b (act (Pairs n) inner b)
unfolding act
pairs_back n t inner b valid =
    cond_both (b == 39) (Go (Packed n)) (go_on (hex_value b) (λ high. Go (Half n high))) (λ (a : Action). Back (Pairs n) t inner b a)
    (λ is. record {
      valid = valid;
      back = goes (number n ++ 58 ∷ 120 ∷ 39 ∷ pairs t) (number n ++ 58 ∷ 120 ∷ 39 ∷ (pairs t ++ 39 ∷ [])) b (behind_number n b (58 ∷ 120 ∷ 39 ∷ pairs t) (58 ∷ 120 ∷ 39 ∷ (pairs t ++ 39 ∷ [])) (ap (λ (x : ℕ). 58 ∷ 120 ∷ 39 ∷ (pairs t ++ x ∷ [])) (eqb-true b 39 is)));
    })
    (λ _. by_hex (λ (a : Action). Back (Pairs n) t inner b a) b (λ high. Go (Half n high)) tt
    (λ high small byte. record {
      valid = (valid.0, valid.1, small);
      back = goes (number n ++ 58 ∷ 120 ∷ 39 ∷ pairs t) (number n ++ 58 ∷ 120 ∷ 39 ∷ (pairs t ++ hex_digit high ∷ [])) b (behind_number n b (58 ∷ 120 ∷ 39 ∷ pairs t) (58 ∷ 120 ∷ 39 ∷ (pairs t ++ hex_digit high ∷ [])) (ap (λ (x : ℕ). 58 ∷ 120 ∷ 39 ∷ (pairs t ++ x ∷ [])) byte));
    }))

pub half_back : (n high : ℕ) (t : List ℕ) (inner : Bool) (b : ℕ) → IsValid (Half n high) t → Back (Half n high) t inner b (act (Half n high) inner b)
unfolding act
half_back n high t inner b valid =
    by_hex (λ (a : Action). Back (Half n high) t inner b a) b (λ low. Keep (Pairs n) (16 * high + low)) tt
    (λ low small byte.
    let pushed = pairs-push t high low small in
    let top = valid.2 in
    record {
      valid = (valid.0, bytes-push t (16 * high + low) valid.1 (omega arith));
      back = goes (number n ++ 58 ∷ 120 ∷ 39 ∷ (pairs t ++ hex_digit high ∷ [])) (number n ++ 58 ∷ 120 ∷ 39 ∷ pairs (t ++ (16 * high + low) ∷ [])) b (behind_number n b (58 ∷ 120 ∷ 39 ∷ (pairs t ++ hex_digit high ∷ [])) (58 ∷ 120 ∷ 39 ∷ pairs (t ++ (16 * high + low) ∷ [])) (ap (λ (x : ℕ). 58 ∷ 120 ∷ 39 ∷ ((pairs t ++ hex_digit high ∷ []) ++ x ∷ [])) byte ∙ ap (λ (w : List ℕ). 58 ∷ 120 ∷ 39 ∷ w) (sym pushed)));
    })

pub after_back : (t : List ℕ) (inner : Bool) (b : ℕ) → t ≡ [] → Back After t inner b (act After inner b)
unfolding act
after_back t inner b empty =
    cond_both (b == 32) (Go (Start false)) (cond (inner && b == 125) Close Refuse) (λ (a : Action). Back After t inner b a)
    (λ is. record {
      valid = empty;
      back = λ d nodes text field.
          let P : ℕ → Type 0 = λ x. InMessage true d nodes (x ∷ text) in
          subst P (sym (eqb-true b 32 is)) (spaced d nodes text field);
    })
    (λ _. cond_both (inner && b == 125) Close Refuse (λ (a : Action). Back After t inner b a)
    (λ is.
    let both = and_parts inner (b == 125) is in
    record {
      empty = empty;
      inside = both.0;
      back = λ d nodes text m.
          let P : ℕ → Type 0 = λ x. InMessage true (suc d) ((End, []) ∷ nodes) (x ∷ text) in
          subst P (sym (eqb-true b 125 both.1)) (closes_here true d nodes text m);
    })
    (λ _. tt))

-- each step
pub act_back : (m : Mode) (t : List ℕ) (inner : Bool) (b : ℕ) → IsValid m t → Back m t inner b (act m inner b)
act_back (Start opened) t inner b valid = start_back opened t inner b valid
act_back (Field n) t inner b valid = field_back n t inner b valid
act_back (Value n) t inner b valid = value_back n t inner b valid
act_back (Zero n) t inner b valid = unfold act in tt
act_back (Digits n v) t inner b valid = digits_back n v t inner b valid
act_back (Text n) t inner b valid = text_back n t inner b valid
act_back (Quoted n) t inner b valid = quoted_back n t inner b valid
act_back (Star n) t inner b valid = star_back n t inner b valid
act_back (Times n k) t inner b valid = times_back n k t inner b valid
act_back (Tick n) t inner b valid = tick_back n t inner b valid
act_back (Pairs n) t inner b valid = pairs_back n t inner b valid
act_back (Half n high) t inner b valid = half_back n high t inner b valid
act_back (Packed n) t inner b valid = unfold act in tt
act_back After t inner b valid = after_back t inner b valid
