-- Where the fault of a text stands.
use Rattle.std.proofs.Common.{◌≡◌, ℕ, ◌+◌, ◌-◌, ◌*◌, ◌^◌, ◌<◌, ◌≤◌, inl, inr, Bool, true, false, Option, Some, None, option_and_then, List, [], ◌∷◌, ◌++◌, length, take, drop, get_or, add-one, refl, sym, ap, subst, arith, ◌∙◌, append_assoc, length-append}
use Rattle.std.proofs.lemmas.List.{append-nil, take-append-drop, take_more}
use Rattle.std.proofs.Math.Seq.{take-append_seam, drop-append_seam, drop-cons}
use Rattle.std.proofs.lemmas.Bool.{cond_both, cond-true, cond-false, cases_lt, cases_eq}
use Rattle.trace_model.specs.Encoding.{Fields}
use Rattle.field_tree.specs.declared.mode.Mode.{Mode}
use Rattle.field_tree.specs.declared.mode.Mode.TheVariants.{Start, Field, Value, Zero, Digits, Text, Quoted, Star, Times, Tick, Pairs, Half, Packed, After}
use Rattle.field_tree.specs.Nodes.{Shown, nodes_of}
use Rattle.field_tree.specs.Grammar.{IsTextByte, number, is_digit, hex_digit, leading_digits, first_word, IsTextOf, Spells, IsFrontOfFields, IsFaultAt}
use Rattle.field_tree.specs.Machine.{TextReading, is_first_digit, next, then_run, run, finish, beginning, open_digits, taken_back, IsValid}
use Rattle.field_tree.proofs.TestLemmas.{digit_range, hex_digit_low}
use Rattle.field_tree.proofs.Accepted.{accepted}
use Rattle.field_tree.specs.Scanning.{reading_with}
use Rattle.field_tree.proofs.Runs.{run-append, text_step, pair_first, pair_last}
use Rattle.field_tree.proofs.Spelled.{spelled_accepted}
use Rattle.field_tree.proofs.Completes.{valid_here, begins_fields, begins_none, shorter_front}
use Rattle.field_tree.proofs.Words.{Separates, separates_none, separates_plain, separates_zero, within, number_word, word_front}
use Rattle.field_tree.proofs.Cuts.{EndsIn, IsCut, cut_here}

-- ---- a text in two parts

-- behind the front no word of the grammar goes on from it, so the fault is there
fault_behind : (front back : List ℕ) → Separates front back → IsFrontOfFields front → 1 ≤ length back
    → (IsFrontOfFields (front ++ first_word back) → ⊥) → IsFaultAt (front ++ back) (length front + 1)
fault_behind front back separate begins more none =
    let column : length front + 1 - 1 ≡ length front = omega arith in
    let P : ℕ → Type 0 = λ i. IsFrontOfFields (take i (front ++ back) ++ first_word (drop i (front ++ back))) in
    let Q : List ℕ → Type 0 = λ w. IsFrontOfFields (w ++ first_word (drop (length front) (front ++ back))) in
    let R : List ℕ → Type 0 = λ w. IsFrontOfFields (front ++ first_word w) in
    let S : List ℕ → Type 0 = λ w. IsFrontOfFields w in
    record {
      before = λ i less.
          let w = within front back i separate (omega arith) in
          shorter_front (take i (front ++ back) ++ first_word (drop i (front ++ back))) w.rest (subst S w.front_is begins);
      inside = (omega arith, omega (arith, length-append front back));
      here = λ inside given. none (subst R (drop-append_seam front back) (subst Q (take-append_seam front back) (subst P column given)));
      at_end = λ is fields text. absurd (omega (arith, length-append front back));
    }

-- all of a text begins some fields, and it is none
fault_end : (text : List ℕ) → IsFrontOfFields text → ((fields : Fields) → IsTextOf fields text → ⊥) → IsFaultAt text (length text + 1)
fault_end text begins none =
    let S : List ℕ → Type 0 = λ w. IsFrontOfFields w in
    let T : List ℕ → Type 0 = λ w. (i : ℕ) → i + 1 < length text + 1 → IsFrontOfFields (take i w ++ first_word (drop i w)) in
    let all : (i : ℕ) → i + 1 < length text + 1 → IsFrontOfFields (take i (text ++ []) ++ first_word (drop i (text ++ []))) = λ i less.
    let w = within text [] i (separates_none text [] refl) (omega arith) in
    shorter_front (take i (text ++ []) ++ first_word (drop i (text ++ []))) w.rest (subst S w.front_is begins) in
    record {
      before = subst T (append-nil text) all;
      inside = (omega arith, omega arith);
      here = λ inside given. absurd (omega arith);
      at_end = λ is fields given. none fields given;
    }

-- ---- the byte that is refused

record CutAt (text : List ℕ) (m : Mode) (b : ℕ) (rest : List ℕ) : Type 0 where
  front : List ℕ
  text_is : text ≡ front ++ taken_back m b
  separate : Separates front (taken_back m b ++ b ∷ rest)
  more : List ℕ
  word : first_word (taken_back m b ++ b ∷ rest) ≡ taken_back m b ++ b ∷ more

word_head : (b : ℕ) (rest : List ℕ) → (more : List ℕ) × (first_word (b ∷ rest) ≡ b ∷ more)
unfolding first_word
word_head b rest =
    cond_both (is_first_digit b) (b ∷ leading_digits rest) (b ∷ []) (λ (w : List ℕ). (more : List ℕ) × (w ≡ b ∷ more))
    (λ _. (leading_digits rest, refl)) (λ _. ([], refl))

nothing_taken : (text : List ℕ) (m : Mode) (b : ℕ) (rest : List ℕ) → taken_back m b ≡ [] → Separates text (b ∷ rest) → CutAt text m b rest
nothing_taken text m b rest none separate =
    let w = word_head b rest in
    let P : List ℕ → Type 0 = λ v. text ≡ text ++ v in
    let Q : List ℕ → Type 0 = λ v. Separates text (v ++ b ∷ rest) in
    let R : List ℕ → Type 0 = λ v. first_word (v ++ b ∷ rest) ≡ v ++ b ∷ w.0 in
    record {
      front = text;
      text_is = subst P (sym none) (sym (append-nil text));
      separate = subst Q (sym none) separate;
      more = w.0;
      word = subst R (sym none) w.1;
    }

number_taken : (text : List ℕ) (m : Mode) (n b : ℕ) (rest : List ℕ) → is_digit b ≡ true → taken_back m b ≡ number n → EndsIn text (number n)
    → 1 ≤ n → n < 2 ^ 64 → CutAt text m b rest
number_taken text m n b rest is taken cut some fits =
    let P : List ℕ → Type 0 = λ v. text ≡ cut.front ++ v in
    let Q : List ℕ → Type 0 = λ v. Separates cut.front (v ++ b ∷ rest) in
    let R : List ℕ → Type 0 = λ v. first_word (v ++ b ∷ rest) ≡ v ++ b ∷ leading_digits rest in
    record {
      front = cut.front;
      text_is = subst P (sym taken) cut.text_is;
      separate = subst Q (sym taken) (separates_plain cut.front (number n ++ b ∷ rest) cut.plain);
      more = leading_digits rest;
      word = subst R (sym taken) (number_word n (b ∷ rest) some fits
          ∙ ap (λ (v : List ℕ). number n ++ v) (cond-true (is_digit b) (b ∷ leading_digits rest) [] is));
    }

zero_taken : (text : List ℕ) (n b : ℕ) (rest : List ℕ) → is_digit b ≡ true → EndsIn text (48 ∷ []) → CutAt text (Zero n) b rest
zero_taken text n b rest is cut =
    let P : List ℕ → Type 0 = λ v. Separates v (b ∷ rest) in
    nothing_taken text (Zero n) b rest (cond-true (is_digit b) [] [] is) (subst P (sym cut.text_is) (separates_zero cut.front (b ∷ rest) cut.plain))

digit_text : (b : ℕ) → is_digit b ≡ true → IsTextByte b
digit_text b is = let range = digit_range b is in (omega arith, omega arith, (λ e. omega arith), (λ e. omega arith))

digit_hex : (b : ℕ) → is_digit b ≡ true → hex_digit (b - 48) ≡ b
digit_hex b is = let range = digit_range b is in let back : 48 + (b - 48) ≡ b = omega arith in hex_digit_low (b - 48) (omega arith) ∙ back

digit_cut : (ns : List Shown) (d : ℕ) (t : List ℕ) (m : Mode) (text : List ℕ) (b : ℕ) (rest : List ℕ) → is_digit b ≡ true
    → IsValid m t → IsCut text m → next (reading_with ns d t m) b ≡ None → CutAt text m b rest
digit_cut ns d t (Field n) text b rest is valid cut refused =
    number_taken text (Field n) n b rest is (cond-true (is_digit b) (number n) [] is) cut valid.0.0 (omega arith)
digit_cut ns d t (Digits n v) text b rest is valid cut refused =
    number_taken text (Digits n v) v b rest is (cond-true (is_digit b) (number v) [] is) cut valid.1 valid.2
digit_cut ns d t (Times n k) text b rest is valid cut refused =
    number_taken text (Times n k) k b rest is (cond-true (is_digit b) (number k) [] is) cut valid.2 (omega arith)
digit_cut ns d t (Zero n) text b rest is valid cut refused = zero_taken text n b rest is cut
digit_cut ns d t (Text n) text b rest is valid cut refused =
    let taken = text_step ns d n b t (digit_text b is) in absurd (cc)
digit_cut ns d t (Pairs n) text b rest is valid cut refused =
    let range = digit_range b is in
    let P : ℕ → Type 0 = λ x. next (reading_with ns d t (Pairs n)) x ≡ Some (reading_with ns d t (Half n (b - 48))) in
    let taken = subst P (digit_hex b is) (pair_first ns d n (b - 48) t (omega arith)) in absurd (cc)
digit_cut ns d t (Half n high) text b rest is valid cut refused =
    let range = digit_range b is in
    let P : ℕ → Type 0 = λ x. next (reading_with ns d t (Half n high)) x ≡ Some (reading_with ns d (t ++ (16 * high + (b - 48)) ∷ []) (Pairs n)) in
    let taken = subst P (digit_hex b is) (pair_last ns d n high (b - 48) t (omega arith)) in absurd (cc)
digit_cut ns d t (Start opened) text b rest is valid cut refused =
    nothing_taken text (Start opened) b rest (cond-true (is_digit b) [] [] is) (separates_plain text (b ∷ rest) cut)
digit_cut ns d t (Value n) text b rest is valid cut refused =
    nothing_taken text (Value n) b rest (cond-true (is_digit b) [] [] is) (separates_plain text (b ∷ rest) cut)
digit_cut ns d t (Quoted n) text b rest is valid cut refused =
    nothing_taken text (Quoted n) b rest (cond-true (is_digit b) [] [] is) (separates_plain text (b ∷ rest) cut)
digit_cut ns d t (Star n) text b rest is valid cut refused =
    nothing_taken text (Star n) b rest (cond-true (is_digit b) [] [] is) (separates_plain text (b ∷ rest) cut)
digit_cut ns d t (Tick n) text b rest is valid cut refused =
    nothing_taken text (Tick n) b rest (cond-true (is_digit b) [] [] is) (separates_plain text (b ∷ rest) cut)
digit_cut ns d t (Packed n) text b rest is valid cut refused =
    nothing_taken text (Packed n) b rest (cond-true (is_digit b) [] [] is) (separates_plain text (b ∷ rest) cut)
digit_cut ns d t After text b rest is valid cut refused =
    nothing_taken text After b rest (cond-true (is_digit b) [] [] is) (separates_plain text (b ∷ rest) cut)

cut_at : (test : Bool) (r : TextReading) (text : List ℕ) (b : ℕ) (rest : List ℕ) → is_digit b ≡ test → IsValid r.mode r.text → IsCut text r.mode
    → next r b ≡ None → CutAt text r.mode b rest
cut_at true r text b rest is valid cut refused = digit_cut r.nodes r.depth r.text r.mode text b rest is valid cut refused
cut_at false r text b rest is valid cut refused =
    nothing_taken text r.mode b rest (cond-false (is_digit b) (open_digits r.mode) [] is)
    (separates_none text (b ∷ rest) (cond-false (is_digit b) (b ∷ leading_digits rest) [] is))

stops : (text : List ℕ) (b : ℕ) (more : List ℕ) (r : TextReading) → run beginning text ≡ Some r → next r b ≡ None → run beginning (text ++ b ∷ more) ≡ None
unfolding run
stops text b more r given refused =
    run-append text (b ∷ more) beginning ∙ ap (then_run (λ q. run q (b ∷ more))) given ∙ ap (then_run (λ q. run q more)) refused

pub fault_byte : (text : List ℕ) (b : ℕ) (rest : List ℕ) (r : TextReading) → run beginning text ≡ Some r → next r b ≡ None
    → IsFaultAt (text ++ b ∷ rest) (length text + 1 - length (taken_back r.mode b))
fault_byte text b rest r given refused =
    let c = cut_at (is_digit b) r text b rest refl (valid_here text r given) (cut_here text r given) refused in
    let taken : List ℕ = taken_back r.mode b in
    let begins = begins_fields text r given in
    let S : List ℕ → Type 0 = λ w. IsFrontOfFields w in
    let U : List ℕ → Type 0 = λ w. run beginning w ≡ None in
    let whole : text ++ b ∷ rest ≡ c.front ++ (taken ++ b ∷ rest) = ap (λ (w : List ℕ). w ++ b ∷ rest) c.text_is ∙ append_assoc c.front taken (b ∷ rest) in
    let word : text ++ b ∷ c.more ≡ c.front ++ (taken ++ b ∷ c.more) = ap (λ (w : List ℕ). w ++ b ∷ c.more) c.text_is ∙ append_assoc c.front taken (b ∷ c.more) in
    let none : run beginning (c.front ++ first_word (taken ++ b ∷ rest)) ≡ None =
    subst U (word ∙ ap (λ (w : List ℕ). c.front ++ w) (sym c.word)) (stops text b c.more r given refused) in
    let size : length text ≡ length c.front + length taken = ap length c.text_is ∙ length-append c.front taken in
    let column : length c.front + 1 ≡ length text + 1 - length taken = omega arith in
    let P : List ℕ → Type 0 = λ w. IsFaultAt w (length c.front + 1) in
    let Q : ℕ → Type 0 = λ n. IsFaultAt (text ++ b ∷ rest) n in
    subst Q column (subst P (sym whole)
    (fault_behind c.front (taken ++ b ∷ rest) c.separate (shorter_front c.front taken (subst S c.text_is begins))
    (omega (arith, length-append taken (b ∷ rest))) (λ front. begins_none (c.front ++ first_word (taken ++ b ∷ rest)) none front)))

pub back_within : (text : List ℕ) (b : ℕ) (r : TextReading) → run beginning text ≡ Some r → next r b ≡ None → length (taken_back r.mode b) ≤ length text
back_within text b r given refused =
    let c = cut_at (is_digit b) r text b [] refl (valid_here text r given) (cut_here text r given) refused in
    let size : length text ≡ length c.front + length (taken_back r.mode b) = ap length c.text_is ∙ length-append c.front (taken_back r.mode b) in
    omega arith

pub fault_short : (text : List ℕ) (r : TextReading) → run beginning text ≡ Some r → finish r ≡ None → IsFaultAt text (length text + 1)
fault_short text r given refused =
    fault_end text (begins_fields text r given) (λ fields is.
    let spelled : Spells text (nodes_of fields) = record { fields = fields; text_of = is; nodes_are = refl } in
    let read = spelled_accepted text (nodes_of fields) spelled in
    let stopped : accepted beginning text ≡ None = ap (λ (o : Option TextReading). option_and_then finish o) given ∙ refused in
    absurd (cc))

-- ---- what the definition of a fault says whatever is read

pub one_fault : (text : List ℕ) (c d : ℕ) → IsFaultAt text c → IsFaultAt text d → c ≡ d
one_fault text c d one other = elim (cases_lt c d) [
  | inl less ↦
      let low = one.inside in
      let high = other.inside in
      absurd (one.here (omega arith) (other.before (c - 1) (omega arith)))
  | inr most ↦ elim (cases_lt d c) [
    | inl less ↦
        let low = other.inside in
        let high = one.inside in
        absurd (other.here (omega arith) (one.before (d - 1) (omega arith)))
    | inr least ↦ omega arith
  ]
]

pub fault_no_text : (text : List ℕ) (c : ℕ) (fields : Fields) → IsFaultAt text c → IsTextOf fields text → ⊥
fault_no_text text c fields fault is = elim (cases_eq c (length text + 1)) [
  | inl end ↦ absurd (fault.at_end end fields is)
  | inr before ↦
      let range = fault.inside in
      let w = word_front (drop (c - 1) text) in
      let whole : text ≡ (take (c - 1) text ++ first_word (drop (c - 1) text)) ++ w.0 =
      sym (take-append-drop (c - 1) text) ∙ ap (λ (v : List ℕ). take (c - 1) text ++ v) w.1 ∙ sym (append_assoc (take (c - 1) text) (first_word (drop (c - 1) text)) w.0) in
      let P : List ℕ → Type 0 = λ v. IsTextOf fields v in
      absurd (fault.here (omega arith) (record { fields = fields; more = w.0; whole = subst P whole is }))
]

front_before : (text : List ℕ) (i : ℕ) → i < length text → IsFrontOfFields (take i text ++ first_word (drop i text)) → IsFrontOfFields (take (i + 1) text)
front_before text i inside front =
    let here : drop i text ≡ get_or text i 0 ∷ drop (i + 1) text = rw (add-one, drop-cons text i 0) in
    let w = word_head (get_or text i 0) (drop (i + 1) text) in
    let P : List ℕ → Type 0 = λ v. IsFrontOfFields v in
    let whole : take i text ++ first_word (drop i text) ≡ take (i + 1) text ++ w.0 =
    ap (λ (v : List ℕ). take i text ++ v) (ap first_word here ∙ w.1)
    ∙ sym (append_assoc (take i text) (get_or text i 0 ∷ []) w.0)
    ∙ ap (λ (v : List ℕ). v ++ w.0) (sym (take_more text i 0 inside)) in
    shorter_front (take (i + 1) text) w.0 (subst P whole front)

-- what stands before a fault begins some fields
pub fault_front : (text : List ℕ) (c : ℕ) → IsFaultAt text c → IsFrontOfFields (take (c - 1) text)
fault_front text c fault = elim (cases_eq c 1) [
  | inl one ↦
      let P : ℕ → Type 0 = λ i. IsFrontOfFields (take i text) in
      let none : 0 ≡ c - 1 = omega arith in
      subst P none (begins_fields [] beginning (unfold run in refl))
  | inr more ↦
      let range = fault.inside in
      let P : ℕ → Type 0 = λ i. IsFrontOfFields (take i text) in
      let back : c - 2 + 1 ≡ c - 1 = omega arith in
      subst P back (front_before text (c - 2) (omega arith) (fault.before (c - 2) (omega arith)))
]
