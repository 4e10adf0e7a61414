-- How the text that was read ends, by where the reading stands: where the number that is being read begins.
use Rattle.std.proofs.Common.{◌≡◌, ℕ, ◌+◌, ◌-◌, ◌*◌, ◌^◌, ◌<◌, ◌≤◌, Bool, true, false, cond, ◌&&◌, ◌||◌, ◌==◌, nat_lt, Option, Some, None, List, [], ◌∷◌, ◌++◌, length, refl, sym, ap, subst, arith, ◌∙◌, append_assoc}
use Rattle.std.proofs.lemmas.List.{append-nil}
use Rattle.std.proofs.lemmas.Bool.{cond_both, and_parts, eqb-true}
use Rattle.trace_base.specs.declared.limits.TheConstants.{MAX_FIELD, MAX_PACKET_LEN, MAX_NUMBER}
use Rattle.field_tree.specs.declared.mode.Mode.{Mode}
use Rattle.field_tree.specs.declared.mode.Mode.TheVariants.{Start, Field, Value, Zero, Digits, Text, Quoted, Star, Times, Tick, Pairs, Half, Packed, After}
use Rattle.field_tree.specs.declared.mode.Action.{Action}
use Rattle.field_tree.specs.declared.mode.Action.TheVariants.{Refuse, Go, Keep, Open, Close}
use Rattle.field_tree.specs.Nodes.{Shown}
use Rattle.field_tree.specs.Grammar.{number, is_digit}
use Rattle.field_tree.specs.Machine.{TextReading, is_first_digit, is_text_byte, grown, hex_value, go_on, act, settled, moved, applied, next, then_run, run, beginning, IsValid}
use Rattle.field_tree.proofs.TestLemmas.{first_digit_range, by_grown, by_hex, number_digit, number_more}
use Rattle.field_tree.proofs.Accepted.{Steps, next_back}
use Rattle.field_tree.specs.Scanning.{reading_with}
use Rattle.field_tree.proofs.Words.{EndsPlain, Empty, Ends}

-- the text ends in a word, behind a byte that is no digit or nothing
pub record EndsIn (text word : List ℕ) : Type 0 where
  pub front : List ℕ
  pub text_is : text ≡ front ++ word
  pub plain : EndsPlain front

abbrev pub IsCut : List ℕ → Mode → Type 0
IsCut text (Field n) = EndsIn text (number n)
IsCut text (Digits n value) = EndsIn text (number value)
IsCut text (Times n times) = EndsIn text (number times)
IsCut text (Zero n) = EndsIn text (48 ∷ [])
IsCut text (Text n) = Unit {0}
IsCut text (Pairs n) = Unit {0}
IsCut text (Half n high) = Unit {0}
IsCut text mode = EndsPlain text

abbrev Cuts : List ℕ → ℕ → Action → Type 0
Cuts text b Refuse = Unit {0}
Cuts text b (Go to) = IsCut (text ++ b ∷ []) to
Cuts text b (Keep to byte) = IsCut (text ++ b ∷ []) to
Cuts text b (Open n) = EndsPlain (text ++ b ∷ [])
Cuts text b Close = EndsPlain (text ++ b ∷ [])

ends_plain : (text : List ℕ) (b x : ℕ) → is_digit x ≡ false → (b == x) ≡ true → EndsPlain (text ++ b ∷ [])
ends_plain text b x plain is =
    let P : ℕ → Type 0 = λ y. is_digit y ≡ false in
    Ends text b (subst P (sym (eqb-true b x is)) plain) refl

one_more : (text w to : List ℕ) (b : ℕ) → EndsIn text w → w ++ b ∷ [] ≡ to → EndsIn (text ++ b ∷ []) to
one_more text w to b e is = record {
  front = e.front;
  text_is = ap (λ (v : List ℕ). v ++ b ∷ []) e.text_is ∙ append_assoc e.front w (b ∷ []) ∙ ap (λ (v : List ℕ). e.front ++ v) is;
  plain = e.plain;
}

starts : (text : List ℕ) (b : ℕ) → EndsPlain text → is_first_digit b ≡ true → EndsIn (text ++ b ∷ []) (number (b - 48))
starts text b plain is =
    let range = first_digit_range b is in
    let byte : b ≡ 48 + (b - 48) = omega arith in
    let word : b ∷ [] ≡ number (b - 48) = ap (λ (x : ℕ). x ∷ []) byte ∙ sym (number_digit (b - 48) (omega arith)) in
    record { front = text; text_is = ap (λ (v : List ℕ). text ++ v) word; plain = plain }

grows : (text : List ℕ) (n digit b most : ℕ) → EndsIn text (number n) → 1 ≤ n → digit < 10 → b ≡ 48 + digit → n * 10 + digit ≤ most → most < 2 ^ 64
    → EndsIn (text ++ b ∷ []) (number (n * 10 + digit))
grows text n digit b most e some small byte fits less =
    one_more text (number n) (number (n * 10 + digit)) b e
    (ap (λ (x : ℕ). number n ++ x ∷ []) byte ∙ sym (number_more n digit some small (omega arith)))

after_cut : (text : List ℕ) (inner : Bool) (b : ℕ) → Cuts text b (act After inner b)
unfolding act
after_cut text inner b =
    cond_both (b == 32) (Go (Start false)) (cond (inner && b == 125) Close Refuse) (λ (a : Action). Cuts text b a)
    (λ is. ends_plain text b 32 refl is)
    (λ _. cond_both (inner && b == 125) Close Refuse (λ (a : Action). Cuts text b a)
    (λ is. let both = and_parts inner (b == 125) is in ends_plain text b 125 refl both.1) (λ _. tt))

brace_cut : (text : List ℕ) (opened inner : Bool) (b : ℕ) → (opened && inner && b == 125) ≡ true → EndsPlain (text ++ b ∷ [])
brace_cut text opened inner b is = let both = and_parts (opened && inner) (b == 125) is in ends_plain text b 125 refl both.1

act_cut : (m : Mode) (t text : List ℕ) (inner : Bool) (b : ℕ) → IsValid m t → IsCut text m → Cuts text b (act m inner b)
unfolding act
act_cut (Start opened) t text inner b valid cut =
    cond_both (is_first_digit b) (Go (Field (b - 48))) (cond (opened && inner && b == 125) Close Refuse) (λ (a : Action). Cuts text b a)
    (λ is. starts text b cut is)
    (λ _. cond_both (opened && inner && b == 125) Close Refuse (λ (a : Action). Cuts text b a) (λ is. brace_cut text opened inner b is) (λ _. tt))
act_cut (Field n) t text inner b valid cut =
    cond_both (b == 58) (Go (Value n)) (cond (b == 123) (Open n) (go_on (grown MAX_FIELD n b) (λ m. Go (Field m)))) (λ (a : Action). Cuts text b a)
    (λ is. ends_plain text b 58 refl is)
    (λ _. cond_both (b == 123) (Open n) (go_on (grown MAX_FIELD n b) (λ m. Go (Field m))) (λ (a : Action). Cuts text b a)
    (λ is. ends_plain text b 123 refl is)
    (λ _. by_grown (λ (a : Action). Cuts text b a) MAX_FIELD n b (λ m. Go (Field m)) tt
    (λ digit small byte fits. grows text n digit b MAX_FIELD cut valid.0.0 small byte fits (omega arith))))
act_cut (Value n) t text inner b valid cut =
    cond_both (b == 34) (Go (Text n)) (cond (b == 120) (Go (Tick n)) (cond (b == 48) (Go (Zero n)) (cond (is_first_digit b) (Go (Digits n (b - 48))) Refuse))) (λ (a : Action). Cuts text b a)
    (λ _. tt)
    (λ _. cond_both (b == 120) (Go (Tick n)) (cond (b == 48) (Go (Zero n)) (cond (is_first_digit b) (Go (Digits n (b - 48))) Refuse)) (λ (a : Action). Cuts text b a)
    (λ is. ends_plain text b 120 refl is)
    (λ _. cond_both (b == 48) (Go (Zero n)) (cond (is_first_digit b) (Go (Digits n (b - 48))) Refuse) (λ (a : Action). Cuts text b a)
    (λ is. record { front = text; text_is = ap (λ (x : ℕ). text ++ x ∷ []) (eqb-true b 48 is); plain = cut })
    (λ _. cond_both (is_first_digit b) (Go (Digits n (b - 48))) Refuse (λ (a : Action). Cuts text b a) (λ is. starts text b cut is) (λ _. tt))))
act_cut (Zero n) t text inner b valid cut = tt
act_cut (Digits n v) t text inner b valid cut =
    by_grown (λ (a : Action). Cuts text b a) MAX_NUMBER v b (λ m. Go (Digits n m)) tt
    (λ digit small byte fits. grows text v digit b MAX_NUMBER cut valid.1 small byte fits (omega arith))
act_cut (Text n) t text inner b valid cut =
    cond_both (b == 34) (Go (Quoted n)) (cond (is_text_byte b) (Keep (Text n) b) Refuse) (λ (a : Action). Cuts text b a)
    (λ is. ends_plain text b 34 refl is)
    (λ _. cond_both (is_text_byte b) (Keep (Text n) b) Refuse (λ (a : Action). Cuts text b a) (λ _. tt) (λ _. tt))
act_cut (Quoted n) t text inner b valid cut =
    cond_both (b == 42) (Go (Star n)) Refuse (λ (a : Action). Cuts text b a) (λ is. ends_plain text b 42 refl is) (λ _. tt)
act_cut (Star n) t text inner b valid cut =
    cond_both (is_first_digit b) (Go (Times n (b - 48))) Refuse (λ (a : Action). Cuts text b a) (λ is. starts text b cut is) (λ _. tt)
act_cut (Times n k) t text inner b valid cut =
    by_grown (λ (a : Action). Cuts text b a) MAX_PACKET_LEN k b (λ m. Go (Times n m)) tt
    (λ digit small byte fits. grows text k digit b MAX_PACKET_LEN cut valid.2 small byte fits (omega arith))
act_cut (Tick n) t text inner b valid cut =
    cond_both (b == 39) (Go (Pairs n)) Refuse (λ (a : Action). Cuts text b a) (λ _. tt) (λ _. tt)
act_cut (Pairs n) t text inner b valid cut =
    cond_both (b == 39) (Go (Packed n)) (go_on (hex_value b) (λ high. Go (Half n high))) (λ (a : Action). Cuts text b a)
    (λ is. ends_plain text b 39 refl is)
    (λ _. by_hex (λ (a : Action). Cuts text b a) b (λ high. Go (Half n high)) tt (λ high small byte. tt))
act_cut (Half n high) t text inner b valid cut =
    by_hex (λ (a : Action). Cuts text b a) b (λ low. Keep (Pairs n) (16 * high + low)) tt (λ low small byte. tt)
act_cut (Packed n) t text inner b valid cut = tt
act_cut After t text inner b valid cut = after_cut text inner b

-- ---- a byte

abbrev NextCut : List ℕ → ℕ → Option TextReading → Type 0
NextCut text b None = Unit {0}
NextCut text b (Some q) = IsCut (text ++ b ∷ []) q.mode

applied_cut : (r : TextReading) (text : List ℕ) (b : ℕ) (a : Action) → Cuts text b a → NextCut text b (applied a r)
unfolding applied
applied_cut r text b Refuse cut = tt
applied_cut r text b (Go to) cut = cut
applied_cut r text b (Keep to byte) cut = cut
applied_cut r text b (Open n) cut = cut
applied_cut r text b Close cut = cut

settled_cut : (ns : List Shown) (d : ℕ) (t : List ℕ) (m : Mode) (text : List ℕ) (b : ℕ) → IsValid m t → IsCut text m
    → NextCut text b (moved b (settled (reading_with ns d t m)))
unfolding settled
settled_cut ns d t (Zero n) text b valid cut = applied_cut _ text b _ (after_cut text (nat_lt 0 d) b)
settled_cut ns d t (Digits n v) text b valid cut = applied_cut _ text b _ (after_cut text (nat_lt 0 d) b)
settled_cut ns d t (Quoted n) text b valid cut = applied_cut _ text b _ (after_cut text (nat_lt 0 d) b)
settled_cut ns d t (Times n k) text b valid cut = applied_cut _ text b _ (after_cut text (nat_lt 0 d) b)
settled_cut ns d t (Packed n) text b valid cut = applied_cut _ text b _ (after_cut text (nat_lt 0 d) b)
settled_cut ns d t After text b valid cut = applied_cut _ text b _ (after_cut text (nat_lt 0 d) b)
settled_cut ns d t (Start opened) text b valid cut = applied_cut _ text b _ (act_cut (Start opened) t text (nat_lt 0 d) b valid cut)
settled_cut ns d t (Field n) text b valid cut = applied_cut _ text b _ (act_cut (Field n) t text (nat_lt 0 d) b valid cut)
settled_cut ns d t (Value n) text b valid cut = applied_cut _ text b _ (act_cut (Value n) t text (nat_lt 0 d) b valid cut)
settled_cut ns d t (Text n) text b valid cut = applied_cut _ text b _ (act_cut (Text n) t text (nat_lt 0 d) b valid cut)
settled_cut ns d t (Star n) text b valid cut = applied_cut _ text b _ (act_cut (Star n) t text (nat_lt 0 d) b valid cut)
settled_cut ns d t (Tick n) text b valid cut = applied_cut _ text b _ (act_cut (Tick n) t text (nat_lt 0 d) b valid cut)
settled_cut ns d t (Pairs n) text b valid cut = applied_cut _ text b _ (act_cut (Pairs n) t text (nat_lt 0 d) b valid cut)
settled_cut ns d t (Half n high) text b valid cut = applied_cut _ text b _ (act_cut (Half n high) t text (nat_lt 0 d) b valid cut)

next_cut : (r : TextReading) (text : List ℕ) (b : ℕ) → IsValid r.mode r.text → IsCut text r.mode → NextCut text b (next r b)
unfolding next
next_cut r text b valid cut =
    cond_both (b == 32 || b == 125) (settled r) r (λ (q : TextReading). NextCut text b (moved b q))
    (λ _. settled_cut r.nodes r.depth r.text r.mode text b valid cut)
    (λ _. applied_cut r text b (act r.mode (nat_lt 0 r.depth) b) (act_cut r.mode r.text text (nat_lt 0 r.depth) b valid cut))

step_cut : (text : List ℕ) (b : ℕ) (bs : List ℕ) (r to : TextReading) (o : Option TextReading) → Steps r b o → NextCut text b o
    → then_run (λ q. run q bs) o ≡ Some to
    → ((q : TextReading) → IsValid q.mode q.text → IsCut (text ++ b ∷ []) q.mode → run q bs ≡ Some to → IsCut ((text ++ b ∷ []) ++ bs) to.mode)
    → IsCut (text ++ b ∷ bs) to.mode
step_cut text b bs r to None step cut given again = absurd (cc)
step_cut text b bs r to (Some q) step cut given again =
    let P : List ℕ → Type 0 = λ w. IsCut w to.mode in
    subst P (append_assoc text (b ∷ []) bs) (again q step.valid cut given)

run_cut : (bs text : List ℕ) (r to : TextReading) → IsValid r.mode r.text → IsCut text r.mode → run r bs ≡ Some to → IsCut (text ++ bs) to.mode
unfolding run
run_cut [] text r to valid cut given =
    let same : r ≡ to = cc in
    let P : TextReading → Type 0 = λ q. IsCut text q.mode in
    let Q : List ℕ → Type 0 = λ w. IsCut w to.mode in
    subst Q (sym (append-nil text)) (subst P same cut)
run_cut (b ∷ bs) text r to valid cut given =
    step_cut text b bs r to (next r b) (next_back r b valid) (next_cut r text b valid cut) given
    (λ q valid cut is. run_cut bs (text ++ b ∷ []) q to valid cut is)

pub cut_here : (text : List ℕ) (to : TextReading) → run beginning text ≡ Some to → IsCut text to.mode
unfolding beginning
cut_here text to given = run_cut text [] beginning to refl (Empty refl) given

-- ---- the depth

abbrev NextDepth : ℕ → Option TextReading → Type 0
NextDepth d None = Unit {0}
NextDepth d (Some q) = q.depth ≤ d + 1

applied_depth : (r : TextReading) (a : Action) → NextDepth r.depth (applied a r)
unfolding applied
applied_depth r Refuse = tt
applied_depth r (Go to) = omega arith
applied_depth r (Keep to byte) = omega arith
applied_depth r (Open n) = omega arith
applied_depth r Close = omega arith

settled_depth : (ns : List Shown) (d : ℕ) (t : List ℕ) (m : Mode) → (settled (reading_with ns d t m)).depth ≡ d
unfolding settled
settled_depth ns d t (Zero n) = refl
settled_depth ns d t (Digits n v) = refl
settled_depth ns d t (Quoted n) = refl
settled_depth ns d t (Times n k) = refl
settled_depth ns d t (Packed n) = refl
settled_depth ns d t After = refl
settled_depth ns d t (Start opened) = refl
settled_depth ns d t (Field n) = refl
settled_depth ns d t (Value n) = refl
settled_depth ns d t (Text n) = refl
settled_depth ns d t (Star n) = refl
settled_depth ns d t (Tick n) = refl
settled_depth ns d t (Pairs n) = refl
settled_depth ns d t (Half n high) = refl

next_depth : (r : TextReading) (b : ℕ) → NextDepth r.depth (next r b)
unfolding next
next_depth r b =
    cond_both (b == 32 || b == 125) (settled r) r (λ (q : TextReading). NextDepth r.depth (moved b q))
    (λ _.
    let P : ℕ → Type 0 = λ d. NextDepth d (moved b (settled r)) in
    subst P (settled_depth r.nodes r.depth r.text r.mode) (applied_depth (settled r) (act (settled r).mode (nat_lt 0 (settled r).depth) b)))
    (λ _. applied_depth r (act r.mode (nat_lt 0 r.depth) b))

step_depth : (b : ℕ) (bs : List ℕ) (d : ℕ) (to : TextReading) (o : Option TextReading) → NextDepth d o → then_run (λ q. run q bs) o ≡ Some to
    → ((q : TextReading) → run q bs ≡ Some to → to.depth ≤ q.depth + length bs) → to.depth ≤ d + length (b ∷ bs)
step_depth b bs d to None near given again = absurd (cc)
step_depth b bs d to (Some q) near given again = let later = again q given in omega arith

run_depth : (bs : List ℕ) (r to : TextReading) → run r bs ≡ Some to → to.depth ≤ r.depth + length bs
unfolding run
run_depth [] r to given = let same : r ≡ to = cc in let P : TextReading → Type 0 = λ q. q.depth ≤ r.depth + 0 in subst P same (omega arith)
run_depth (b ∷ bs) r to given = step_depth b bs r.depth to (next r b) (next_depth r b) given (λ q is. run_depth bs q to is)

pub depth_within : (text : List ℕ) (to : TextReading) → run beginning text ≡ Some to → to.depth ≤ length text
unfolding beginning
depth_within text to given = let within : to.depth ≤ 0 + length text = run_depth text beginning to given in omega arith
