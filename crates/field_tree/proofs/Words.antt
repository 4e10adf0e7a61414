-- Where numbers end in a text.
use Rattle.std.proofs.Common.{◌≡◌, ℕ, zero, suc, ◌+◌, ◌%◌, ◌^◌, ◌<◌, ◌≤◌, true, false, cond, nat_le, List, [], ◌∷◌, ◌++◌, length, take, drop, refl, sym, ap, subst, arith, ◌∙◌, append_assoc}
use Rattle.std.proofs.lemmas.Bool.{cond_both, cond-true, cond-false, and_from, le-leb}
use Rattle.std.proofs.lemmas.Fmt.{decimal_by_steps}
use Rattle.field_tree.specs.Grammar.{number, is_digit, leading_digits, first_word}
use Rattle.field_tree.specs.Machine.{is_first_digit}
use Rattle.field_tree.proofs.TestLemmas.{first_digit_range}
use Rattle.field_tree.proofs.Runs.{digit, first_digit}

-- no number from inside the front goes on behind it
abbrev pub Separates : List ℕ → List ℕ → Type 0
Separates [] back = Unit {0}
Separates (b ∷ front) back = (is_first_digit b ≡ true → leading_digits (front ++ back) ≡ leading_digits front) × Separates front back

-- what follows begins with no digit
leading-append_none : (front back : List ℕ) → leading_digits back ≡ [] → leading_digits (front ++ back) ≡ leading_digits front
leading-append_none [] back none = none
leading-append_none (b ∷ front) back none =
    ap (λ (w : List ℕ). cond (is_digit b) (b ∷ w) []) (leading-append_none front back none)

pub separates_none : (front back : List ℕ) → leading_digits back ≡ [] → Separates front back
separates_none [] back none = tt
separates_none (b ∷ front) back none = ((λ is. leading-append_none front back none), separates_none front back none)

-- the front has a byte that is no digit
leading_cut : (f a b : List ℕ) (x : ℕ) → is_digit x ≡ false → leading_digits (f ++ x ∷ a) ≡ leading_digits (f ++ x ∷ b)
leading_cut [] a b x plain = cond-false (is_digit x) (x ∷ leading_digits a) [] plain ∙ sym (cond-false (is_digit x) (x ∷ leading_digits b) [] plain)
leading_cut (y ∷ f) a b x plain = ap (λ (w : List ℕ). cond (is_digit y) (y ∷ w) []) (leading_cut f a b x plain)

no_first : (x : ℕ) → is_digit x ≡ false → is_first_digit x ≡ true → ⊥
no_first x plain first =
    let range = first_digit_range x first in
    let yes : is_digit x ≡ true = and_from (nat_le 48 x) (nat_le x 57) (le-leb 48 x (omega arith)) (le-leb x 57 (omega arith)) in
    absurd (cc)

separates_behind : (f w back : List ℕ) (x : ℕ) → is_digit x ≡ false → Separates w back → Separates (f ++ x ∷ w) back
separates_behind [] w back x plain later = ((λ first. absurd (no_first x plain first)), later)
separates_behind (y ∷ f) w back x plain later =
    ((λ first. ap leading_digits (append_assoc f (x ∷ w) back) ∙ leading_cut f (w ++ back) w x plain), separates_behind f w back x plain later)

-- the text ends in a byte that is no digit, or is empty
pub data EndsPlain (text : List ℕ) : Type 0 where
  Empty : text ≡ [] → EndsPlain text
  Ends : (front : List ℕ) (x : ℕ) → is_digit x ≡ false → text ≡ front ++ x ∷ [] → EndsPlain text

pub separates_plain : (front back : List ℕ) → EndsPlain front → Separates front back
separates_plain front back (Empty is) = let P : List ℕ → Type 0 = λ w. Separates w back in subst P (sym is) tt
separates_plain front back (Ends f x plain is) =
    let P : List ℕ → Type 0 = λ w. Separates w back in
    subst P (sym is) (separates_behind f [] back x plain tt)

-- a zero behind such a byte
pub separates_zero : (front back : List ℕ) → EndsPlain front → Separates (front ++ 48 ∷ []) back
separates_zero front back (Empty is) =
    let P : List ℕ → Type 0 = λ w. Separates (w ++ 48 ∷ []) back in
    subst P (sym is) ((λ first. absurd (cc)), tt)
separates_zero front back (Ends f x plain is) =
    let P : List ℕ → Type 0 = λ w. Separates w back in
    let same : (f ++ x ∷ []) ++ 48 ∷ [] ≡ f ++ x ∷ 48 ∷ [] = append_assoc f (x ∷ []) (48 ∷ []) in
    let Q : List ℕ → Type 0 = λ w. Separates (w ++ 48 ∷ []) back in
    subst Q (sym is) (subst P (sym same) (separates_behind f (48 ∷ []) back x plain ((λ first. absurd (cc)), tt)))

-- ---- the word at a place

leading_front : (w : List ℕ) → (rest : List ℕ) × (w ≡ leading_digits w ++ rest)
leading_front [] = ([], refl)
leading_front (b ∷ w) =
    let later = leading_front w in
    cond_both (is_digit b) (b ∷ leading_digits w) [] (λ (v : List ℕ). (rest : List ℕ) × (b ∷ w ≡ v ++ rest))
    (λ _. (later.0, ap (λ (v : List ℕ). b ∷ v) later.1)) (λ _. (b ∷ w, refl))

pub word_front : (w : List ℕ) → (rest : List ℕ) × (w ≡ first_word w ++ rest)
unfolding first_word
word_front [] = ([], refl)
word_front (b ∷ w) =
    let later = leading_front w in
    cond_both (is_first_digit b) (b ∷ leading_digits w) (b ∷ []) (λ (v : List ℕ). (rest : List ℕ) × (b ∷ w ≡ v ++ rest))
    (λ _. (later.0, ap (λ (v : List ℕ). b ∷ v) later.1)) (λ _. (w, refl))

-- the word at each place of the front ends within it
pub record Within (front back : List ℕ) (i : ℕ) : Type 0 where
  pub rest : List ℕ
  pub front_is : front ≡ (take i (front ++ back) ++ first_word (drop i (front ++ back))) ++ rest

first_within : (b : ℕ) (front back : List ℕ) → Separates (b ∷ front) back → (rest : List ℕ) × (b ∷ front ≡ first_word (b ∷ (front ++ back)) ++ rest)
unfolding first_word
first_within b front back separate =
    let later = leading_front front in
    cond_both (is_first_digit b) (b ∷ leading_digits (front ++ back)) (b ∷ []) (λ (v : List ℕ). (rest : List ℕ) × (b ∷ front ≡ v ++ rest))
    (λ is. (later.0, ap (λ (v : List ℕ). b ∷ v) (later.1 ∙ ap (λ (v : List ℕ). v ++ later.0) (sym (separate.0 is)))))
    (λ _. (front, refl))

pub within : (front back : List ℕ) (i : ℕ) → Separates front back → i < length front → Within front back i
within [] back i separate inside = absurd (omega arith)
within (b ∷ front) back zero separate inside =
    let w = first_within b front back separate in
    record { rest = w.0; front_is = w.1 }
within (b ∷ front) back (suc i) separate inside =
    let w = within front back i separate.1 (omega arith) in
    record { rest = w.rest; front_is = ap (λ (v : List ℕ). b ∷ v) w.front_is }

-- all of a number's digits are one word, and digits behind it are of that word too
pub number_word : (n : ℕ) (w : List ℕ) → 1 ≤ n → n < 2 ^ 64 → first_word (number n ++ w) ≡ number n ++ leading_digits w
unfolding number
number_word n w some fits =
    decimal_by_steps (λ m ds. 1 ≤ m → (v : List ℕ) → first_word (ds ++ v) ≡ ds ++ leading_digits v)
    (λ m one some v. unfold first_word in cond-true (is_first_digit (48 + m)) ((48 + m) ∷ leading_digits v) ((48 + m) ∷ []) (first_digit m some one))
    (λ m ds big before some v.
    ap first_word (append_assoc ds ((48 + m % 10) ∷ []) v)
    ∙ before (omega arith) ((48 + m % 10) ∷ v)
    ∙ ap (λ (u : List ℕ). ds ++ u) (cond-true (is_digit (48 + m % 10)) ((48 + m % 10) ∷ leading_digits v) [] (digit (m % 10) (omega arith)))
    ∙ sym (append_assoc ds ((48 + m % 10) ∷ []) (leading_digits v)))
    n fits some w
