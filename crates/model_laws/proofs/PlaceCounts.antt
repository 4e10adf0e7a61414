-- Counting outcomes over the places where packets begin, and over what is fixed.
use Rattle.std.proofs.Common.{◌≡◌, ◌∙◌, ℕ, ◌+◌, ◌≤◌, Bool, true, false, not, ◌||◌, List, [], ◌∷◌, map, reverse, length, refl, sym, ap, subst, arith, inl, inr, Option, Some, None}
use Rattle.std.specs.Prelude.{cond, ◌==◌, count_by, IsTrue, is_some}
use Rattle.std.specs.List.{list_any}
use Rattle.std.proofs.lemmas.Bool.{cases_Bool, and_from, or_parts, eq-eqb, false≢true, false_from_ne_true}
use Rattle.std.proofs.lemmas.List.{reverse-append}
use Rattle.std.proofs.lemmas.List.Sums.{sum_by-cons, sum_by-append, count_by-le-length}
use Rattle.trace_model.specs.Sequences.{Cursor}
use Rattle.trace_model.specs.Row.{Slot, Chain, Link, Joined, Gap, Stop, place, row_of}
use Rattle.trace_model.specs.RowLaws.{UpTo, Rises}
use Rattle.trace_model.specs.Written.{chains_in}
use Rattle.trace_model.specs.Causes.{Fixed, Outcome, is_same_place, outcome_at}
use Rattle.trace_model.specs.CauseLaws.{AreDistinct}
use Rattle.trace_model.proofs.CursorLemmas.{Each, each-then, same_parts, differs_behind, up_to_up_to, before_up_to, before_then}
use Rattle.trace_model.proofs.RowPlaceLemmas.{rows_rise}
use Rattle.model_laws.proofs.RowEnds.{StopsLast, row_stops}

-- Counts

pub count-cons : {X : Type 0} (test : X → Bool) (x : X) (xs : List X) → count_by test (x ∷ xs) ≡ cond (test x) 1 0 + count_by test xs
count-cons test x xs = sum_by-cons (λ y. cond (test y) 1 0) x xs

pub count-reversed : {X : Type 0} (test : X → Bool) (xs : List X) → count_by test (reverse xs) ≡ count_by test xs
count-reversed test [] = refl
count-reversed test (x ∷ xs) =
    ap (count_by test) (reverse-append (x ∷ []) xs)
    ∙ sum_by-append (λ y. cond (test y) 1 0) (reverse xs) (x ∷ [])
    ∙ omega (arith, count-reversed test xs, count-cons test x xs, count-cons test x [])

pub count-all : {X : Type 0} (xs : List X) → count_by (λ (x : X). true) xs ≡ length xs
count-all [] = refl
count-all {X = X} (x ∷ xs) = let one = count-cons (λ (y : X). true) x xs in let rest = count-all xs in omega (arith, one, rest)

-- Places

same_sym : (a b : Cursor) → is_same_place a b ≡ is_same_place b a
same_sym a b = elim (cases_Bool (is_same_place a b)) [
  | inl met ↦
      let parts = same_parts a b met in
      met ∙ sym (and_from (b.chunk_id == a.chunk_id) (b.passed == a.passed) (eq-eqb b.chunk_id a.chunk_id (sym parts.0)) (eq-eqb b.passed a.passed (sym parts.1)))
  | inr missed ↦
      missed ∙ sym (false_from_ne_true (is_same_place b a) (λ met.
      let parts = same_parts b a met in
      false≢true (sym missed ∙ and_from (a.chunk_id == b.chunk_id) (a.passed == b.passed) (eq-eqb a.chunk_id b.chunk_id (sym parts.0)) (eq-eqb a.passed b.passed (sym parts.1)))))
]

same_same : (a b c : Cursor) → is_same_place a b ≡ true → is_same_place b c ≡ true → is_same_place a c ≡ true
same_same a b c h k =
    let first = same_parts a b h in
    let second = same_parts b c k in
    and_from (a.chunk_id == c.chunk_id) (a.passed == c.passed) (eq-eqb a.chunk_id c.chunk_id (first.0 ∙ second.0)) (eq-eqb a.passed c.passed (first.1 ∙ second.1))

-- no two of the places are the same
abbrev pub Spread : List Cursor → Type 0
Spread [] = Unit {0}
Spread (at ∷ places) = Each (λ (other : Cursor). is_same_place at other ≡ false) places × Spread places

-- the place is among these
abbrev pub is_place_of : List Cursor → Cursor → Bool
is_place_of places at = list_any (λ (one : Cursor). is_same_place one at) places

abbrev pub AllAmong : List Cursor → List Fixed → Type 0
AllAmong places [] = Unit {0}
AllAmong places (fixed ∷ others) = IsTrue (is_place_of places fixed.at) × AllAmong places others

-- nothing else is fixed of the packet
alone : (at : Cursor) (f : Fixed) (others : List Fixed) → IsTrue (not (list_any (λ other. is_same_place other.at f.at) others)) → is_same_place at f.at ≡ true
    → outcome_at at others ≡ None
alone at f [] h same = refl
alone at f (g ∷ others) h same =
    let none : (is_same_place g.at f.at || list_any (λ other. is_same_place other.at f.at) others) ≡ false = not_true (is_same_place g.at f.at || list_any (λ other. is_same_place other.at f.at) others) h in
    let parts = or_parts (is_same_place g.at f.at) (list_any (λ other. is_same_place other.at f.at) others) none in
    let differs : is_same_place g.at at ≡ false = false_from_ne_true (is_same_place g.at at) (λ e. false≢true (sym parts.0 ∙ same_same g.at at f.at e same)) in
    ap (λ (b : Bool). cond b (Some g.outcome) (outcome_at at others)) differs
    ∙ alone at f others (ap not parts.1) same
  where
    not_true : (b : Bool) → not b ≡ true → b ≡ false
    not_true true e = absurd (false≢true e)
    not_true false e = refl

module _ (test : Option Outcome → Bool) where
  -- where the outcome of none of these places is fixed, it changes no count
  none_more : (f : Fixed) (others : List Fixed) (places : List Cursor) → Each (λ (at : Cursor). is_same_place at f.at ≡ false) places
      → count_by (λ (at : Cursor). test (outcome_at at (f ∷ others))) places ≡ count_by (λ (at : Cursor). test (outcome_at at others)) places
  none_more f others [] h = refl
  none_more f others (at ∷ places) h =
      count-cons (λ (p : Cursor). test (outcome_at p (f ∷ others))) at places
      ∙ ap (λ (b : Bool). cond {A = ℕ} (test (cond b (Some f.outcome) (outcome_at at others))) 1 0 + count_by (λ (p : Cursor). test (outcome_at p (f ∷ others))) places) (same_sym f.at at ∙ h.0)
      ∙ ap (λ (n : ℕ). cond (test (outcome_at at others)) 1 0 + n) (none_more f others places h.1)
      ∙ sym (count-cons (λ (p : Cursor). test (outcome_at p others)) at places)

  one_more : (f : Fixed) (others : List Fixed) (places : List Cursor) → Spread places → is_place_of places f.at ≡ true
      → ((at : Cursor) → is_same_place at f.at ≡ true → outcome_at at others ≡ None)
      → count_by (λ (at : Cursor). test (outcome_at at (f ∷ others))) places + cond (test None) 1 0
      ≡ count_by (λ (at : Cursor). test (outcome_at at others)) places + cond (test (Some f.outcome)) 1 0
  one_more f others [] spread among free = absurd (false≢true among)
  one_more f others (at ∷ places) spread among free =
      step (is_same_place at f.at) refl among (λ a. one_more f others places spread.1 a free)
    where
      with_f : ℕ
      with_f = count_by (λ (p : Cursor). test (outcome_at p (f ∷ others))) places

      without : ℕ
      without = count_by (λ (p : Cursor). test (outcome_at p others)) places

      here : count_by (λ (p : Cursor). test (outcome_at p (f ∷ others))) (at ∷ places) ≡ cond (test (cond (is_same_place f.at at) (Some f.outcome) (outcome_at at others))) 1 0 + count_by (λ (p : Cursor). test (outcome_at p (f ∷ others))) places
      here = count-cons (λ (p : Cursor). test (outcome_at p (f ∷ others))) at places

      there : count_by (λ (p : Cursor). test (outcome_at p others)) (at ∷ places) ≡ cond (test (outcome_at at others)) 1 0 + count_by (λ (p : Cursor). test (outcome_at p others)) places
      there = count-cons (λ (p : Cursor). test (outcome_at p others)) at places

      step : (b : Bool) → is_same_place at f.at ≡ b → (b || is_place_of places f.at) ≡ true
          → (is_place_of places f.at ≡ true → count_by (λ (p : Cursor). test (outcome_at p (f ∷ others))) places + cond (test None) 1 0
          ≡ count_by (λ (p : Cursor). test (outcome_at p others)) places + cond (test (Some f.outcome)) 1 0)
          → count_by (λ (p : Cursor). test (outcome_at p (f ∷ others))) (at ∷ places) + cond (test None) 1 0
          ≡ count_by (λ (p : Cursor). test (outcome_at p others)) (at ∷ places) + cond (test (Some f.outcome)) 1 0
      step true e a k =
          let own : cond {A = ℕ} (test (cond (is_same_place f.at at) (Some f.outcome) (outcome_at at others))) 1 0 ≡ cond (test (Some f.outcome)) 1 0 =
          ap (λ (b : Bool). cond {A = ℕ} (test (cond b (Some f.outcome) (outcome_at at others))) 1 0) (same_sym f.at at ∙ e) in
          let nothing : cond {A = ℕ} (test (outcome_at at others)) 1 0 ≡ cond (test None) 1 0 = ap (λ (o : Option Outcome). cond {A = ℕ} (test o) 1 0) (free at e) in
          let rest : count_by (λ (p : Cursor). test (outcome_at p (f ∷ others))) places ≡ count_by (λ (p : Cursor). test (outcome_at p others)) places =
          none_more f others places (each-then (λ (p : Cursor). is_same_place at p ≡ false) (λ (p : Cursor). is_same_place p f.at ≡ false)
          (λ p d. false_from_ne_true (is_same_place p f.at) (λ s. false≢true (sym d ∙ same_same at f.at p e (same_sym f.at p ∙ s)))) places spread.0) in
          omega (arith, here, there, own, nothing, rest)
      step false e a k =
          let own : cond {A = ℕ} (test (cond (is_same_place f.at at) (Some f.outcome) (outcome_at at others))) 1 0 ≡ cond (test (outcome_at at others)) 1 0 =
          ap (λ (b : Bool). cond {A = ℕ} (test (cond b (Some f.outcome) (outcome_at at others))) 1 0) (same_sym f.at at ∙ e) in
          omega (arith, here, there, own, k a)

  -- Outcomes at distinct places among these: those that pass the test are as many as the places with such an outcome, but
  -- for the places of which none is fixed.
  pub counted_at : (fixed : List Fixed) (places : List Cursor) → AreDistinct fixed → Spread places → AllAmong places fixed
      → count_by (λ (at : Cursor). test (outcome_at at fixed)) places + cond (test None) (length fixed) 0
      ≡ count_by (λ (f : Fixed). test (Some f.outcome)) fixed + cond (test None) (length places) 0
  counted_at [] places distinct spread among = none places ∙ omega arith
    where
      none : (places : List Cursor) → count_by (λ (at : Cursor). test None) places + cond (test None) 0 0 ≡ cond (test None) (length places) 0
      none places = step (test None) places
        where
          step : (b : Bool) (places : List Cursor) → count_by (λ (at : Cursor). b) places + cond b 0 0 ≡ cond b (length places) 0
          step true places = ap (λ (n : ℕ). n + 0) (count-all places) ∙ omega arith
          step false [] = refl
          step false (at ∷ places) = let one = count-cons (λ (p : Cursor). false) at places in let rest = step false places in omega (arith, one, rest)
  counted_at (f ∷ others) places distinct spread among =
      let one = one_more f others places spread among.0 (λ at same. alone at f others distinct.0 same) in
      let rest = counted_at others places distinct.1 spread among.1 in
      let more = count-cons (λ (g : Fixed). test (Some g.outcome)) f others in
      let longer : cond {A = ℕ} (test None) (length (f ∷ others)) 0 ≡ cond (test None) (length others) 0 + cond (test None) 1 0 = step (test None) in
      omega (arith, one, rest, more, longer)
    where
      step : (b : Bool) → cond b (length (f ∷ others)) 0 ≡ cond b (length others) 0 + cond b 1 0
      step true = omega arith
      step false = refl

-- no more outcomes are fixed than there are places
pub few : (fixed : List Fixed) (places : List Cursor) → AreDistinct fixed → Spread places → AllAmong places fixed → length fixed ≤ length places
few fixed places distinct spread among =
    let counted = counted_at (λ (o : Option Outcome). is_some o) fixed places distinct spread among in
    omega (arith, counted, count-all fixed, count_by-le-length (λ (at : Cursor). is_some (outcome_at at fixed)) places)

-- Places of a row

abbrev pub begins_of : List Chain → List Cursor
begins_of chains = map (λ (chain : Chain). chain.at) chains

rising_begins : (links : List Link) (from : Cursor) → Rises from links → StopsLast links
    → Each (λ (at : Cursor). UpTo from at) (begins_of (chains_in links)) × Spread (begins_of (chains_in links))
rising_begins [] from h s = (tt, tt)
rising_begins (Stop here why may ∷ links) from h s =
    subst (λ (ls : List Link). Each (λ (at : Cursor). UpTo from at) (begins_of (chains_in ls)) × Spread (begins_of (chains_in ls))) (sym s) (tt, tt)
rising_begins (Gap here next lost ∷ links) from h s =
    let rest = rising_begins links next h.2 s in
    let onward : UpTo from next = up_to_up_to from here next h.0 (before_then here next h.1) in
    (each-then (λ (at : Cursor). UpTo next at) (λ (at : Cursor). UpTo from at) (λ at up. up_to_up_to from next at onward up) (begins_of (chains_in links)) rest.0, rest.1)
rising_begins (Joined chain ∷ links) from h s =
    let rest = rising_begins links chain.next h.2 s in
    let onward : UpTo from chain.next = up_to_up_to from chain.at chain.next h.0 (before_then chain.at chain.next h.1) in (
      (h.0, each-then (λ (at : Cursor). UpTo chain.next at) (λ (at : Cursor). UpTo from at) (λ at up. up_to_up_to from chain.next at onward up) (begins_of (chains_in links)) rest.0),
      (
        each-then (λ (at : Cursor). UpTo chain.next at) (λ (at : Cursor). is_same_place chain.at at ≡ false)
            (λ at up. same_sym chain.at at ∙ differs_behind chain.at at (before_up_to chain.at chain.next at h.1 up)) (begins_of (chains_in links)) rest.0,
        rest.1,
      ),
    )

-- the chains of a row begin at distinct places
pub row_spread : (closed : Bool) (slots : List Slot) (chunk_id passed : ℕ) → Spread (begins_of (chains_in (row_of closed chunk_id passed slots)))
row_spread closed slots chunk_id passed =
    (rising_begins (row_of closed chunk_id passed slots) (place chunk_id passed) (rows_rise closed slots chunk_id passed) (row_stops closed slots chunk_id passed)).1
