-- One sequence among those of a buffer, once they have changed.
use Rattle.std.proofs.Common.{◌≡◌, ◌∙◌, ℕ, Bool, true, false, ◌||◌, List, [], ◌∷◌, map, refl, sym, ap}
use Rattle.std.specs.Prelude.{cond, ◌==◌, nat_lt}
use Rattle.std.proofs.lemmas.Bool.{eqb-true, eq-eqb, ne_eqb, or_right, false≢true}
use Rattle.trace_model.specs.Sequences.{Sequence, fresh, IsFresh, sequence_in, is_known, changed_at, is_among, with_number}

module _ (f : Sequence → Sequence) (keeps : (s : Sequence) → (f s).number ≡ s.number) where
  pub sequence_in-map : (ss : List Sequence) (q : ℕ) → is_known ss q ≡ true → sequence_in (map f ss) q ≡ f (sequence_in ss q)
  sequence_in-map [] q h = absurd (false≢true h)
  sequence_in-map (s ∷ ss) q h =
      ap (λ (n : ℕ). cond (n == q) (f s) (sequence_in (map f ss) q)) (keeps s) ∙ step (s.number == q) h (sequence_in-map ss q)
    where
      step : (b : Bool) → (b || is_known ss q) ≡ true → (is_known ss q ≡ true → sequence_in (map f ss) q ≡ f (sequence_in ss q))
          → cond b (f s) (sequence_in (map f ss) q) ≡ f (cond b s (sequence_in ss q))
      step true h k = refl
      step false h k = k h

  pub known-map : (ss : List Sequence) (q : ℕ) → is_known (map f ss) q ≡ is_known ss q
  known-map [] q = refl
  known-map (s ∷ ss) q = ap (λ (n : ℕ). (n == q) || is_known (map f ss) q) (keeps s) ∙ ap (λ (b : Bool). (s.number == q) || b) (known-map ss q)

pub number_of : (ss : List Sequence) (q : ℕ) → is_known ss q ≡ true → (sequence_in ss q).number ≡ q
number_of [] q h = absurd (false≢true h)
number_of (s ∷ ss) q h = step (s.number == q) refl h (number_of ss q)
  where
    step : (b : Bool) → (s.number == q) ≡ b → (b || is_known ss q) ≡ true → (is_known ss q ≡ true → (sequence_in ss q).number ≡ q)
        → (cond b s (sequence_in ss q)).number ≡ q
    step true e h k = eqb-true s.number q e
    step false e h k = k h

-- a change of one sequence, as a change of each
abbrev change_of : ℕ → (Sequence → Sequence) → Sequence → Sequence
change_of q f s = cond (s.number == q) (f s) s

change_keeps : (q : ℕ) (f : Sequence → Sequence) → ((s : Sequence) → (f s).number ≡ s.number) → (s : Sequence) → (change_of q f s).number ≡ s.number
change_keeps q f keeps s = step (s.number == q)
  where
    step : (b : Bool) → (cond b (f s) s).number ≡ s.number
    step true = keeps s
    step false = refl

pub changed_here : (q : ℕ) (f : Sequence → Sequence) → ((s : Sequence) → (f s).number ≡ s.number) → (ss : List Sequence) → is_known ss q ≡ true
    → sequence_in (changed_at q f ss) q ≡ f (sequence_in ss q)
changed_here q f keeps ss h =
    sequence_in-map (change_of q f) (change_keeps q f keeps) ss q h
    ∙ ap (λ (b : Bool). cond b (f (sequence_in ss q)) (sequence_in ss q)) (eq-eqb (sequence_in ss q).number q (number_of ss q h))

pub changed_other : (p q : ℕ) (f : Sequence → Sequence) → ((s : Sequence) → (f s).number ≡ s.number) → (ss : List Sequence) → is_known ss q ≡ true
    → (p ≡ q → ⊥) → sequence_in (changed_at p f ss) q ≡ sequence_in ss q
changed_other p q f keeps ss h differs =
    sequence_in-map (change_of p f) (change_keeps p f keeps) ss q h
    ∙ ap (λ (b : Bool). cond b (f (sequence_in ss q)) (sequence_in ss q))
    (ne_eqb (sequence_in ss q).number p (λ e. differs (sym e ∙ number_of ss q h)))

pub known_changed : (p q : ℕ) (f : Sequence → Sequence) → ((s : Sequence) → (f s).number ≡ s.number) → (ss : List Sequence)
    → is_known (changed_at p f ss) q ≡ is_known ss q
known_changed p q f keeps ss = known-map (change_of p f) (change_keeps p f keeps) ss q

-- numbers among a rising list with one more
-- a number put in is among them, and all others as before
pub among_with : (n i : ℕ) (numbers : List ℕ) → is_among i (with_number n numbers) ≡ ((n == i) || is_among i numbers)
among_with n i [] = refl
among_with n i (k ∷ numbers) = step (nat_lt n k) (n == k) refl (among_with n i numbers)
  where
    twice : (a b : Bool) → (a || b) ≡ (a || (a || b))
    twice true b = refl
    twice false b = refl

    turned : (a b c : Bool) → (a || (b || c)) ≡ (b || (a || c))
    turned true true c = refl
    turned true false c = refl
    turned false true c = refl
    turned false false c = refl

    step : (below same : Bool) → (n == k) ≡ same → is_among i (with_number n numbers) ≡ ((n == i) || is_among i numbers)
        → is_among i (cond below (n ∷ k ∷ numbers) (cond same (k ∷ numbers) (k ∷ with_number n numbers))) ≡ ((n == i) || ((k == i) || is_among i numbers))
    step true same e rest = refl
    step false true e rest = twice (k == i) (is_among i numbers) ∙ ap (λ (x : ℕ). (x == i) || ((k == i) || is_among i numbers)) (sym (eqb-true n k e))
    step false false e rest = ap (λ (b : Bool). (k == i) || b) rest ∙ turned (k == i) (n == i) (is_among i numbers)

pub among_more : (i j : ℕ) (numbers : List ℕ) → is_among i numbers ≡ true → is_among i (with_number j numbers) ≡ true
among_more i j numbers h = among_with j i numbers ∙ or_right (j == i) (is_among i numbers) h

pub among_new : (i : ℕ) (numbers : List ℕ) → is_among i (with_number i numbers) ≡ true
among_new i numbers = among_with i i numbers ∙ ap (λ (b : Bool). b || is_among i numbers) (eq-eqb i i refl)

-- a sequence that is a new one with some first id is one of which nothing has arrived
pub fresh_is : (number size from : ℕ) (state : Sequence) → state ≡ fresh number size from → IsFresh number size state
fresh_is number size from state is = is ∙ ap (λ (s : Sequence). fresh number size s.from) (sym is)
