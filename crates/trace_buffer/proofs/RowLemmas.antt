-- The sequences of a buffer: a change of the one with a number is a change at its position.
use Rattle.std.proofs.Common.{◌≡◌, ℕ, zero, suc, ◌<◌, ◌≤◌, ◌==◌, ◌||◌, Bool, true, false, cond, List, [], ◌∷◌, length, get_or, set, refl, sym, ap, ◌∙◌, subst, arith, eq-eqb, ne_eqb, true≢false}
use Rattle.std.proofs.lemmas.Bool.{or_parts}
use Rattle.trace_model.specs.Sequences.{Sequence, is_known, sequence_in, changed_at}
use Rattle.trace_buffer.specs.BufferFields.{NumbersOnce, AllFit}

pub same_item : (rows : List Sequence) (i : ℕ) (d e : Sequence) → i < length rows → get_or rows i d ≡ get_or rows i e
same_item [] i d e in_it = absurd (omega arith)
same_item (s ∷ rows) zero d e in_it = refl
same_item (s ∷ rows) (suc i) d e in_it = same_item rows i d e (omega arith)

changed_none : (number : ℕ) (f : Sequence → Sequence) (rows : List Sequence) → is_known rows number ≡ false → changed_at number f rows ≡ rows
changed_none number f [] none = refl
changed_none number f (s ∷ rows) none =
    let no = or_parts (s.number == number) (is_known rows number) none in
    ap (λ b. cond b (f s) s ∷ changed_at number f rows) no.0 ∙ ap (λ ss. s ∷ ss) (changed_none number f rows no.1)

known_at : (rows : List Sequence) (i : ℕ) (d : Sequence) → i < length rows → is_known rows (get_or rows i d).number ≡ true
known_at [] i d in_it = absurd (omega arith)
known_at (s ∷ rows) zero d in_it = ap (λ b. b || is_known rows s.number) (eq-eqb s.number s.number refl)
known_at (s ∷ rows) (suc i) d in_it = of (s.number == (get_or rows i d).number) (known_at rows i d (omega arith))
  where
    of : (b : Bool) → is_known rows (get_or rows i d).number ≡ true → (b || is_known rows (get_or rows i d).number) ≡ true
    of true is = refl
    of false is = is

pub other_number : (s : Sequence) (rows : List Sequence) (i : ℕ) (d : Sequence) → is_known rows s.number ≡ false → i < length rows → (s.number == (get_or rows i d).number) ≡ false
other_number s rows i d none in_it =
    ne_eqb s.number (get_or rows i d).number
    (λ same. true≢false (sym (known_at rows i d in_it) ∙ ap (is_known rows) (sym same) ∙ none))

changed_once : (rows : List Sequence) (i : ℕ) (d : Sequence) (f : Sequence → Sequence) → NumbersOnce rows → i < length rows → changed_at (get_or rows i d).number f rows ≡ set rows i (f (get_or rows i d))
changed_once [] i d f once in_it = absurd (omega arith)
changed_once (s ∷ rows) zero d f once in_it =
    ap (λ b. cond b (f s) s ∷ changed_at s.number f rows) (eq-eqb s.number s.number refl)
    ∙ ap (λ ss. f s ∷ ss) (changed_none s.number f rows once.0)
changed_once (s ∷ rows) (suc i) d f once in_it =
    ap (λ b. cond b (f s) s ∷ changed_at (get_or rows i d).number f rows) (other_number s rows i d once.0 (omega arith))
    ∙ ap (λ ss. s ∷ ss) (changed_once rows i d f once.1 (omega arith))

pub sequence_at : (rows : List Sequence) (i : ℕ) (d : Sequence) → NumbersOnce rows → i < length rows → sequence_in rows (get_or rows i d).number ≡ get_or rows i d
sequence_at [] i d once in_it = absurd (omega arith)
sequence_at (s ∷ rows) zero d once in_it =
    ap (λ b. cond b s (sequence_in rows s.number)) (eq-eqb s.number s.number refl)
sequence_at (s ∷ rows) (suc i) d once in_it =
    ap (λ b. cond b s (sequence_in rows (get_or rows i d).number)) (other_number s rows i d once.0 (omega arith))
    ∙ sequence_at rows i d once.1 (omega arith)

-- as the calls have it

pub changed_is : (rows : List Sequence) (i number : ℕ) (d e : Sequence) (f : Sequence → Sequence) (new : Sequence) → NumbersOnce rows → i < length rows → (get_or rows i e).number ≡ number → new ≡ f (get_or rows i d) → set rows i new ≡ changed_at number f rows
changed_is rows i number d e f new once in_it number_is is =
    ap (set rows i) is
    ∙ sym (changed_once rows i d f once in_it)
    ∙ ap (λ n. changed_at n f rows) (ap (λ (s : Sequence). s.number) (same_item rows i d e in_it) ∙ number_is)

pub sequence_is : (rows : List Sequence) (i number : ℕ) (d e : Sequence) → NumbersOnce rows → i < length rows → (get_or rows i e).number ≡ number → get_or rows i d ≡ sequence_in rows number
sequence_is rows i number d e once in_it number_is =
    sym (sequence_at rows i d once in_it)
    ∙ ap (sequence_in rows) (ap (λ (s : Sequence). s.number) (same_item rows i d e in_it) ∙ number_is)

pub size_fits : (room capacity number : ℕ) (rows : List Sequence) → AllFit room capacity rows → is_known rows number ≡ true → (sequence_in rows number).size ≤ room
size_fits room capacity number [] fit known = absurd (true≢false (sym known))
size_fits room capacity number (s ∷ rows) fit known = of (s.number == number) (size_fits room capacity number rows fit.2) known
  where
    of : (b : Bool) → (is_known rows number ≡ true → (sequence_in rows number).size ≤ room) → (b || is_known rows number) ≡ true → (cond b s (sequence_in rows number)).size ≤ room
    of true later is = fit.0
    of false later is = later is

-- the sequence that was read at its position
pub row_of : (rows seen : List Sequence) (i number : ℕ) (d e s : Sequence) → NumbersOnce rows → seen ≡ rows → i < length seen → (get_or seen i e).number ≡ number → s ≡ get_or rows i d → s ≡ sequence_in rows number
row_of rows seen i number d e s once same in_it number_is is =
    is
    ∙ sequence_is rows i number d e once (subst (λ (ss : List Sequence). i < length ss) same in_it)
    (ap (λ (ss : List Sequence). (get_or ss i e).number) (sym same) ∙ number_is)
