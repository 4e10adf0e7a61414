-- Going over the records of a ring: what is left from a place on.
use Rattle.std.proofs.Common.{◌≡◌, ℕ, ◌<◌, ◌≤◌, ◌||◌, Bool, true, false, cond, List, [], ◌∷◌, length, map, Option, Some, None, refl, sym, ap, ◌∙◌, subst, arith, eq-eqb, ne_eqb, true≢false}
use Rattle.std.specs.List.{find, list_any}
use Rattle.std.specs.Option.{option_map}
use Rattle.ring_bytes.specs.Value.{Stored, NoneAt, is_at}
use Rattle.ring_bytes.specs.Walked.{behind, first_place}
use Rattle.trace_buffer.specs.BufferFields.{PlacesOnce}
use Rattle.trace_buffer.proofs.FindLemmas.{none_found}

-- the records from the one at this place on
pub from_place : ℕ → List Stored → List Stored
from_place place [] = []
from_place place (s ∷ ss) = cond (is_at place s) (s ∷ ss) (from_place place ss)

pub left : Option ℕ → List Stored → List Stored
left None ss = []
left (Some place) ss = from_place place ss

pub place_of_first : (Stored → Bool) → List Stored → Option ℕ
place_of_first P ss = option_map (λ (s : Stored). s.at) (find P ss)

none_behind : (place at : ℕ) (ss : List Stored) → NoneAt at ss → NoneAt at (behind place ss)
none_behind place at [] none = tt
none_behind place at (s ∷ ss) none = of (is_at place s) (none_behind place at ss none.1)
  where
    of : (b : Bool) → NoneAt at (behind place ss) → NoneAt at (cond b ss (behind place ss))
    of true rest = none.1
    of false rest = rest

once_behind : (place : ℕ) (ss : List Stored) → PlacesOnce ss → PlacesOnce (behind place ss)
once_behind place [] once = tt
once_behind place (s ∷ ss) once = of (is_at place s) (once_behind place ss once.1)
  where
    of : (b : Bool) → PlacesOnce (behind place ss) → PlacesOnce (cond b ss (behind place ss))
    of true rest = once.1
    of false rest = rest

-- what is found among records of other places isn't in front of them
left_more : (P : Stored → Bool) (s : Stored) (found ss : List Stored) → NoneAt s.at found → left (place_of_first P found) (s ∷ ss) ≡ left (place_of_first P found) ss
unfolding place_of_first left from_place
left_more P s found ss none = of (find P found) refl
  where
    of : (o : Option Stored) → find P found ≡ o → left (option_map (λ (t : Stored). t.at) o) (s ∷ ss) ≡ left (option_map (λ (t : Stored). t.at) o) ss
    of None is = refl
    of (Some t) is =
        ap (λ b. cond b (s ∷ ss) (from_place t.at ss))
        (ne_eqb s.at t.at (λ same. true≢false (sym (eq-eqb t.at s.at (sym same)) ∙ none_found P s.at found t none is)))

-- where only what passes the one test passes the other, nothing is left out
skip_any : (P Q : Stored → Bool) (ss : List Stored) → ((s : Stored) → P s ≡ false → Q s ≡ false) → PlacesOnce ss → list_any Q (left (place_of_first P ss) ss) ≡ list_any Q ss
unfolding place_of_first left from_place
skip_any P Q [] out once = refl
skip_any P Q (s ∷ ss) out once = of (P s) refl (skip_any P Q ss out once.1)
  where
    of : (b : Bool) → P s ≡ b → list_any Q (left (place_of_first P ss) ss) ≡ list_any Q ss → list_any Q (left (option_map (λ (t : Stored). t.at) (cond b (Some s) (find P ss))) (s ∷ ss)) ≡ list_any Q (s ∷ ss)
    of true is rest = ap (λ b. list_any Q (cond b (s ∷ ss) (from_place s.at ss))) (eq-eqb s.at s.at refl)
    of false is rest =
        ap (list_any Q) (left_more P s ss ss once.0) ∙ rest ∙ sym (ap (λ b. b || list_any Q ss) (out s is))

left_behind : (P : Stored → Bool) (place : ℕ) (ss : List Stored) → PlacesOnce ss → left (place_of_first P (behind place ss)) ss ≡ left (place_of_first P (behind place ss)) (behind place ss)
left_behind P place [] once = refl
left_behind P place (s ∷ ss) once = of (is_at place s) (left_behind P place ss once.1)
  where
    of : (b : Bool) → left (place_of_first P (behind place ss)) ss ≡ left (place_of_first P (behind place ss)) (behind place ss) → left (place_of_first P (cond b ss (behind place ss))) (s ∷ ss) ≡ left (place_of_first P (cond b ss (behind place ss))) (cond b ss (behind place ss))
    of true rest = left_more P s ss ss once.0
    of false rest = left_more P s (behind place ss) ss (none_behind place s.at ss once.0) ∙ rest

-- what is left from a record on is the record and what stands behind it
pub left_here : (place : ℕ) (ss : List Stored) (s : Stored) → find (is_at place) ss ≡ Some s → left (Some place) ss ≡ s ∷ behind place ss
unfolding left from_place
left_here place [] s found = absurd (cc)
left_here place (t ∷ ss) s found = of (is_at place t) (left_here place ss s) found
  where
    of : (b : Bool) → (find (is_at place) ss ≡ Some s → from_place place ss ≡ s ∷ behind place ss) → cond b (Some t) (find (is_at place) ss) ≡ Some s → cond b (t ∷ ss) (from_place place ss) ≡ s ∷ cond b ss (behind place ss)
    of true rest is = let here : t ≡ s = cc in ap (λ u. u ∷ ss) here
    of false rest is = rest is

left_short : (o : Option ℕ) (ss : List Stored) → length (left o ss) ≤ length ss
unfolding left from_place
left_short None ss = omega arith
left_short (Some place) [] = omega arith
left_short (Some place) (s ∷ ss) = of (is_at place s) (left_short (Some place) ss)
  where
    of : (b : Bool) → length (from_place place ss) ≤ length ss → length (cond b (s ∷ ss) (from_place place ss)) ≤ length (s ∷ ss)
    of true rest = omega arith
    of false rest = omega arith

-- The steps of a walk over what passes a test

pub any_first : (P Q : Stored → Bool) (next : Option ℕ) (ss : List Stored) → ((s : Stored) → P s ≡ false → Q s ≡ false) → PlacesOnce ss → next ≡ option_map (λ (s : Stored). s.at) (find P ss) → list_any Q ss ≡ list_any Q (left next ss)
unfolding place_of_first
any_first P Q next ss out once is = sym (ap (λ o. list_any Q (left o ss)) is ∙ skip_any P Q ss out once)

pub any_next : (P Q : Stored → Bool) (place : ℕ) (next : Option ℕ) (ss : List Stored) (s : Stored) (b : Bool) → ((t : Stored) → P t ≡ false → Q t ≡ false) → PlacesOnce ss → find (is_at place) ss ≡ Some s → next ≡ option_map (λ (t : Stored). t.at) (find P (behind place ss)) → Q s ≡ false → b ≡ list_any Q (left (Some place) ss) → b ≡ list_any Q (left next ss)
unfolding place_of_first
any_next P Q place next ss s b out once found is not_here told =
    told ∙ ap (list_any Q) (left_here place ss s found)
    ∙ ap (λ d. d || list_any Q (behind place ss)) not_here
    ∙ sym
    (ap (λ o. list_any Q (left o ss)) is
    ∙ ap (list_any Q) (left_behind P place ss once)
    ∙ skip_any P Q (behind place ss) out (once_behind place ss once))

pub any_here : (Q : Stored → Bool) (place : ℕ) (ss : List Stored) (s : Stored) (b : Bool) → find (is_at place) ss ≡ Some s → Q s ≡ true → b ≡ list_any Q (left (Some place) ss) → b ≡ true
any_here Q place ss s b found here told =
    told ∙ ap (list_any Q) (left_here place ss s found) ∙ ap (λ d. d || list_any Q (behind place ss)) here

pub less_left : (P : Stored → Bool) (place : ℕ) (next : Option ℕ) (ss : List Stored) (s : Stored) → PlacesOnce ss → find (is_at place) ss ≡ Some s → next ≡ option_map (λ (t : Stored). t.at) (find P (behind place ss)) → length (left next ss) < length (left (Some place) ss)
unfolding place_of_first
less_left P place next ss s once found is =
    subst (λ (us : List Stored). length us < length (left (Some place) ss)) (sym (ap (λ o. left o ss) is ∙ left_behind P place ss once))
    (subst (λ (us : List Stored). length (left (option_map (λ (t : Stored). t.at) (find P (behind place ss))) (behind place ss)) < length us) (sym (left_here place ss s found))
    (let short = left_short (option_map (λ (t : Stored). t.at) (find P (behind place ss))) (behind place ss) in omega arith))

pub any_map : {X Y : Type 0} (P : Y → Bool) (f : X → Y) (xs : List X) → list_any P (map f xs) ≡ list_any (λ x. P (f x)) xs
any_map P f [] = refl
any_map P f (x ∷ xs) = ap (λ b. P (f x) || b) (any_map P f xs)

pub none_left : (o : Option ℕ) (ss : List Stored) (Q : Stored → Bool) → o ≡ None → list_any Q (left o ss) ≡ false
unfolding left
none_left o ss Q is = ap (λ x. list_any Q (left x ss)) is

-- The steps of a walk over all

first_all : (ss : List Stored) → first_place ss ≡ option_map (λ (s : Stored). s.at) (find (λ s. true) ss)
first_all [] = refl
first_all (s ∷ ss) = refl

all_first : (ss : List Stored) → left (first_place ss) ss ≡ ss
unfolding left from_place
all_first [] = refl
all_first (s ∷ ss) = ap (λ b. cond b (s ∷ ss) (from_place s.at ss)) (eq-eqb s.at s.at refl)

pub all_left : (next : Option ℕ) (ss : List Stored) → next ≡ first_place ss → left next ss ≡ ss
all_left next ss is = ap (λ o. left o ss) is ∙ all_first ss

pub left_next : (place : ℕ) (next : Option ℕ) (ss : List Stored) → PlacesOnce ss → next ≡ first_place (behind place ss) → left next ss ≡ behind place ss
unfolding place_of_first
left_next place next ss once is =
    ap (λ o. left o ss) (is ∙ first_all (behind place ss))
    ∙ left_behind (λ s. true) place ss once
    ∙ ap (λ o. left o (behind place ss)) (sym (first_all (behind place ss)))
    ∙ all_first (behind place ss)

pub left_none : (o : Option ℕ) (ss : List Stored) → o ≡ None → left o ss ≡ []
unfolding left
left_none o ss is = ap (λ x. left x ss) is
