-- The order of places in a sequence, and facts about each element of a list.
use Rattle.std.proofs.Common.{◌≡◌, ◌∙◌, Bool, true, false, not, ◌||◌, List, [], ◌∷◌, ◌++◌, map, refl, sym, arith, inl, inr}
use Rattle.std.specs.Prelude.{filter, cond, ◌==◌, IsTrue}
use Rattle.std.specs.List.{list_any}
use Rattle.std.proofs.lemmas.Bool.{and_parts, and_from, eqb-true, eq-eqb, false≢true, false_from_ne_true}
use Rattle.trace_model.specs.Sequences.{Cursor}
use Rattle.trace_model.specs.Causes.{Fixed, is_same_place}
use Rattle.trace_model.specs.RowLaws.{Before, UpTo}
use Rattle.trace_model.specs.CauseLaws.{AreDistinct}

-- each element has the property
abbrev pub Each : {X : Type 0} → (X → Type 0) → List X → Type 0
Each P [] = Unit {0}
Each P (x ∷ xs) = P x × Each P xs

pub each-append : {X : Type 0} (P : X → Type 0) (xs ys : List X) → Each P xs → Each P ys → Each P (xs ++ ys)
each-append P [] ys h k = k
each-append P (x ∷ xs) ys h k = (h.0, each-append P xs ys h.1 k)

pub each-then : {X : Type 0} (P Q : X → Type 0) → ((x : X) → P x → Q x) → (xs : List X) → Each P xs → Each Q xs
each-then P Q f [] h = tt
each-then P Q f (x ∷ xs) h = (f x h.0, each-then P Q f xs h.1)

pub each-filter : {X : Type 0} (P : X → Type 0) (p : X → Bool) (xs : List X) → Each P xs → Each P (filter p xs)
each-filter P p [] h = tt
each-filter {X = X} P p (x ∷ xs) h = step (p x) (each-filter P p xs h.1)
  where
    step : (b : Bool) → Each P (filter p xs) → Each P (cond b (x ∷ filter p xs) (filter p xs))
    step true k = (h.0, k)
    step false k = k

pub each-map : {X Y : Type 0} (P : X → Type 0) (Q : Y → Type 0) (f : X → Y) → ((x : X) → P x → Q (f x)) → (xs : List X) → Each P xs → Each Q (map f xs)
each-map P Q f g [] h = tt
each-map P Q f g (x ∷ xs) h = (g x h.0, each-map P Q f g xs h.1)

-- the order of places
pub up_to_up_to : (a b c : Cursor) → UpTo a b → UpTo b c → UpTo a c
up_to_up_to a b c (inl h) (inl k) = inl (omega (arith, h, k))
up_to_up_to a b c (inl h) (inr k) = inl (omega (arith, h, k.0))
up_to_up_to a b c (inr h) (inl k) = inl (omega (arith, h.0, k))
up_to_up_to a b c (inr h) (inr k) = inr (h.0 ∙ k.0, omega (arith, h.1, k.1))

pub before_up_to : (a b c : Cursor) → Before a b → UpTo b c → Before a c
before_up_to a b c (inl h) (inl k) = inl (omega (arith, h, k))
before_up_to a b c (inl h) (inr k) = inl (omega (arith, h, k.0))
before_up_to a b c (inr h) (inl k) = inl (omega (arith, h.0, k))
before_up_to a b c (inr h) (inr k) = inr (h.0 ∙ k.0, omega (arith, h.1, k.1))

pub before_then : (a b : Cursor) → Before a b → UpTo a b
before_then a b (inl h) = inl h
before_then a b (inr h) = inr (h.0, omega (arith, h.1))

pub same_up_to : (a : Cursor) → UpTo a a
same_up_to a = inr (refl, omega arith)

-- what comes before a place isn't behind it, nor the place itself
pub not_both : (a b : Cursor) → Before a b → UpTo b a → ⊥
not_both a b (inl h) (inl k) = absurd (omega (arith, h, k))
not_both a b (inl h) (inr k) = absurd (omega (arith, h, k.0))
not_both a b (inr h) (inl k) = absurd (omega (arith, h.0, k))
not_both a b (inr h) (inr k) = absurd (omega (arith, h.1, k.1))

pub same_parts : (a b : Cursor) → is_same_place a b ≡ true → (a.chunk_id ≡ b.chunk_id) × (a.passed ≡ b.passed)
same_parts a b h =
    let parts = and_parts (a.chunk_id == b.chunk_id) (a.passed == b.passed) h in
    (eqb-true a.chunk_id b.chunk_id parts.0, eqb-true a.passed b.passed parts.1)

-- a place before another one isn't the same
pub differs_behind : (a b : Cursor) → Before a b → is_same_place b a ≡ false
differs_behind a b h = false_from_ne_true (is_same_place b a) (λ e.
    let same : (b.chunk_id ≡ a.chunk_id) × (b.passed ≡ a.passed) = same_parts b a e in
    not_both a b h (inr (same.0, omega (arith, same.1))))

-- Distinct outcomes

abbrev pub Apart : Fixed → List Fixed → Type 0
Apart f fs = Each (λ (g : Fixed). is_same_place g.at f.at ≡ false) fs

-- each of the first outcomes is apart from all of the second
abbrev pub AllApart : List Fixed → List Fixed → Type 0
AllApart fs gs = Each (λ (g : Fixed). Apart g fs) gs

pub apart_test : (f : Fixed) (fs : List Fixed) → Apart f fs → IsTrue (not (list_any (λ other. is_same_place other.at f.at) fs))
apart_test f [] h = refl
apart_test f (g ∷ gs) h = step (is_same_place g.at f.at) h.0 (apart_test f gs h.1)
  where
    step : (b : Bool) → b ≡ false → IsTrue (not (list_any (λ other. is_same_place other.at f.at) gs)) → IsTrue (not (b || list_any (λ other. is_same_place other.at f.at) gs))
    step true e k = absurd (false≢true (sym e))
    step false e k = k

pub distinct_first : (f : Fixed) (fs : List Fixed) → Apart f fs → AreDistinct fs → AreDistinct (f ∷ fs)
distinct_first f fs h k = (apart_test f fs h, k)

same_turned : (a b : Cursor) → is_same_place a b ≡ false → is_same_place b a ≡ false
same_turned a b h = false_from_ne_true (is_same_place b a) (λ e.
    let same : (b.chunk_id ≡ a.chunk_id) × (b.passed ≡ a.passed) = same_parts b a e in
    false≢true (sym h ∙ and_from (a.chunk_id == b.chunk_id) (a.passed == b.passed) (eq-eqb a.chunk_id b.chunk_id (sym same.0)) (eq-eqb a.passed b.passed (sym same.1))))

-- the first list's outcomes are distinct, the second's too, and each of the second is apart from all of the first
pub distinct-append : (fs gs : List Fixed) → AreDistinct fs → AreDistinct gs → AllApart fs gs → AreDistinct (fs ++ gs)
distinct-append [] gs h k apart = k
distinct-append (f ∷ fs) gs h k apart = (
  joined_test f fs gs h.0 (each-then (λ (g : Fixed). Apart g (f ∷ fs)) (λ (g : Fixed). is_same_place g.at f.at ≡ false) (λ g a. same_turned f.at g.at a.0) gs apart),
  distinct-append fs gs h.1 k (each-then (λ (g : Fixed). Apart g (f ∷ fs)) (λ (g : Fixed). Apart g fs) (λ g a. a.1) gs apart),
)
  where
    joined_test : (f : Fixed) (fs gs : List Fixed) → IsTrue (not (list_any (λ other. is_same_place other.at f.at) fs)) → Apart f gs
        → IsTrue (not (list_any (λ other. is_same_place other.at f.at) (fs ++ gs)))
    joined_test f [] gs h apart = apart_test f gs apart
    joined_test f (g ∷ fs) gs h apart = step (is_same_place g.at f.at) h (joined_test f fs gs)
      where
        step : (b : Bool) → IsTrue (not (b || list_any (λ other. is_same_place other.at f.at) fs))
            → (IsTrue (not (list_any (λ other. is_same_place other.at f.at) fs)) → Apart f gs → IsTrue (not (list_any (λ other. is_same_place other.at f.at) (fs ++ gs))))
            → IsTrue (not (b || list_any (λ other. is_same_place other.at f.at) (fs ++ gs)))
        step true h k = h
        step false h k = k h apart
