-- What stands at a place of a list, with others behind it or before it, and a list that begins with another.
use Rattle.std.proofs.Common.{◌≡◌, ◌∙◌, ℕ, zero, suc, ◌+◌, ◌<◌, ◌≤◌, List, [], ◌∷◌, ◌++◌, length, drop, get_or, ap, arith, length-append, refl}
use Rattle.std.specs.Prelude.{slice_get, Some}
use Rattle.std.proofs.lemmas.List.{get_or-append-add}
use Rattle.std.proofs.lemmas.Option.{slice_get_within, slice_get-get_or, get_or_from_slice_get}

-- what stands in a list stands there still with others behind it
pub get_more : {A : Type 0} (xs ys : List A) (i : ℕ) (x : A) → slice_get xs i ≡ Some x → slice_get (xs ++ ys) i ≡ Some x
get_more [] ys i x is = absurd (cc)
get_more (y ∷ xs) ys zero x is = is
get_more (y ∷ xs) ys (suc i) x is = get_more xs ys i x is

-- what stands in a list stands so much later with others before it
pub get_behind : {A : Type 0} (xs ys : List A) (i : ℕ) (y : A) → slice_get ys i ≡ Some y → slice_get (xs ++ ys) (length xs + i) ≡ Some y
get_behind xs ys i y is =
    let low = slice_get_within ys i y is in
    let long = length-append xs ys in
    slice_get-get_or (xs ++ ys) (length xs + i) y (omega (arith, low, long)) ∙ ap (λ x. Some x) (get_or-append-add xs ys i y ∙ get_or_from_slice_get ys i y y is)

-- the first one behind a list
pub get_seam : {A : Type 0} (xs ys : List A) (y : A) → slice_get (xs ++ y ∷ ys) (length xs) ≡ Some y
get_seam [] ys y = refl
get_seam (x ∷ xs) ys y = get_seam xs ys y

-- something stands at each place inside a list
pub some_there : {A : Type 0} (xs : List A) (i : ℕ) → i < length xs → (x : A) × (slice_get xs i ≡ Some x)
some_there [] i inside = absurd (omega (arith, inside))
some_there (x ∷ xs) zero inside = (x, refl)
some_there (x ∷ xs) (suc i) inside = some_there xs i (omega (arith, inside))

-- where one is left in front there was one more
pub one_left : {A : Type 0} (k : ℕ) (xs : List A) (x : A) (rest : List A) → drop k xs ≡ x ∷ rest → (drop (suc k) xs ≡ rest) × (k < length xs)
one_left {A} k [] x rest e = absurd (none k e)
  where
    none : (n : ℕ) → drop n [] ≡ x ∷ rest → ⊥
    none zero e = cc
    none (suc n) e = cc
one_left zero (y ∷ xs) x rest e =
    let same : xs ≡ rest = cc in
    (same, omega arith)
one_left (suc k) (y ∷ xs) x rest e =
    let further = one_left k xs x rest e in
    (further.0, omega (arith, further.1))

-- the same at each place of the shorter one: the longer one begins with it
pub begins : {A : Type 0} (d : A) (front whole : List A) → length front ≤ length whole → ((j : ℕ) → j < length front → get_or whole j d ≡ get_or front j d)
    → (rest : List A) × (whole ≡ front ++ rest)
begins d [] whole short same = (whole, refl)
begins d (x ∷ front) [] short same = absurd (omega (arith, short))
begins {A} d (x ∷ front) (y ∷ whole) short same =
    let more = begins d front whole (omega (arith, short)) (λ j low. same (suc j) (omega (arith, low))) in
    let head : y ≡ x = same 0 (omega arith) in
    (more.0, ap (λ (z : A). z ∷ whole) head ∙ ap (λ (l : List A). x ∷ l) more.1)
