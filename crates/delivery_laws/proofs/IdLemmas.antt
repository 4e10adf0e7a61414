-- The positions of chunks that came in order, from 0 on.
use Rattle.std.proofs.Common.{◌≡◌, ◌∙◌, ℕ, zero, suc, ◌+◌, ◌<◌, ◌≤◌, ◌⊎◌, max, Bool, true, false, ◌||◌, List, [], ◌∷◌, ◌++◌, length, refl, ap, arith, inl, inr, length-append}
use Rattle.std.specs.Prelude.{cond, ◌==◌, nat_lt}
use Rattle.std.proofs.lemmas.Bool.{eq-eqb, ne_eqb, cases_eq, ltb-true, or_left, or_right, or_from}
use Rattle.trace_model.specs.Sequences.{is_among, with_number, first_absent, above_all}

abbrev pub upto : ℕ → List ℕ
upto zero = []
upto (suc n) = upto n ++ n ∷ []

among_last : (i n : ℕ) (numbers : List ℕ) → is_among i (numbers ++ n ∷ []) ≡ (is_among i numbers || (n == i))
among_last i n [] = turned (n == i)
  where
    turned : (b : Bool) → (b || false) ≡ (false || b)
    turned true = refl
    turned false = refl
among_last i n (m ∷ numbers) = ap (λ (b : Bool). (m == i) || b) (among_last i n numbers) ∙ both (m == i) (is_among i numbers) (n == i)
  where
    both : (a b c : Bool) → (a || (b || c)) ≡ ((a || b) || c)
    both true b c = refl
    both false b c = refl

pub among_upto : (i n : ℕ) → i < n → is_among i (upto n) ≡ true
among_upto i zero low = absurd (omega (arith, low))
among_upto i (suc n) low = among_last i n (upto n) ∙ by_case (cases_eq n i) (λ l. among_upto i n l)
  where
    by_case : ((n ≡ i) ⊎ (n ≡ i → ⊥)) → (i < n → is_among i (upto n) ≡ true) → (is_among i (upto n) || (n == i)) ≡ true
    by_case (inl e) k = or_right (is_among i (upto n)) (n == i) (eq-eqb n i e)
    by_case (inr d) k = or_left (is_among i (upto n)) (n == i) (k (grind (arith, low, d)))

pub not_upto : (i n : ℕ) → n ≤ i → is_among i (upto n) ≡ false
not_upto i zero high = refl
not_upto i (suc n) high =
    among_last i n (upto n)
    ∙ or_from (is_among i (upto n)) (n == i) (not_upto i n (omega (arith, high))) (ne_eqb n i (λ e. omega (arith, e, high)))

pub length_upto : (n : ℕ) → length (upto n) ≡ n
length_upto zero = refl
length_upto (suc n) = length-append (upto n) (n ∷ []) ∙ (let e = length_upto n in omega (arith, e))

pub least_upto : (n tries k : ℕ) → k + tries ≡ n → first_absent tries k (upto n) ≡ n
least_upto n zero k e = omega (arith, e)
least_upto n (suc tries) k e =
    ap (λ (b : Bool). cond b (first_absent tries (suc k) (upto n)) k) (among_upto k n (omega (arith, e)))
    ∙ least_upto n tries (suc k) (omega (arith, e))

above_last : (n : ℕ) (numbers : List ℕ) → above_all (numbers ++ n ∷ []) ≡ max (above_all numbers) (suc n)
above_last n [] = omega arith
above_last n (m ∷ numbers) = let e = above_last n numbers in omega (arith, e)

pub above_upto : (n : ℕ) → above_all (upto n) ≡ n
above_upto zero = refl
above_upto (suc n) = above_last n (upto n) ∙ (let e = above_upto n in omega (arith, e))

-- each number is below the bound
abbrev AllBelow : ℕ → List ℕ → Type 0
AllBelow bound [] = Unit {0}
AllBelow bound (n ∷ numbers) = (n < bound) × AllBelow bound numbers

below_last : (bound n : ℕ) (numbers : List ℕ) → AllBelow bound numbers → n < bound → AllBelow bound (numbers ++ n ∷ [])
below_last bound n [] h low = (low, tt)
below_last bound n (m ∷ numbers) h low = (h.0, below_last bound n numbers h.1 low)

below_more : (bound : ℕ) (numbers : List ℕ) → AllBelow bound numbers → AllBelow (suc bound) numbers
below_more bound [] h = tt
below_more bound (m ∷ numbers) h = (omega (arith, h.0), below_more bound numbers h.1)

below_upto : (n : ℕ) → AllBelow n (upto n)
below_upto zero = tt
below_upto (suc n) = below_last (suc n) n (upto n) (below_more n (upto n) (below_upto n)) (omega arith)

put_last : (n : ℕ) (numbers : List ℕ) → AllBelow n numbers → with_number n numbers ≡ numbers ++ n ∷ []
put_last n [] h = refl
put_last n (m ∷ numbers) h =
    by_test (nat_lt n m) refl (put_last n numbers h.1)
  where
    by_test : (b : Bool) → nat_lt n m ≡ b → with_number n numbers ≡ numbers ++ n ∷ [] → cond b (n ∷ m ∷ numbers) (cond (n == m) (m ∷ numbers) (m ∷ with_number n numbers)) ≡ m ∷ (numbers ++ n ∷ [])
    by_test true e rest = absurd (let low = ltb-true n m e in omega (arith, low, h.0))
    by_test false e rest =
        ap (λ (b : Bool). cond b (m ∷ numbers) (m ∷ with_number n numbers)) (ne_eqb n m (λ f. omega (arith, f, h.0)))
        ∙ ap (λ (ns : List ℕ). m ∷ ns) rest

-- the next position is put in
pub put_next : (n : ℕ) → with_number n (upto n) ≡ upto (suc n)
put_next n = put_last n (upto n) (below_upto n)

-- below one above the greatest number there is one at least as great
pub above_among : (i bound : ℕ) (numbers : List ℕ) → ((j : ℕ) → is_among j numbers ≡ true → j ≡ bound) → i < above_all numbers
    → (i ≤ bound) × (is_among bound numbers ≡ true)
above_among i bound [] same low = absurd (omega (arith, low))
above_among i bound (n ∷ numbers) same low =
    let here : n ≡ bound = same n (or_left (n == n) (is_among n numbers) (eq-eqb n n refl)) in (
      by_case (most numbers (λ j h. same j (or_right (n == j) (is_among j numbers) h))) here,
      or_left (n == bound) (is_among bound numbers) (eq-eqb n bound here),
    )
  where
    most : (xs : List ℕ) → ((j : ℕ) → is_among j xs ≡ true → j ≡ bound) → above_all xs ≤ suc bound
    most [] same = omega arith
    most (x ∷ xs) same =
        let here : x ≡ bound = same x (or_left (x == x) (is_among x xs) (eq-eqb x x refl)) in
        let rest = most xs (λ j h. same j (or_right (x == j) (is_among j xs) h)) in
        omega (arith, here, rest)

    by_case : above_all numbers ≤ suc bound → n ≡ bound → i ≤ bound
    by_case rest here = omega (arith, low, rest, here)

pub above_most : (bound : ℕ) (numbers : List ℕ) → ((j : ℕ) → is_among j numbers ≡ true → j ≡ bound) → above_all numbers ≤ suc bound
above_most bound [] same = omega arith
above_most bound (x ∷ xs) same =
    let here : x ≡ bound = same x (or_left (x == x) (is_among x xs) (eq-eqb x x refl)) in
    let rest = above_most bound xs (λ j h. same j (or_right (x == j) (is_among j xs) h)) in
    omega (arith, here, rest)
