-- Lists in which one element changes: tables of facts on writers and chunks, and lists of chunks.
use Rattle.std.proofs.Common.{◌≡◌, ◌≢◌, ℕ, ◌+◌, ◌<◌, ◌⊎◌, inl, inr, zero, suc, List, [], ◌∷◌, ◌++◌, length, set, get_or, subst, sym, refl, ap, ◌∙◌, arith, ⊎_elim}
use Rattle.std.proofs.lemmas.List.{get_or-set_same, get_or-set_other}
use Rattle.std.proofs.lemmas.Bool.Decides.{nat_tests}
use native.Mathlib.Decide.{ℕ_discrete}
use mathlib.Core.Logic.{dite}
use mathlib.Core.Option.{some-injective, some-ne-none}
use Rattle.chunk_plain.specs.Views.{At}
use Rattle.chunk_plain.specs.Owned.{times}
use Rattle.chunk_plain.specs.Steps.{without}

-- what holds at the changed place and at each other one holds at each place
pub changed : {A : Type 0} (P : A → Type 0) (xs : List A) (w u : ℕ) (a d : A) → w < length xs → (u ≡ w → P a) → (u ≢ w → P (get_or xs u d)) → P (get_or (set xs w a) u d)
changed P xs w u a d inside here other =
    dite (ℕ_discrete u w)
    (λ same. subst P (sym (subst (λ i. get_or (set xs w a) i d ≡ a) (sym same) (get_or-set_same xs w a d inside))) (here same))
    (λ differs. subst P (sym (get_or-set_other xs w u a d differs)) (other differs))

-- a relation between two lists is kept where one element of each changes: the new pair, the rest of its row and the rest of its column
pub matrix : {A B : Type 0} (R : ℕ → A → ℕ → B → Type 0) (xs : List A) (ys : List B) (da : A) (db : B) (w c : ℕ) (a : A) (b : B)
    → w < length xs → c < length ys → ((u d : ℕ) → R u (get_or xs u da) d (get_or ys d db))
    → R w a c b → ((d : ℕ) → d ≢ c → R w (get_or xs w da) d (get_or ys d db) → R w a d (get_or ys d db))
    → ((u : ℕ) → u ≢ w → R u (get_or xs u da) c (get_or ys c db) → R u (get_or xs u da) c b)
    → (u d : ℕ) → R u (get_or (set xs w a) u da) d (get_or (set ys c b) d db)
matrix R xs ys da db w c a b inside_w inside_c all cell row column u d =
    changed
    (λ x. R u x d (get_or (set ys c b) d db))
    xs
    w
    u
    a
    da
    inside_w
    (λ is_w. changed (λ y. R u a d y) ys c d b db inside_c (λ is_c. subst (λ i. R i a d b) (sym is_w) (subst (λ j. R w a j b) (sym is_c) cell))
    (λ not_c. subst (λ i. R i a d (get_or ys d db)) (sym is_w) (row d not_c (all w d))))
    (λ not_w. changed (λ y. R u (get_or xs u da) d y) ys c d b db inside_c (λ is_c. subst (λ j. R u (get_or xs u da) j b) (sym is_c) (column u not_w (all u c)))
    (λ _. all u d))

pub times-first : (x : ℕ) (ys : List ℕ) → times x (x ∷ ys) ≡ times x ys + 1
times-first x ys = grind (arith, nat_tests)

pub times-passed : (x y : ℕ) (ys : List ℕ) → x ≢ y → times x (y ∷ ys) ≡ times x ys
times-passed x y ys differs = grind (arith, nat_tests)

pub times-append : (x y : ℕ) (ys : List ℕ) → times x (ys ++ y ∷ []) ≡ times x ys + times x (y ∷ [])
times-append x y [] = grind (arith, nat_tests)
times-append x y (z ∷ zs) = let tail = times-append x y zs in grind (arith, nat_tests, tail)

pub times-both : (x : ℕ) (xs ys : List ℕ) → times x (xs ++ ys) ≡ times x xs + times x ys
times-both x [] ys = omega arith
times-both x (z ∷ zs) ys = let tail = times-both x zs ys in grind (arith, nat_tests, tail)

pub times-here : (x : ℕ) (ys : List ℕ) → times x (ys ++ x ∷ []) ≡ times x ys + 1
times-here x ys = times-append x x ys ∙ grind (arith, nat_tests)

pub times-other : (x y : ℕ) (ys : List ℕ) → x ≢ y → times x (ys ++ y ∷ []) ≡ times x ys
times-other x y ys differs = times-append x y ys ∙ grind (arith, nat_tests)

pub times-without_same : (x : ℕ) (ys : List ℕ) → 0 < times x ys → times x (without x ys) + 1 ≡ times x ys
times-without_same x [] has = absurd (omega arith)
times-without_same x (y ∷ ys) has =
    dite (ℕ_discrete y x)
    (λ same. grind (arith, nat_tests))
    (λ differs. let less : times x (y ∷ ys) ≡ times x ys = grind (arith, nat_tests) in let tail : times x (without x ys) + 1 ≡ times x ys = times-without_same x ys (subst (λ n. 0 < n) less has) in grind (arith, nat_tests, tail, less))

pub times-without_other : (x y : ℕ) (ys : List ℕ) → x ≢ y → times x (without y ys) ≡ times x ys
times-without_other x y [] differs = refl
times-without_other x y (z ∷ zs) differs =
    let tail = times-without_other x y zs differs in
    dite (ℕ_discrete z y)
    (λ same. grind (arith, nat_tests))
    (λ other. grind (arith, nat_tests, tail))

pub length-without : (x : ℕ) (ys : List ℕ) → 0 < times x ys → length (without x ys) + 1 ≡ length ys
length-without x [] has = absurd (omega arith)
length-without x (y ∷ ys) has =
    dite (ℕ_discrete y x)
    (λ same. grind (arith, nat_tests))
    (λ differs. let less : times x (y ∷ ys) ≡ times x ys = grind (arith, nat_tests) in let tail : length (without x ys) + 1 ≡ length ys = length-without x ys (subst (λ n. 0 < n) less has) in grind (arith, nat_tests, tail, less))

-- lists in which each number stands as often are as long
pub same_many : (xs ys : List ℕ) → ((x : ℕ) → times x xs ≡ times x ys) → length xs ≡ length ys
same_many [] [] same = refl
same_many [] (y ∷ ys) same = absurd (let none = same y in let more = times-first y ys in omega (arith, none, more))
same_many (x ∷ xs) ys same =
    let first : times x (x ∷ xs) ≡ times x xs + 1 = times-first x xs in
    let has : 0 < times x ys = let all = same x in omega (arith, all, first) in
    let rest : length xs ≡ length (without x ys) = same_many xs (without x ys) (λ z.
    dite (ℕ_discrete z x)
    (λ (is : z ≡ x). subst (λ (w : ℕ). times w xs ≡ times w (without x ys)) (sym is)
    (let less = times-without_same x ys has in let all = same x in omega (arith, less, all, first)))
    (λ (differs : z ≢ x). let stays = times-without_other z x ys differs in let all = same z in let passed = times-passed z x xs differs in omega (arith, stays, all, passed))) in
    let less = length-without x ys has in omega (arith, rest, less)

-- an element of a list with one more at its end is an old one, or the new one in the last place
pub at_more : {A : Type 0} (xs : List A) (y x : A) (i : ℕ) → At (xs ++ y ∷ []) i x → At xs i x ⊎ ((i ≡ length xs) × (y ≡ x))
at_more [] y x zero at = inr (refl, some-injective y x at)
at_more [] y x (suc i) at = absurd (some-ne-none x (sym at))
at_more (z ∷ zs) y x zero at = inl at
at_more (z ∷ zs) y x (suc i) at = ⊎_elim (λ old. inl old) (λ new. inr (ap suc new.0, new.1)) (at_more zs y x i at)

-- the first one behind a list
pub at_seam : {A : Type 0} (xs ys : List A) (x : A) → At (xs ++ x ∷ ys) (length xs) x
at_seam [] ys x = refl
at_seam (z ∷ xs) ys x = at_seam xs ys x

-- a place that has an element is inside the list
pub at_inside : {A : Type 0} (xs : List A) (x : A) (i : ℕ) → At xs i x → i < length xs
at_inside [] x i at = absurd (some-ne-none x (sym at))
at_inside (z ∷ zs) x zero at = omega arith
at_inside (z ∷ zs) x (suc i) at = let tail = at_inside zs x i at in omega arith

-- at one place stands one element
pub at_one : {A : Type 0} (xs : List A) (x y : A) (i : ℕ) → At xs i x → At xs i y → x ≡ y
at_one xs x y i one other = some-injective x y (sym one ∙ other)

-- at each place inside stands an element
pub at_some : {A : Type 0} (xs : List A) (i : ℕ) → i < length xs → (x : A) × At xs i x
at_some [] i inside = absurd (omega arith)
at_some (x ∷ xs) zero inside = (x, refl)
at_some (x ∷ xs) (suc i) inside = at_some xs i (omega arith)

-- what stands at a place is what a read there gives
pub at_get : {A : Type 0} (xs : List A) (i : ℕ) (d x : A) → At xs i x → get_or xs i d ≡ x
at_get [] i d x at = absurd (some-ne-none x (sym at))
at_get (z ∷ zs) zero d x at = some-injective z x at
at_get (z ∷ zs) (suc i) d x at = at_get zs i d x at
