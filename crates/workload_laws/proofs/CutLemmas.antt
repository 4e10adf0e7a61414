-- Where a text is cut at a byte.
use Rattle.std.proofs.Common.{◌≡◌, ℕ, ◌+◌, ◌%◌, ◌^◌, ◌<◌, ◌==◌, Bool, true, false, not, ◌&&◌, List, [], ◌∷◌, ◌++◌, length, drop, refl, sym, ap, ◌∙◌, arith, append_assoc}
use Rattle.std.specs.List.{position_or_len}
use Rattle.std.specs.Fmt.{decimal}
use Rattle.std.proofs.lemmas.Bool.{and_parts, and_from, not-true, not_from_false, ne_eqb, eq-eqb}
use Rattle.std.proofs.lemmas.Fmt.{decimal_by_steps}
use Rattle.std.proofs.lemmas.List.{drop_at, length_push}
use Rattle.scenario_text.specs.Pieces.{pieces, behind_space}

-- no byte of the text is this one
abbrev pub lacks : ℕ → List ℕ → Bool
lacks c [] = true
lacks c (x ∷ xs) = not (x == c) && lacks c xs

pub lacks-append : (c : ℕ) (a b : List ℕ) → lacks c a ≡ true → lacks c b ≡ true → lacks c (a ++ b) ≡ true
lacks-append c [] b first second = second
lacks-append c (x ∷ a) b first second =
    let parts = and_parts (not (x == c)) (lacks c a) first in
    and_from (not (x == c)) (lacks c (a ++ b)) parts.0 (lacks-append c a b parts.1 second)

differs : (c x : ℕ) → c < x → not (x == c) ≡ true
differs c x below = not_from_false (x == c) (ne_eqb x c (λ same. absurd (omega arith)))

-- no digit is a byte below '0'
pub lacks_decimal : (c n : ℕ) → c < 48 → n < 2 ^ 64 → lacks c (decimal n) ≡ true
lacks_decimal c n low small =
    decimal_by_steps (λ m ds. lacks c ds ≡ true)
    (λ m one. and_from (not (48 + m == c)) true (differs c (48 + m) (omega arith)) refl)
    (λ m ds big before.
    lacks-append c ds ((48 + m % 10) ∷ []) before (and_from (not (48 + m % 10 == c)) true (differs c (48 + m % 10) (omega arith)) refl))
    n small

head_differs : (c x : ℕ) (xs : List ℕ) → lacks c (x ∷ xs) ≡ true → (x == c) ≡ false
head_differs c x xs free = not-true (x == c) (and_parts (not (x == c)) (lacks c xs) free).0

same_test : (c : ℕ) → (c == c) ≡ true
same_test c = eq-eqb c c refl

-- the first piece, and the others
pub pieces-at : (c : ℕ) (xs ys : List ℕ) → lacks c xs ≡ true → pieces c (xs ++ c ∷ ys) ≡ xs ∷ pieces c ys
pieces-at c [] ys free = rw (same_test c) refl
pieces-at c (x ∷ xs) ys free =
    let other : (x == c) ≡ false = head_differs c x xs free in
    let later : pieces c (xs ++ c ∷ ys) ≡ xs ∷ pieces c ys =
    pieces-at c xs ys (and_parts (not (x == c)) (lacks c xs) free).1 in
    rw (other, later) refl

position_at : (c : ℕ) (xs ys : List ℕ) → lacks c xs ≡ true → position_or_len (λ b. b == c) (xs ++ c ∷ ys) ≡ length xs
position_at c [] ys free = rw (same_test c) refl
position_at c (x ∷ xs) ys free =
    let other : (x == c) ≡ false = head_differs c x xs free in
    let later : position_or_len (λ b. b == c) (xs ++ c ∷ ys) ≡ length xs =
    position_at c xs ys (and_parts (not (x == c)) (lacks c xs) free).1 in
    rw (other, later) (omega arith)

-- what stands behind the first space
pub behind_space_at : (xs ys : List ℕ) → lacks 32 xs ≡ true → behind_space (xs ++ 32 ∷ ys) ≡ ys
unfolding behind_space
behind_space_at xs ys free =
    ap (λ (n : ℕ). drop (n + 1) (xs ++ 32 ∷ ys)) (position_at 32 xs ys free)
    ∙ ap (drop (length xs + 1)) (sym (append_assoc xs (32 ∷ []) ys))
    ∙ drop_at (xs ++ 32 ∷ []) ys (length xs + 1) (length_push xs 32)
