-- How the first piece of a text is found.
use Rattle.std.proofs.Common.{◌≡◌, ℕ, suc, ◌+◌, ◌-◌, ◌<◌, ◌≤◌, length, Bool, true, false, not, cond, nat_eq, nat_lt, Some, None, List, [], ◌∷◌, take, drop, get_or, refl, sym, ap, subst, arith, ◌∙◌, Option, Bor, ◌==◌}
use Rattle.std.specs.List.{after_first, position, position_or_len, slice_split, onto_first}
use Rattle.std.specs.Option.{option_copied, unwrap_or}
use Rattle.std.proofs.lemmas.List.{take_rest, length-drop}
use Rattle.std.proofs.lemmas.List.Splits.{slice_split_first}
use Rattle.std.proofs.lemmas.Grind.{common_steps}
use Rattle.std.proofs.lemmas.Bool.{cond-true, cond-false, false_from_ne_true, lt-ltb, le-ltb}
use Rattle.std.proofs.lemmas.List.Sums.{position_or_len_is}
use Rattle.memchr.specs.Find.{IsFirstByte, is_byte}
use Rattle.scenario_text.specs.Pieces.{pieces, pieces_behind, behind_space, fields_part}

one_more : (p : ℕ → Bool) (b : ℕ) (bytes : List ℕ) (answer : Bool) → p b ≡ answer
    → (length bytes ≤ position_or_len p bytes → slice_split p bytes ≡ bytes ∷ [])
    → length (b ∷ bytes) ≤ position_or_len p (b ∷ bytes) → slice_split p (b ∷ bytes) ≡ (b ∷ bytes) ∷ []
one_more p b bytes true is again far =
    let near : suc (length bytes) ≤ cond (not true) (1 + position_or_len p bytes) 0 =
    subst (λ (v : Bool). suc (length bytes) ≤ cond (not v) (1 + position_or_len p bytes) 0) is far in
    absurd (omega arith)
one_more p b bytes false is again far =
    let near : suc (length bytes) ≤ cond (not false) (1 + position_or_len p bytes) 0 =
    subst (λ (v : Bool). suc (length bytes) ≤ cond (not v) (1 + position_or_len p bytes) 0) is far in
    let others : slice_split p bytes ≡ bytes ∷ [] = again (omega arith) in
    rw is (rw others refl)

-- where no byte passes, there is one piece
one_by_length : (p : ℕ → Bool) (bytes : List ℕ) → length bytes ≤ position_or_len p bytes → slice_split p bytes ≡ bytes ∷ []
one_by_length p [] far = refl
one_by_length p (b ∷ bytes) far = one_more p b bytes (p b) refl (one_by_length p bytes) far

-- what an answer of `position` says of the place
pub place_by : (found : Bool) (at n place : ℕ) → nat_lt place n ≡ found → cond found (Some place) None ≡ Some at
    → (place ≡ at) × (place < n)
place_by true at n place is answer = (cc, grind (arith, common_steps, is))
place_by false at n place is answer = cc

no_place_by : (found : Bool) (n place : ℕ) → nat_lt place n ≡ found → cond found (Some place) None ≡ None → n ≤ place
no_place_by true n place is answer = cc
no_place_by false n place is answer = grind (arith, common_steps, is)

-- the answer of a search for a byte in wide steps
pub first_byte_is : (bytes : List ℕ) (separator : ℕ) (answer : Option ℕ) → IsFirstByte (is_byte separator) bytes answer
    → answer ≡ position (λ b. b == separator) bytes
first_byte_is bytes separator None nowhere =
    let place = position_or_len_is (is_byte separator) bytes (length bytes) 0 (omega arith)
    (λ k inside. false_from_ne_true (is_byte separator (get_or bytes k 0)) (nowhere k (omega arith) inside)) (λ inside. absurd (omega arith)) in
    sym (ap (λ (n : ℕ). cond (nat_lt n (length bytes)) (Some n) None) place ∙ cond-false (nat_lt (length bytes) (length bytes)) _ _ (le-ltb (length bytes) (length bytes) (omega arith)))
first_byte_is bytes separator (Some at) found =
    let place = position_or_len_is (is_byte separator) bytes at 0 (omega (arith, found.0.high))
    (λ k before. false_from_ne_true (is_byte separator (get_or bytes k 0)) (found.0.before k (omega arith) before)) (λ _. found.1) in
    sym (ap (λ (n : ℕ). cond (nat_lt n (length bytes)) (Some n) None) place ∙ cond-true (nat_lt at (length bytes)) _ _ (lt-ltb at (length bytes) found.0.high))

pub one_piece : (separator : ℕ) (bytes : List ℕ) → position (λ b. nat_eq b separator) bytes ≡ None
    → pieces separator bytes ≡ bytes ∷ pieces_behind separator None
unfolding pieces_behind
one_piece separator bytes none =
    let p : ℕ → Bool = λ b. nat_eq b separator in
    one_by_length p bytes (no_place_by _ (length bytes) (position_or_len p bytes) refl none)

pub more_pieces : (separator : ℕ) (bytes : List ℕ) (at : ℕ) → position (λ b. nat_eq b separator) bytes ≡ Some at
    → pieces separator bytes ≡ take at bytes ∷ pieces_behind separator (Some (take (length bytes - (at + 1)) (drop (at + 1) bytes)))
unfolding pieces_behind
more_pieces separator bytes at found =
    let p : ℕ → Bool = λ b. nat_eq b separator in
    let there = place_by _ at (length bytes) (position_or_len p bytes) refl found in
    let first = slice_split_first p bytes 0 there.1 in
    rw (take_rest bytes (at + 1))
    (subst (λ (n : ℕ). slice_split p bytes ≡ take n bytes ∷ slice_split p (drop (n + 1) bytes)) there.0 first)

pub pieces_behind_none : (separator : ℕ) → pieces_behind separator None ≡ []
unfolding pieces_behind
pieces_behind_none separator = refl

pub pieces_behind_some : (separator : ℕ) (behind : List ℕ) → pieces_behind separator (Some behind) ≡ pieces separator behind
unfolding pieces_behind
pieces_behind_some separator behind = refl

-- there is always a piece
pub record HasPiece (all : List (List ℕ)) : Type 0 where
  pub first : List ℕ
  pub others : List (List ℕ)
  pub are : all ≡ first ∷ others

joined_on : (b : ℕ) (all : List (List ℕ)) → HasPiece (onto_first b all)
joined_on b [] = record { first = b ∷ []; others = []; are = refl }
joined_on b (first ∷ others) = record { first = b ∷ first; others = others; are = refl }

by_test : (answer : Bool) (b : ℕ) (all : List (List ℕ)) → HasPiece (cond answer ([] ∷ all) (onto_first b all))
by_test true b all = record { first = []; others = all; are = refl }
by_test false b all = joined_on b all

pub has_piece : (separator : ℕ) (bytes : List ℕ) → HasPiece (pieces separator bytes)
has_piece separator [] = record { first = []; others = []; are = refl }
has_piece separator (b ∷ bytes) = by_test (nat_eq b separator) b (pieces separator bytes)

behind_inside : (line : List ℕ) → length (behind_space line) ≤ length line
unfolding behind_space
behind_inside line = omega (arith, length-drop {A = ℕ})

pub fields_inside : (line : List ℕ) → length (fields_part line) ≤ length line
unfolding fields_part
fields_inside line = omega (arith, behind_inside line, behind_inside (behind_space line))

-- ---- what stands behind the second space, where there are two, one or none

pub no_second : (line : List ℕ) (more : Option (Bor (List ℕ))) → unwrap_or (option_copied more) [] ≡ after_first (λ b. nat_eq b 32) line
    → ((x : Bor (List ℕ)) → more ≡ Some x → ⊥) → [] ≡ fields_part line
unfolding behind_space fields_part
no_second line None behind none = ap (after_first (λ b. nat_eq b 32)) behind
no_second line (Some x) behind none = absurd (none x refl)

pub behind_second : (line : List ℕ) (more again : Option (Bor (List ℕ))) (behind : Bor (List ℕ)) → more ≡ Some behind
    → unwrap_or (option_copied more) [] ≡ after_first (λ b. nat_eq b 32) line
    → unwrap_or (option_copied again) [] ≡ after_first (λ b. nat_eq b 32) behind.now
    → unwrap_or (option_copied again) [] ≡ fields_part line
unfolding behind_space fields_part
behind_second line more again behind is one two =
    two ∙ ap (after_first (λ b. nat_eq b 32))
    (subst (λ (found : Option (Bor (List ℕ))). unwrap_or (option_copied found) [] ≡ after_first (λ b. nat_eq b 32) line) is one)
