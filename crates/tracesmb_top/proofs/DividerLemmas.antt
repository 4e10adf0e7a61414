-- Where an input is divided: the first place at which a line `==` begins, and that this is behind the first line feed with `==` and a
-- line feed behind it, where the input doesn't begin so.
use Rattle.std.proofs.Common.{◌≡◌, ◌∙◌, ℕ, zero, suc, ◌+◌, ◌-◌, ◌<◌, ◌≤◌, nat_eq, Bool, true, false, cond, List, [], ◌∷◌, ◌++◌, Option, Some, None, length, drop, get_or, refl, sym, ap, subst, arith, length-append, append_assoc, ⊎_elim}
use Rattle.std.specs.Prelude.{codes, All}
use Rattle.std.specs.Str.{bytes_eq}
use Rattle.std.proofs.Math.Seq.{get_or-append_seam}
use Rattle.std.proofs.lemmas.Bool.{false≢true, eqb-true, cases_lt, cases_order}
use Rattle.std.proofs.lemmas.List.{append-nil, get_or-append-add, get_or_append_left}
use Rattle.std.proofs.lemmas.List.Elements.{All-nil, All-push}
use Rattle.std.proofs.lemmas.List.Splits.{slice_split_none, slice_split_at}
use Rattle.std.proofs.lemmas.Slice.Eq.{bytes_eq-Decides}
use Rattle.memchr.specs.Find.{Nowhere, IsFirst, OccursAt, FindsNeedle}
use Rattle.scenario_text.specs.Pieces.{pieces}
use Rattle.scenario_text.proofs.PieceLemmas.{HasPiece, has_piece}
use Rattle.tracesmb_top.specs.Checked.{divider_from, divider_of}

-- a line `==` begins at the place
pub record IsDivider (input : List ℕ) (k : ℕ) : Type 0 where
  pub fits : k + 3 ≤ length input
  pub first : get_or input k 0 ≡ 61
  pub second : get_or input (k + 1) 0 ≡ 61
  pub ends : get_or input (k + 2) 0 ≡ 10
  pub begins : (j : ℕ) → j + 1 ≡ k → get_or input j 0 ≡ 10

abbrev pub IsFirstDivider : List ℕ → ℕ → Option ℕ → Type 0
IsFirstDivider input from r = IsFirst (IsDivider input) from (length input) r

-- no line feed is among the bytes
abbrev Free : List ℕ → Type 0
Free line = All (λ b. nat_eq b 10 ≡ false) line

-- a line begins at the place
abbrev Begins : List ℕ → ℕ → Type 0
Begins input at = (j : ℕ) → j + 1 ≡ at → get_or input j 0 ≡ 10

-- ---- first places

-- what holds nowhere up to a place comes first where it does behind that
earlier : (P : ℕ → Type 0) (from at end : ℕ) (r : Option ℕ) → from ≤ at → Nowhere P from at → IsFirst P at end r → IsFirst P from end r
earlier P from at end None on none later = λ k low high p. ⊎_elim (λ before. none k low before p) (λ behind. later k behind high p) (cases_lt k at)
earlier P from at end (Some found) on none later = (
  record {
    low = omega (arith, on, later.0.low);
    high = later.0.high;
    before = λ k low high p. ⊎_elim (λ before. none k low before p) (λ behind. later.0.before k behind high p) (cases_lt k at);
  },
  later.1,
)

pub only_first : (P : ℕ → Type 0) (from end : ℕ) (r s : Option ℕ) → IsFirst P from end r → IsFirst P from end s → r ≡ s
only_first P from end None None a b = refl
only_first P from end None (Some n) a b = absurd (a n b.0.low b.0.high b.1)
only_first P from end (Some m) None a b = absurd (b m a.0.low a.0.high a.1)
only_first P from end (Some m) (Some n) a b =
    ⊎_elim (λ same. ap Some same) (⊎_elim (λ less. absurd (b.0.before m a.0.low less a.1)) (λ more. absurd (a.0.before n b.0.low more b.1))) (cases_order m n)

-- ---- one line

placed : (input done rest : List ℕ) → input ≡ done ++ rest → (j : ℕ) → get_or input (length done + j) 0 ≡ get_or rest j 0
placed input done rest cut j = ap (λ (xs : List ℕ). get_or xs (length done + j) 0) cut ∙ get_or-append-add done rest j 0

-- no line feed stands inside a line
inside_line : (input done line rest : List ℕ) → input ≡ done ++ (line ++ rest) → Free line → (k : ℕ) → length done ≤ k → k < length done + length line
    → get_or input k 0 ≡ 10 → ⊥
inside_line input done line rest cut free k low high is =
    let j : ℕ = k - length done in
    let short : j < length line = omega (arith, low, high) in
    let here : get_or line j 0 ≡ 10 =
    sym (get_or_append_left line rest 0 j short) ∙ sym (placed input done (line ++ rest) cut j) ∙ ap (λ (n : ℕ). get_or input n 0) (omega (arith, low)) ∙ is in
    false≢true (sym (free j 0 short) ∙ ap (λ (b : ℕ). nat_eq b 10) here)

long : (input done line rest : List ℕ) → input ≡ done ++ (line ++ rest) → length input ≡ length done + length line + length rest
long input done line rest cut = omega (arith, ap length cut, length-append done (line ++ rest), length-append line rest)

-- the last piece divides nothing
last_nowhere : (input done line : List ℕ) → input ≡ done ++ (line ++ []) → Free line → Nowhere (IsDivider input) (length done) (length input)
last_nowhere input done line cut free = λ k low high d.
    inside_line input done line [] cut free (k + 2) (omega (arith, low)) (omega (arith, long input done line [] cut, d.fits)) d.ends

-- a line that is no `==` isn't one where it begins
other_line : (input done line rest : List ℕ) → input ≡ done ++ (line ++ (10 ∷ rest)) → Free line → bytes_eq line (codes "==") ≡ false
    → IsDivider input (length done) → ⊥
other_line input done [] rest cut free other d =
    let first : 10 ≡ 61 = sym (placed input done (10 ∷ rest) cut 0) ∙ ap (λ (n : ℕ). get_or input n 0) (omega arith) ∙ d.first in omega (arith, first)
other_line input done (a ∷ []) rest cut free other d =
    let second : 10 ≡ 61 = sym (placed input done (a ∷ 10 ∷ rest) cut 1) ∙ d.second in omega (arith, second)
other_line input done (a ∷ b ∷ []) rest cut free other d =
    let first : a ≡ 61 = sym (placed input done (a ∷ b ∷ 10 ∷ rest) cut 0) ∙ ap (λ (n : ℕ). get_or input n 0) (omega arith) ∙ d.first in
    let second : b ≡ 61 = sym (placed input done (a ∷ b ∷ 10 ∷ rest) cut 1) ∙ d.second in
    let both : a ∷ b ∷ [] ≡ codes "==" = ap (λ (x : ℕ). x ∷ b ∷ []) first ∙ ap (λ (x : ℕ). 61 ∷ x ∷ []) second in
    false≢true (sym other ∙ (bytes_eq-Decides (a ∷ b ∷ []) (codes "==")).1 both)
other_line input done (a ∷ b ∷ c ∷ more) rest cut free other d =
    inside_line input done (a ∷ b ∷ c ∷ more) (10 ∷ rest) cut free (length done + 2) (omega arith) (omega arith) d.ends

-- nor does one begin inside it
line_nowhere : (input done line rest : List ℕ) → input ≡ done ++ (line ++ (10 ∷ rest)) → Free line → bytes_eq line (codes "==") ≡ false
    → Nowhere (IsDivider input) (length done) (length done + length line + 1)
line_nowhere input done line rest cut free other = λ k low high d. ⊎_elim
    (λ same. other_line input done line rest cut free other (subst (IsDivider input) same d))
    (⊎_elim (λ less. omega (arith, less, low))
    (λ more. inside_line input done line (10 ∷ rest) cut free (k - 1) (omega (arith, more)) (omega (arith, more, high)) (d.begins (k - 1) (omega (arith, more)))))
    (cases_order k (length done))

-- a line `==` is one
this_line : (input done line rest : List ℕ) → input ≡ done ++ (line ++ (10 ∷ rest)) → Begins input (length done) → bytes_eq line (codes "==") ≡ true
    → IsDivider input (length done)
this_line input done line rest cut begun same =
    let two : line ≡ codes "==" = (bytes_eq-Decides line (codes "==")).0 same in
    let whole : input ≡ done ++ (61 ∷ 61 ∷ 10 ∷ rest) = cut ∙ ap (λ (l : List ℕ). done ++ (l ++ (10 ∷ rest))) two in
    record {
      fits = omega (arith, ap length whole, length-append done (61 ∷ 61 ∷ 10 ∷ rest));
      first = ap (λ (n : ℕ). get_or input n 0) (omega arith) ∙ placed input done (61 ∷ 61 ∷ 10 ∷ rest) whole 0;
      second = placed input done (61 ∷ 61 ∷ 10 ∷ rest) whole 1;
      ends = placed input done (61 ∷ 61 ∷ 10 ∷ rest) whole 2;
      begins = begun;
    }

-- ---- line after line

divider_last : (at : ℕ) (line : List ℕ) → divider_from at (line ∷ []) ≡ None
unfolding divider_from
divider_last at line = refl

divider_more : (at : ℕ) (line : List ℕ) (others : List (List ℕ)) → HasPiece others
    → divider_from at (line ∷ others) ≡ cond (bytes_eq line (codes "==")) (Some at) (divider_from (at + length line + 1) others)
unfolding divider_from
divider_more at line others some =
    ap (λ (ps : List (List ℕ)). divider_from at (line ∷ ps)) some.are
    ∙ ap (λ (ps : List (List ℕ)). cond (bytes_eq line (codes "==")) (Some at) (divider_from (at + length line + 1) ps)) (sym some.are)

-- a line with its line feed, once what is behind it is known
by_line : (input done line rest : List ℕ) (same : Bool) (later : Option ℕ) → input ≡ done ++ (line ++ (10 ∷ rest)) → Free line → Begins input (length done)
    → bytes_eq line (codes "==") ≡ same → IsFirstDivider input (length done + length line + 1) later
    → IsFirstDivider input (length done) (cond same (Some (length done)) later)
by_line input done line rest true later cut free begun is first =
    let here = this_line input done line rest cut begun is in
    (record { low = omega arith; high = omega (arith, here.fits); before = λ k low high _. absurd (omega (arith, low, high)) }, here)
by_line input done line rest false later cut free begun is first =
    earlier (IsDivider input) (length done) (length done + length line + 1) (length input) later (omega arith) (line_nowhere input done line rest cut free is) first

at_feed : (input done line rest : List ℕ) → input ≡ done ++ (line ++ (10 ∷ rest)) → Free line → Begins input (length done)
    → IsFirstDivider input (length done + length line + 1) (divider_from (length done + length line + 1) (pieces 10 rest))
    → IsFirstDivider input (length done) (divider_from (length done) (pieces 10 (line ++ (10 ∷ rest))))
at_feed input done line rest cut free begun later =
    let cut_off : pieces 10 (line ++ (10 ∷ rest)) ≡ line ∷ pieces 10 rest = slice_split_at (λ b. nat_eq b 10) line 10 rest free refl in
    subst (IsFirstDivider input (length done)) (sym (ap (divider_from (length done)) cut_off ∙ divider_more (length done) line (pieces 10 rest) (has_piece 10 rest)))
    (by_line input done line rest (bytes_eq line (codes "==")) _ cut free begun refl later)

-- what is found from the beginning of a line on, of which some bytes were passed
abbrev Found : List ℕ → List ℕ → List ℕ → List ℕ → Type 0
Found input rest done line = input ≡ done ++ (line ++ rest) → Free line → Begins input (length done)
    → IsFirstDivider input (length done) (divider_from (length done) (pieces 10 (line ++ rest)))

pass_feed : (input done line rest : List ℕ) → ((done line : List ℕ) → Found input rest done line) → Found input (10 ∷ rest) done line
pass_feed input done line rest again cut free begun =
    let passed : List ℕ = done ++ (line ++ 10 ∷ []) in
    let behind : input ≡ passed ++ rest = cut ∙ ap (λ (xs : List ℕ). done ++ xs) (sym (append_assoc line (10 ∷ []) rest)) ∙ sym (append_assoc done (line ++ 10 ∷ []) rest) in
    let count : length passed ≡ length done + length line + 1 = omega (arith, length-append done (line ++ 10 ∷ []), length-append line (10 ∷ [])) in
    let begins : Begins input (length passed) = λ j is.
    ap (λ (n : ℕ). get_or input n 0) (omega (arith, is, count)) ∙ placed input done (line ++ (10 ∷ rest)) cut (length line) ∙ get_or-append_seam line 10 rest 0 in
    at_feed input done line rest cut free begun
    (subst (λ (n : ℕ). IsFirstDivider input n (divider_from n (pieces 10 rest))) count (again passed [] behind (All-nil (λ b. nat_eq b 10 ≡ false)) begins))

by_byte : (input done line rest : List ℕ) (byte : ℕ) (feed : Bool) → nat_eq byte 10 ≡ feed → ((done line : List ℕ) → Found input rest done line)
    → Found input (byte ∷ rest) done line
by_byte input done line rest byte true is again =
    subst (λ (b : ℕ). Found input (b ∷ rest) done line) (sym (eqb-true byte 10 is)) (pass_feed input done line rest again)
by_byte input done line rest byte false is again = λ cut free begun.
    let joined : (line ++ byte ∷ []) ++ rest ≡ line ++ (byte ∷ rest) = append_assoc line (byte ∷ []) rest in
    subst (λ (xs : List ℕ). IsFirstDivider input (length done) (divider_from (length done) (pieces 10 xs))) joined
    (again done (line ++ byte ∷ []) (cut ∙ ap (λ (xs : List ℕ). done ++ xs) (sym joined)) (All-push (λ b. nat_eq b 10 ≡ false) line byte free is) begun)

find_from : (input rest done line : List ℕ) → Found input rest done line
find_from input [] done line = λ cut free begun.
    let one : pieces 10 (line ++ []) ≡ line ∷ [] = ap (pieces 10) (append-nil line) ∙ slice_split_none (λ b. nat_eq b 10) line free in
    subst (IsFirstDivider input (length done)) (sym (ap (divider_from (length done)) one ∙ divider_last (length done) line)) (last_nowhere input done line cut free)
find_from input (byte ∷ rest) done line = by_byte input done line rest byte (nat_eq byte 10) refl (find_from input rest)

divider_starts : (input : List ℕ) → divider_from 0 (pieces 10 input) ≡ divider_of input
unfolding divider_of
divider_starts input = refl

pub divider_first : (input : List ℕ) → IsFirstDivider input 0 (divider_of input)
divider_first input =
    subst (IsFirstDivider input 0) (divider_starts input)
    (find_from input input [] [] refl (All-nil (λ b. nat_eq b 10 ≡ false)) (λ j is. absurd (omega (arith, is))))

-- ---- by a search for four bytes

-- an input that begins with the line
begins_so : (input rest : List ℕ) → input ≡ codes "==\n" ++ rest → IsDivider input 0
begins_so input rest cut = record {
  fits = omega (arith, ap length cut);
  first = placed input [] (codes "==\n" ++ rest) cut 0;
  second = placed input [] (codes "==\n" ++ rest) cut 1;
  ends = placed input [] (codes "==\n" ++ rest) cut 2;
  begins = λ j is. absurd (omega (arith, is));
}

front_is : (input : List ℕ) → IsDivider input 0 → input ≡ codes "==\n" ++ drop 3 input
front_is [] d = absurd (omega (arith, d.fits))
front_is (a ∷ []) d = absurd (omega (arith, d.fits))
front_is (a ∷ b ∷ []) d = absurd (omega (arith, d.fits))
front_is (a ∷ b ∷ c ∷ rest) d =
    let first : a ≡ 61 = d.first in
    let second : b ≡ 61 = d.second in
    let ends : c ≡ 10 = d.ends in
    ap (λ (x : ℕ). x ∷ b ∷ c ∷ rest) first ∙ ap (λ (x : ℕ). 61 ∷ x ∷ c ∷ rest) second ∙ ap (λ (x : ℕ). 61 ∷ 61 ∷ x ∷ rest) ends

-- elsewhere a line feed stands before the line
occurs_before : (input : List ℕ) (k : ℕ) → IsDivider input (k + 1) → OccursAt input (codes "\n==\n") k
occurs_before input k d = record { fits = omega (arith, d.fits); reads = reads }
  where
    reads : (j : ℕ) → j < 4 → get_or input (k + j) 0 ≡ get_or (codes "\n==\n") j 0
    reads zero short = ap (λ (n : ℕ). get_or input n 0) (omega arith) ∙ d.begins k refl
    reads (suc zero) short = d.first
    reads (suc (suc zero)) short = ap (λ (n : ℕ). get_or input n 0) (omega arith) ∙ d.second
    reads (suc (suc (suc zero))) short = ap (λ (n : ℕ). get_or input n 0) (omega arith) ∙ d.ends
    reads (suc (suc (suc (suc j)))) short = absurd (omega (arith, short))

divides_behind : (input : List ℕ) (k : ℕ) → OccursAt input (codes "\n==\n") k → IsDivider input (k + 1)
divides_behind input k o = record {
  fits = omega (arith, o.fits);
  first = o.reads 1 (omega arith);
  second = ap (λ (n : ℕ). get_or input n 0) (omega arith) ∙ o.reads 2 (omega arith);
  ends = ap (λ (n : ℕ). get_or input n 0) (omega arith) ∙ o.reads 3 (omega arith);
  begins = λ j is. ap (λ (n : ℕ). get_or input n 0) (omega (arith, is)) ∙ o.reads 0 (omega arith);
}

-- where the input begins with no such line, none begins up to a place before which the four bytes don't occur
none_so_far : (input : List ℕ) (end : ℕ) → (IsDivider input 0 → ⊥) → Nowhere (OccursAt input (codes "\n==\n")) 0 end → Nowhere (IsDivider input) 0 (end + 1)
none_so_far input end not_first none zero low high d = not_first d
none_so_far input end not_first none (suc k) low high d = none k (omega arith) (omega (arith, high)) (occurs_before input k (subst (IsDivider input) (omega arith) d))

pub divider_front : (input : List ℕ) (starts : Bool) → starts ≡ true → (starts ≡ true → input ≡ codes "==\n" ++ drop 3 input) → Some 0 ≡ divider_of input
divider_front input starts is front =
    let here = begins_so input (drop 3 input) (front is) in
    only_first (IsDivider input) 0 (length input) (Some 0) (divider_of input)
    (record { low = omega arith; high = omega (arith, here.fits); before = λ k low high _. absurd (omega (arith, high)) }, here) (divider_first input)

not_front : (input : List ℕ) (starts : Bool) → starts ≡ false → ((rest : List ℕ) → input ≡ codes "==\n" ++ rest → starts ≡ true) → IsDivider input 0 → ⊥
not_front input starts is front d = false≢true (sym is ∙ front (drop 3 input) (front_is input d))

pub divider_none : (input : List ℕ) (starts : Bool) → starts ≡ false → ((rest : List ℕ) → input ≡ codes "==\n" ++ rest → starts ≡ true)
    → FindsNeedle input (codes "\n==\n") 0 None → None ≡ divider_of input
divider_none input starts is front none =
    only_first (IsDivider input) 0 (length input) None (divider_of input)
    (λ k low high d. none_so_far input (length input + 1) (not_front input starts is front) none k low (omega (arith, high)) d) (divider_first input)

pub divider_behind : (input : List ℕ) (starts : Bool) (at : ℕ) → starts ≡ false → ((rest : List ℕ) → input ≡ codes "==\n" ++ rest → starts ≡ true)
    → FindsNeedle input (codes "\n==\n") 0 (Some at) → Some (at + 1) ≡ divider_of input
divider_behind input starts at is front found =
    let here = divides_behind input at found.1 in
    only_first (IsDivider input) 0 (length input) (Some (at + 1)) (divider_of input)
    (record { low = omega arith; high = omega (arith, here.fits); before = none_so_far input at (not_front input starts is front) found.0.before }, here)
    (divider_first input)
