-- Lists of records, and the one that is at a place.
use Rattle.std.proofs.Common.{◌≡◌, ℕ, ◌+◌, ◌<◌, ◌≤◌, Bool, true, false, not, cond, List, [], ◌∷◌, ◌++◌, length, Some, None, refl, sym, ap, ◌∙◌, arith, length-append, eq-eqb, ne_eqb, sum_by, ◌*◌}
use Rattle.std.proofs.lemmas.List.Sums.{sum_by-cons}
use Rattle.std.specs.List.{find}
use Rattle.ring_bytes.specs.Value.{Stored, size_of, is_at, without_stored, change_at, NoneAt, OnlyAt}
use Rattle.ring_bytes.proofs.RowLemmas.{AllIn, size_least}

-- Finding in two lists

pub find_front : (P : Stored → Bool) (ss ts : List Stored) (s : Stored) → find P ss ≡ Some s → find P (ss ++ ts) ≡ Some s
find_front P [] ts s found = absurd (cc)
find_front P (t ∷ ss) ts s found = of (P t) (find_front P ss ts s) found
  where
    of : (b : Bool) → (find P ss ≡ Some s → find P (ss ++ ts) ≡ Some s) → cond b (Some t) (find P ss) ≡ Some s → cond b (Some t) (find P (ss ++ ts)) ≡ Some s
    of true later is = is
    of false later is = later is

pub find_back : (P : Stored → Bool) (ss ts : List Stored) → find P ss ≡ None → find P (ss ++ ts) ≡ find P ts
find_back P [] ts none = refl
find_back P (t ∷ ss) ts none = of (P t) (find_back P ss ts) none
  where
    of : (b : Bool) → (find P ss ≡ None → find P (ss ++ ts) ≡ find P ts) → cond b (Some t) (find P ss) ≡ None → cond b (Some t) (find P (ss ++ ts)) ≡ find P ts
    of true later is = absurd (cc)
    of false later is = later is

pub find_true : (P : Stored → Bool) (ss : List Stored) (s : Stored) → find P ss ≡ Some s → P s ≡ true
find_true P [] s found = absurd (cc)
find_true P (t ∷ ss) s found = of (P t) refl (find_true P ss s) found
  where
    of : (b : Bool) → P t ≡ b → (find P ss ≡ Some s → P s ≡ true) → cond b (Some t) (find P ss) ≡ Some s → P s ≡ true
    of true is later same = let here : t ≡ s = cc in ap P (sym here) ∙ is
    of false is later same = later same

pub find_none : (P : Stored → Bool) (ss : List Stored) → ((s : Stored) → P s ≡ false) → find P ss ≡ None
find_none P [] no_one = refl
find_none P (s ∷ ss) no_one = ap (λ b. cond b (Some s) (find P ss)) (no_one s) ∙ find_none P ss no_one

-- two tests that agree on records inside a stretch
pub find_same : (P Q : Stored → Bool) (lo hi : ℕ) (ss : List Stored) → AllIn lo hi ss → ((s : Stored) → lo ≤ s.at → s.at + size_of s ≤ hi → P s ≡ Q s) → find P ss ≡ find Q ss
find_same P Q lo hi [] all same = refl
find_same P Q lo hi (s ∷ ss) all same =
    ap (λ b. cond b (Some s) (find P ss)) (same s all.0 all.1) ∙ ap (λ o. cond (Q s) (Some s) o) (find_same P Q lo hi ss all.2 same)

-- where every record would be found and none is, there is none
pub empty_of : (P : Stored → Bool) (lo hi : ℕ) (ss : List Stored) → AllIn lo hi ss → ((s : Stored) → lo ≤ s.at → s.at + size_of s ≤ hi → P s ≡ true) → find P ss ≡ None → ss ≡ []
empty_of P lo hi [] all every none = refl
empty_of P lo hi (s ∷ ss) all every none =
    let found : find P (s ∷ ss) ≡ Some s = ap (λ b. cond b (Some s) (find P ss)) (every s all.0 all.1) in
    absurd (cc)

-- Who is at a place

pub none_at_below : (lo hi place : ℕ) (ss : List Stored) → AllIn lo hi ss → hi ≤ place → NoneAt place ss
none_at_below lo hi place [] all over = tt
none_at_below lo hi place (s ∷ ss) all over =
    let least = size_least (length s.payload) in
    (ne_eqb s.at place (λ same. omega (arith, all.1)), none_at_below lo hi place ss all.2 over)

pub none_at_above : (lo hi place : ℕ) (ss : List Stored) → AllIn lo hi ss → place < lo → NoneAt place ss
none_at_above lo hi place [] all under = tt
none_at_above lo hi place (s ∷ ss) all under = (ne_eqb s.at place (λ same. omega (arith, all.0)), none_at_above lo hi place ss all.2 under)

pub none_at_append : (place : ℕ) (ss ts : List Stored) → NoneAt place ss → NoneAt place ts → NoneAt place (ss ++ ts)
none_at_append place [] ts one two = two
none_at_append place (s ∷ ss) ts one two = (one.0, none_at_append place ss ts one.1 two)

-- The one at a place, dropped or changed

without_none : (place : ℕ) (ss : List Stored) → NoneAt place ss → without_stored place ss ≡ ss
without_none place [] none = refl
without_none place (s ∷ ss) none =
    ap (λ b. cond (not b) (s ∷ without_stored place ss) (without_stored place ss)) none.0
    ∙ ap (λ xs. s ∷ xs) (without_none place ss none.1)

without_split : (place : ℕ) (before behind : List Stored) (s : Stored) → NoneAt place before → NoneAt place behind → s.at ≡ place → without_stored place (before ++ s ∷ behind) ≡ before ++ behind
without_split place [] behind s none others here =
    ap (λ b. cond (not b) (s ∷ without_stored place behind) (without_stored place behind)) (eq-eqb s.at place here)
    ∙ without_none place behind others
without_split place (t ∷ before) behind s none others here =
    ap (λ b. cond (not b) (t ∷ without_stored place (before ++ s ∷ behind)) (without_stored place (before ++ s ∷ behind))) none.0
    ∙ ap (λ xs. t ∷ xs) (without_split place before behind s none.1 others here)

pub without_only : (place : ℕ) (ss : List Stored) (s : Stored) (only : OnlyAt place ss s) → without_stored place ss ≡ only.before ++ only.behind
without_only place ss s only =
    ap (without_stored place) only.split
    ∙ without_split place only.before only.behind s only.none_before only.none_behind only.here

pub change_none : (place : ℕ) (change : Stored → Stored) (ss : List Stored) → NoneAt place ss → change_at place change ss ≡ ss
change_none place change [] none = refl
change_none place change (s ∷ ss) none =
    ap (λ b. cond b (change s) s ∷ change_at place change ss) none.0 ∙ ap (λ xs. s ∷ xs) (change_none place change ss none.1)

change_split : (place : ℕ) (change : Stored → Stored) (before behind : List Stored) (s : Stored) → NoneAt place before → NoneAt place behind → s.at ≡ place → change_at place change (before ++ s ∷ behind) ≡ before ++ change s ∷ behind
change_split place change [] behind s none others here =
    ap (λ b. cond b (change s) s ∷ change_at place change behind) (eq-eqb s.at place here)
    ∙ ap (λ xs. change s ∷ xs) (change_none place change behind others)
change_split place change (t ∷ before) behind s none others here =
    ap (λ b. cond b (change t) t ∷ change_at place change (before ++ s ∷ behind)) none.0
    ∙ ap (λ xs. t ∷ xs) (change_split place change before behind s none.1 others here)

pub change_only : (place : ℕ) (change : Stored → Stored) (ss : List Stored) (s : Stored) (only : OnlyAt place ss s) → change_at place change ss ≡ only.before ++ change s ∷ only.behind
change_only place change ss s only =
    ap (change_at place change) only.split
    ∙ change_split place change only.before only.behind s only.none_before only.none_behind only.here

-- What a caller needs in a loop that drops records

find_split : (place : ℕ) (before behind : List Stored) (s : Stored) → NoneAt place before → s.at ≡ place → find (is_at place) (before ++ s ∷ behind) ≡ Some s
find_split place [] behind s none here = ap (λ b. cond b (Some s) (find (is_at place) behind)) (eq-eqb s.at place here)
find_split place (t ∷ before) behind s none here =
    ap (λ b. cond b (Some t) (find (is_at place) (before ++ s ∷ behind))) none.0 ∙ find_split place before behind s none.1 here

pub only_found : (place : ℕ) (ss : List Stored) (s : Stored) → OnlyAt place ss s → find (is_at place) ss ≡ Some s
only_found place ss s only =
    ap (find (is_at place)) only.split ∙ find_split place only.before only.behind s only.none_before only.here

pub fewer_without : (place : ℕ) (ss : List Stored) (s : Stored) → OnlyAt place ss s → length (without_stored place ss) < length ss
fewer_without place ss s only =
    omega (arith, ap length (without_only place ss s only), length-append only.before only.behind, ap length only.split, length-append only.before (s ∷ only.behind))

-- How many records there can be: each takes a unit at least, or as much as the least of them.

pub few_units : (ss : List Stored) → 16 * length ss ≤ sum_by size_of ss
few_units [] = omega arith
few_units (s ∷ ss) =
    let least = size_least (length s.payload) in
    let rest = few_units ss in
    omega (arith, sum_by-cons size_of s ss)

abbrev pub AllTake : ℕ → List Stored → Type 0
AllTake least [] = Unit {0}
AllTake least (s ∷ ss) = (least ≤ size_of s) × AllTake least ss

pub few_of : (least : ℕ) (ss : List Stored) → AllTake least ss → least * length ss ≤ sum_by size_of ss
few_of least [] all = omega arith
few_of least (s ∷ ss) all =
    let rest = few_of least ss all.1 in
    omega (arith, all.0, sum_by-cons size_of s ss)
