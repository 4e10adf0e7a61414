-- Going over the live records.
use Rattle.std.proofs.Common.{◌≡◌, ℕ, ◌+◌, ◌<◌, ◌≤◌, ◌==◌, Bool, true, false, cond, List, [], ◌∷◌, ◌++◌, length, Option, Some, None, IfSome, IsSome, is_some, refl, sym, ap, ap₂, ◌∙◌, subst, arith, lt-ltb, append_assoc, eq-eqb}
use Rattle.std.specs.List.{find}
use Rattle.std.specs.Option.{option_map}
use Rattle.page_geometry.specs.Sizes.{record_size}
use Rattle.ring_bytes.specs.declared.ring.Ring.TheInside.{Inside}
use Rattle.ring_bytes.specs.Fields.{live_of, ring_view, IsRing}
use Rattle.ring_bytes.specs.Rows.{live_row}
use Rattle.ring_bytes.specs.Value.{Stored, RingValue, stored_at, is_at, dropped_at, NoneAt, OnlyAt, IsMetAt}
use Rattle.ring_bytes.proofs.ListLemmas.{only_found, fewer_without}
use Rattle.ring_bytes.specs.Walked.{first_place, behind, next_behind, IsAlone}
use Rattle.ring_bytes.proofs.RowLemmas.{AllIn, row_none}
use Rattle.ring_bytes.proofs.PlaceLemmas.{at_place}
use Rattle.ring_bytes.proofs.RingLemmas.{IsLive, halves_of, some_of}
use Rattle.ring_bytes.proofs.MetLemmas.{before, rows_of, some_size}

-- the first record before the end of all is the first of all
pub first_is : (lo hi : ℕ) (ss : List Stored) → AllIn lo hi ss → option_map (λ (s : Stored). s.at) (find (before hi) ss) ≡ first_place ss
first_is lo hi [] all = refl
first_is lo hi (s ∷ ss) all =
    let some = some_size s in
    ap (λ b. option_map (λ (t : Stored). t.at) (cond b (Some s) (find (before hi) ss))) (lt-ltb s.at hi (omega (arith, all.1)))

pub first_append : (ss ts : List Stored) → first_place ss ≡ None → first_place (ss ++ ts) ≡ first_place ts
first_append [] ts none = refl
first_append (s ∷ ss) ts none = absurd (cc)

pub first_front : (ss ts : List Stored) (place : ℕ) → first_place ss ≡ Some place → first_place (ss ++ ts) ≡ Some place
first_front [] ts place some = absurd (cc)
first_front (s ∷ ss) ts place some = some

-- behind the record that is alone at a place
behind_split : (place : ℕ) (front rest : List Stored) (s : Stored) → NoneAt place front → s.at ≡ place → behind place (front ++ s ∷ rest) ≡ rest
behind_split place [] rest s none here = ap (λ b. cond b rest (behind place rest)) (eq-eqb s.at place here)
behind_split place (t ∷ front) rest s none here =
    ap (λ b. cond b (front ++ s ∷ rest) (behind place (front ++ s ∷ rest))) none.0 ∙ behind_split place front rest s none.1 here

pub behind_only : (place : ℕ) (ss : List Stored) (s : Stored) (only : OnlyAt place ss s) → behind place ss ≡ only.behind
behind_only place ss s only =
    ap (behind place) only.split ∙ behind_split place only.before only.behind s only.none_before only.here

-- a record of the list is found at its place
found_in : (front rest : List Stored) (s : Stored) → IsSome (find (is_at s.at) (front ++ s ∷ rest))
found_in [] rest s = ap (λ b. is_some (cond b (Some s) (find (is_at s.at) rest))) (eq-eqb s.at s.at refl)
found_in (t ∷ front) rest s = of (t.at == s.at) (found_in front rest s)
  where
    of : (b : Bool) → IsSome (find (is_at s.at) (front ++ s ∷ rest)) → IsSome (cond b (Some t) (find (is_at s.at) (front ++ s ∷ rest)))
    of true later = refl
    of false later = later

alone_in : (a : Inside) (front rest : List Stored) (s : Stored) → IsRing a → live_of a.bytes.items a.next a.reached ≡ front ++ s ∷ rest → IsAlone (ring_view a) s.at
alone_in a front rest s ok split =
    let p = some_of (find (is_at s.at) (live_of a.bytes.items a.next a.reached))
    (subst (λ ss. IsSome (find (is_at s.at) ss)) (sym split) (found_in front rest s)) in
    record {
      stored = p.0;
      alone = (at_place a.bytes.items a.next a.reached a.clear a.front s.at p.0 (halves_of a ok) p.1).only;
    }

-- the first of these records is alone at its place
first_alone : (a : Inside) (front rest : List Stored) → IsRing a → live_of a.bytes.items a.next a.reached ≡ front ++ rest → IfSome (first_place rest) (IsAlone (ring_view a))
first_alone a front [] ok split = tt
first_alone a front (s ∷ rest) ok split = alone_in a front rest s ok split

pub first_of_all : (a : Inside) (v : RingValue) (result : Option ℕ) → ring_view a ≡ v → IsRing a → result ≡ first_place (live_of a.bytes.items a.next a.reached) → IfSome result (IsAlone v)
first_of_all a v result view ok is =
    subst (λ o. IfSome o (IsAlone v)) (sym is)
    (subst (λ (r : RingValue). IfSome (first_place (live_of a.bytes.items a.next a.reached)) (IsAlone r)) view
    (first_alone a [] (live_of a.bytes.items a.next a.reached) ok refl))

pub first_behind_it : (a : Inside) (v : RingValue) (place : ℕ) (result : Option ℕ) → ring_view a ≡ v → IsRing a → (l : IsLive a v place) → result ≡ first_place l.here.only.behind → IfSome result (IsAlone v)
first_behind_it a v place result view ok l is =
    subst (λ o. IfSome o (IsAlone v)) (sym is)
    (subst (λ (r : RingValue). IfSome (first_place l.here.only.behind) (IsAlone r)) view
    (first_alone a (l.here.only.before ++ l.stored ∷ []) l.here.only.behind ok
    (l.here.only.split ∙ sym (append_assoc l.here.only.before (l.stored ∷ []) l.here.only.behind))))

-- what the calls answer

pub next_none : (a : Inside) (v : RingValue) (seen : List ℕ) (place result : Option ℕ) → ring_view a ≡ v → IsRing a → place ≡ None → seen ≡ a.bytes.items → result ≡ first_place (live_row seen a.clear a.reached ++ live_row seen a.front a.next) → (result ≡ next_behind place v.live) × (result ≡ first_place (live_of a.bytes.items a.next a.reached))
next_none a v seen place result view ok none same is =
    let rows = rows_of a ok in
    let all : result ≡ first_place (live_of a.bytes.items a.next a.reached) =
    is
    ∙ ap (λ b. first_place (live_row b a.clear a.reached ++ live_row b a.front a.next)) same
    ∙ ap₂ (λ xs ys. first_place (xs ++ ys)) (sym rows.older_is) (sym rows.newer_is) in
    (all ∙ ap (λ (r : RingValue). first_place r.live) view ∙ ap (λ o. next_behind o v.live) (sym none), all)

pub next_some : (a : Inside) (v : RingValue) (at : ℕ) (place result : Option ℕ) → ring_view a ≡ v → IsRing a → (l : IsLive a v at) → place ≡ Some at → result ≡ first_place l.here.only.behind → result ≡ next_behind place v.live
next_some a v at place result view ok l some is =
    is
    ∙ ap first_place (sym (behind_only at (live_of a.bytes.items a.next a.reached) l.stored l.here.only))
    ∙ ap (λ (r : RingValue). first_place (behind at r.live)) view
    ∙ ap (λ o. next_behind o v.live) (sym some)

-- the two rows behind a record
pub behind_newer : (a : Inside) (v : RingValue) (at to : ℕ) (seen : List ℕ) (result : Option ℕ) → (l : IsLive a v at) → at < a.next → seen ≡ a.bytes.items → to ≡ at + record_size l.here.header.len → result ≡ first_place (live_row seen a.reached a.reached ++ live_row seen to a.next) → result ≡ first_place l.here.only.behind
behind_newer a v at to seen result l before same is walked =
    walked
    ∙ ap (λ b. first_place (live_row b a.reached a.reached ++ live_row b to a.next)) same
    ∙ ap (λ xs. first_place (xs ++ live_row a.bytes.items to a.next)) (row_none a.bytes.items a.reached).1
    ∙ ap (λ n. first_place (live_row a.bytes.items n a.next)) is
    ∙ ap first_place (sym (l.here.in_newer before).1)

pub behind_older : (a : Inside) (v : RingValue) (at to : ℕ) (seen : List ℕ) (result : Option ℕ) → IsRing a → (l : IsLive a v at) → a.next ≤ at → seen ≡ a.bytes.items → to ≡ at + record_size l.here.header.len → result ≡ first_place (live_row seen to a.reached ++ live_row seen a.front a.next) → result ≡ first_place l.here.only.behind
behind_older a v at to seen result ok l above same is walked =
    walked
    ∙ ap (λ b. first_place (live_row b to a.reached ++ live_row b a.front a.next)) same
    ∙ ap (λ xs. first_place (live_row a.bytes.items to a.reached ++ xs)) (sym (rows_of a ok).newer_is)
    ∙ ap (λ n. first_place (live_row a.bytes.items n a.reached ++ live_row a.bytes.items 0 a.next)) is
    ∙ ap first_place (sym (l.here.in_older above).1)

-- A record that is alone at its place is there, as the calls on it ask.

pub alone_found : (v : RingValue) (place : ℕ) → IsAlone v place → IsSome (stored_at v place)
alone_found v place is = ap is_some (only_found place v.live is.stored is.alone)

pub alone_some : (v : RingValue) (found : Option ℕ) → IfSome found (IsAlone v) → (place : ℕ) → found ≡ Some place → IsSome (stored_at v place)
alone_some v None is place none = absurd (cc)
alone_some v (Some at) is place some = let same : at ≡ place = cc in subst (λ n. IsSome (stored_at v n)) same (alone_found v at is)

pub met_found : (v : RingValue) (size place : ℕ) → IsMetAt v size place → IsSome (stored_at v place)
met_found v size place is = ap is_some (only_found place v.live is.stored is.alone)

-- and fewer are left once it is dropped
pub fewer_left : (v : RingValue) (size place : ℕ) → IsMetAt v size place → length (dropped_at v place).live < length v.live
fewer_left v size place is = fewer_without place v.live is.stored is.alone
