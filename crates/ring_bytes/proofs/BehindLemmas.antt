-- The records behind one that a next record meets.
use Rattle.std.proofs.Common.{◌≡◌, ℕ, ◌+◌, ◌<◌, ◌≤◌, ◌&&◌, min, Bool, true, false, cond, nat_lt, List, [], ◌∷◌, Option, Some, None, IfSome, IsSome, is_some, refl, sym, ap, ap₂, ◌∙◌, subst, arith, eq-eqb, eqb-true}
use Rattle.std.proofs.lemmas.Bool.Decides.{nat_tests}
use Rattle.std.specs.List.{find}
use Rattle.std.specs.Option.{option_map}
use Rattle.std.proofs.lemmas.Bool.{and_parts}
use Rattle.page_geometry.specs.Sizes.{record_size}
use Rattle.trace_model.specs.Places.{is_met}
use Rattle.ring_bytes.specs.declared.header.Header.{Header}
use Rattle.ring_bytes.specs.declared.ring.Ring.TheInside.{Inside}
use Rattle.ring_bytes.specs.Header.{header_at}
use Rattle.ring_bytes.specs.Fields.{live_of, ring_view, IsRing}
use Rattle.ring_bytes.specs.Rows.{IsRow, live_row}
use Rattle.ring_bytes.specs.Value.{Stored, RingValue, size_of, meets_stored, is_at, IsMetAt}
use Rattle.ring_bytes.specs.Walked.{behind, next_met_behind, newer_limit_of}
use Rattle.ring_bytes.proofs.RowLemmas.{row_within}
use Rattle.ring_bytes.proofs.ListLemmas.{find_front, find_back, find_true, find_same}
use Rattle.ring_bytes.proofs.PlaceLemmas.{at_found}
use Rattle.ring_bytes.proofs.RingLemmas.{IsLive, halves_of, some_of}
use Rattle.ring_bytes.proofs.MetLemmas.{before, rows_of, some_size, some_place, no_place}
use Rattle.ring_bytes.proofs.LiveLemmas.{behind_only}

older_limit : (room end next n a m : ℕ) → end ≤ room → next ≤ a → a + m ≤ end → 0 < m → is_met room next n a m ≡ nat_lt a (min end (next + n))
older_limit room end next n a m in_room above inside some = grind (arith, nat_tests)

newer_limit : (room next n a m : ℕ) → next ≤ room → a + m ≤ next → 0 < m → is_met room next n a m ≡ nat_lt a (newer_limit_of next n room)
newer_limit room next n a m low below some = grind (arith, nat_tests)

older_behind : (a : Inside) (len to : ℕ) → IsRing a → a.next ≤ to → IsRow a.bytes.items to a.reached → find (meets_stored (ring_view a) len) (live_row a.bytes.items to a.reached) ≡ find (before (min a.reached (a.next + len))) (live_row a.bytes.items to a.reached)
older_behind a len to ok above is =
    find_same (meets_stored (ring_view a) len) (before (min a.reached (a.next + len))) to a.reached (live_row a.bytes.items to a.reached)
    (row_within a.bytes.items to a.reached (omega (arith, ok.whole)) is)
    (λ s low high. older_limit a.size a.reached a.next len s.at (size_of s) ok.reached_in (omega arith) high (some_size s))

newer_behind : (a : Inside) (len to : ℕ) → IsRing a → IsRow a.bytes.items to a.next → find (meets_stored (ring_view a) len) (live_row a.bytes.items to a.next) ≡ find (before (newer_limit_of a.next len a.size)) (live_row a.bytes.items to a.next)
newer_behind a len to ok is =
    find_same (meets_stored (ring_view a) len) (before (newer_limit_of a.next len a.size)) to a.next (live_row a.bytes.items to a.next)
    (row_within a.bytes.items to a.next (omega (arith, ok.whole, ok.next_in)) is)
    (λ s low high. newer_limit a.size a.next len s.at (size_of s) (omega (arith, ok.next_in, ok.reached_in)) high (some_size s))

newer_all : (a : Inside) (len : ℕ) → IsRing a → find (meets_stored (ring_view a) len) (live_row a.bytes.items 0 a.next) ≡ find (before (newer_limit_of a.next len a.size)) (live_row a.bytes.items a.front a.next)
newer_all a len ok =
    let rows = rows_of a ok in
    find_same (meets_stored (ring_view a) len) (before (newer_limit_of a.next len a.size)) 0 a.next (live_row a.bytes.items 0 a.next) rows.newer
    (λ s low high. newer_limit a.size a.next len s.at (size_of s) (omega (arith, ok.next_in, ok.reached_in)) high (some_size s))
    ∙ ap (find (before (newer_limit_of a.next len a.size))) rows.newer_is

-- what a walk along a row has found
abbrev pub Walked : List ℕ → ℕ → ℕ → ℕ → Option ℕ → Type 0
Walked seen at end limit result = result ≡ option_map (λ (s : Stored). s.at) (find (before limit) (live_row seen at end))

-- where a record ends
pub end_of : (a : Inside) (v : RingValue) (at size : ℕ) (seen : List ℕ) (header : Header) → (l : IsLive a v at) → seen ≡ a.bytes.items → header ≡ header_at seen at → size ≡ record_size header.len → at + size ≡ at + record_size l.here.header.len
end_of a v at size seen header l same read is =
    let header_is : header ≡ l.here.header = read ∙ ap (λ b. header_at b at) same ∙ l.here.there in
    ap (λ n. at + n) (is ∙ ap (λ (h : Header). record_size h.len) header_is)

met_of : (a : Inside) (v : RingValue) (len place : ℕ) (result : Option ℕ) (l : IsLive a v place) → ring_view a ≡ v → result ≡ option_map (λ (s : Stored). s.at) (find (meets_stored (ring_view a) len) l.here.only.behind) → result ≡ next_met_behind v len place
met_of a v len place result l view is =
    is
    ∙ ap (λ ss. option_map (λ (s : Stored). s.at) (find (meets_stored (ring_view a) len) ss))
    (sym (behind_only place (live_of a.bytes.items a.next a.reached) l.stored l.here.only))
    ∙ ap (λ (r : RingValue). next_met_behind r len place) view

pub met_newer : (a : Inside) (v : RingValue) (len place to limit : ℕ) (seen : List ℕ) (result : Option ℕ) (l : IsLive a v place) → ring_view a ≡ v → IsRing a → place < a.next → seen ≡ a.bytes.items → to ≡ place + record_size l.here.header.len → limit ≡ newer_limit_of a.next len a.size → Walked seen to a.next limit result → result ≡ next_met_behind v len place
met_newer a v len place to limit seen result l view ok low same is limit_is walked =
    let end : ℕ = place + record_size l.here.header.len in
    met_of a v len place result l view
    (walked
    ∙ ap (λ b. option_map (λ (s : Stored). s.at) (find (before limit) (live_row b to a.next))) same
    ∙ ap (λ n. option_map (λ (s : Stored). s.at) (find (before limit) (live_row a.bytes.items n a.next))) is
    ∙ ap (λ n. option_map (λ (s : Stored). s.at) (find (before n) (live_row a.bytes.items end a.next))) limit_is
    ∙ ap (option_map (λ (s : Stored). s.at)) (sym (newer_behind a len end ok (l.here.in_newer low).0))
    ∙ ap (λ ss. option_map (λ (s : Stored). s.at) (find (meets_stored (ring_view a) len) ss)) (sym (l.here.in_newer low).1))

older_is : (a : Inside) (len place to limit : ℕ) (seen : List ℕ) (result : Option ℕ) (v : RingValue) (l : IsLive a v place) → IsRing a → a.next ≤ place → seen ≡ a.bytes.items → to ≡ place + record_size l.here.header.len → limit ≡ min a.reached (a.next + len) → Walked seen to a.reached limit result → result ≡ option_map (λ (s : Stored). s.at) (find (meets_stored (ring_view a) len) (live_row a.bytes.items (place + record_size l.here.header.len) a.reached))
older_is a len place to limit seen result v l ok high same is limit_is walked =
    let end : ℕ = place + record_size l.here.header.len in
    walked
    ∙ ap (λ b. option_map (λ (s : Stored). s.at) (find (before limit) (live_row b to a.reached))) same
    ∙ ap (λ n. option_map (λ (s : Stored). s.at) (find (before limit) (live_row a.bytes.items n a.reached))) is
    ∙ ap (λ n. option_map (λ (s : Stored). s.at) (find (before n) (live_row a.bytes.items end a.reached))) limit_is
    ∙ ap (option_map (λ (s : Stored). s.at)) (sym (older_behind a len end ok (omega arith) (l.here.in_older high).0))

pub met_older_first : (a : Inside) (v : RingValue) (len place to limit found : ℕ) (seen : List ℕ) (result : Option ℕ) (l : IsLive a v place) → ring_view a ≡ v → IsRing a → a.next ≤ place → seen ≡ a.bytes.items → to ≡ place + record_size l.here.header.len → limit ≡ min a.reached (a.next + len) → Walked seen to a.reached limit result → result ≡ Some found → Some found ≡ next_met_behind v len place
met_older_first a v len place to limit found seen result l view ok high same is limit_is walked some =
    let end : ℕ = place + record_size l.here.header.len in
    let older : List Stored = live_row a.bytes.items end a.reached in
    let P : Stored → Bool = meets_stored (ring_view a) len in
    let p = some_place (find P older) found (sym some ∙ older_is a len place to limit seen result v l ok high same is limit_is walked) in
    met_of a v len place (Some found) l view
    (ap (λ n. Some n) (sym p.2)
    ∙ ap (option_map (λ (s : Stored). s.at)) (sym (find_front P older (live_row a.bytes.items 0 a.next) p.0 p.1))
    ∙ ap (λ ss. option_map (λ (s : Stored). s.at) (find P ss)) (sym (l.here.in_older high).1))

pub met_older_then : (a : Inside) (v : RingValue) (len place to limit second : ℕ) (seen again : List ℕ) (first result : Option ℕ) (l : IsLive a v place) → ring_view a ≡ v → IsRing a → a.next ≤ place → seen ≡ a.bytes.items → to ≡ place + record_size l.here.header.len → limit ≡ min a.reached (a.next + len) → Walked seen to a.reached limit first → first ≡ None → again ≡ a.bytes.items → second ≡ newer_limit_of a.next len a.size → Walked again a.front a.next second result → result ≡ next_met_behind v len place
met_older_then a v len place to limit second seen again first result l view ok high same is limit_is walked none same_again second_is walked_again =
    let end : ℕ = place + record_size l.here.header.len in
    let older : List Stored = live_row a.bytes.items end a.reached in
    let P : Stored → Bool = meets_stored (ring_view a) len in
    let no = no_place (find P older) (sym none ∙ older_is a len place to limit seen first v l ok high same is limit_is walked) in
    met_of a v len place result l view
    (walked_again
    ∙ ap (λ b. option_map (λ (s : Stored). s.at) (find (before second) (live_row b a.front a.next))) same_again
    ∙ ap (λ n. option_map (λ (s : Stored). s.at) (find (before n) (live_row a.bytes.items a.front a.next))) second_is
    ∙ ap (option_map (λ (s : Stored). s.at)) (sym (newer_all a len ok))
    ∙ ap (option_map (λ (s : Stored). s.at)) (sym (find_back P older (live_row a.bytes.items 0 a.next) no))
    ∙ ap (λ ss. option_map (λ (s : Stored). s.at) (find P ss)) (sym (l.here.in_older high).1))

-- What is met is alone at its place.

some_or : (b : Bool) (s : Stored) (o : Option Stored) → IsSome o → IsSome (cond b (Some s) o)
some_or true s o is = refl
some_or false s o is = is

one : (P : Stored → Bool) (ss : List Stored) (t : Stored) → find P ss ≡ Some t → IsSome (find (λ x. is_at t.at x && P x) ss)
one P [] t found = absurd (cc)
one P (s ∷ ss) t found = of (P s) refl (one P ss t) found
  where
    of : (b : Bool) → P s ≡ b → (find P ss ≡ Some t → IsSome (find (λ x. is_at t.at x && P x) ss)) → cond b (Some s) (find P ss) ≡ Some t → IsSome (cond (is_at t.at s && P s) (Some s) (find (λ x. is_at t.at x && P x) ss))
    of true is later same =
        let here : s ≡ t = cc in
        ap (λ b. is_some (cond b (Some s) (find (λ x. is_at t.at x && P x) ss)))
        (ap₂ (λ x y. x && y) (eq-eqb s.at t.at (ap (λ (u : Stored). u.at) here)) is)
    of false is later same = some_or (is_at t.at s && P s) s (find (λ x. is_at t.at x && P x) ss) (later same)

one_behind : (P : Stored → Bool) (place : ℕ) (ss : List Stored) (t : Stored) → find P (behind place ss) ≡ Some t → IsSome (find (λ x. is_at t.at x && P x) ss)
one_behind P place [] t found = absurd (cc)
one_behind P place (s ∷ ss) t found =
    some_or (is_at t.at s && P s) s (find (λ x. is_at t.at x && P x) ss) (of (is_at place s) (one_behind P place ss t) found)
  where
    of : (b : Bool) → (find P (behind place ss) ≡ Some t → IsSome (find (λ x. is_at t.at x && P x) ss)) → find P (cond b ss (behind place ss)) ≡ Some t → IsSome (find (λ x. is_at t.at x && P x) ss)
    of true later is = one P ss t is
    of false later is = later is

met_in : (a : Inside) (len place : ℕ) → IsRing a → IfSome (next_met_behind (ring_view a) len place) (IsMetAt (ring_view a) len)
met_in a len place ok = of (find P (behind place live)) refl
  where
    P : Stored → Bool
    P = meets_stored (ring_view a) len

    live : List Stored
    live = live_of a.bytes.items a.next a.reached

    of : (o : Option Stored) → find P (behind place live) ≡ o → IfSome (option_map (λ (s : Stored). s.at) o) (IsMetAt (ring_view a) len)
    of None is = tt
    of (Some t) is =
        let Q : Stored → Bool = λ x. is_at t.at x && P x in
        let p = some_of (find Q live) (one_behind P place live t is) in
        let holds = and_parts (is_at t.at p.0) (P p.0) (find_true Q live p.0 p.1) in
        subst (λ n. IsMetAt (ring_view a) len n) (eqb-true p.0.at t.at holds.0)
        record {
          stored = p.0;
          met = holds.1;
          alone = (at_found a.bytes.items a.next a.reached a.clear a.front Q p.0 (halves_of a ok) p.1).only;
        }

pub met_alone_behind : (a : Inside) (v : RingValue) (len place : ℕ) (result : Option ℕ) → ring_view a ≡ v → IsRing a → result ≡ next_met_behind v len place → IfSome result (IsMetAt v len)
met_alone_behind a v len place result view ok is =
    subst (λ o. IfSome o (IsMetAt v len)) (sym is)
    (subst (λ (r : RingValue). IfSome (next_met_behind r len place) (IsMetAt r len)) view (met_in a len place ok))
