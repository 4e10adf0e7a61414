-- Which records a next one meets: those that begin before a limit, among the older ones and among the newer ones.
use Rattle.std.proofs.Common.{◌≡◌, ℕ, ◌+◌, ◌<◌, ◌≤◌, min, Bool, false, nat_lt, List, ◌++◌, length, Option, Some, None, IfSome, refl, sym, ap, ◌∙◌, subst, arith}
use Rattle.std.proofs.lemmas.Bool.Decides.{nat_tests}
use Rattle.std.specs.List.{find}
use Rattle.std.specs.Option.{option_map}
use Rattle.trace_model.specs.Places.{is_met}
use Rattle.ring_bytes.specs.declared.ring.Ring.TheInside.{Inside}
use Rattle.ring_bytes.specs.Fields.{live_of, ring_view, IsRing}
use Rattle.ring_bytes.specs.Rows.{live_row}
use Rattle.ring_bytes.specs.Value.{Stored, RingValue, size_of, meets_stored, next_met_of, IsMetAt}
use Rattle.ring_bytes.proofs.RowLemmas.{AllIn, size_least, row_within, past_row}
use Rattle.ring_bytes.proofs.ListLemmas.{find_front, find_back, find_true, find_none, find_same}
use Rattle.ring_bytes.proofs.PlaceLemmas.{at_found}
use Rattle.ring_bytes.proofs.RingLemmas.{halves_of}

older_fit : (room next n a m : ℕ) → next + n ≤ room → next ≤ a → 0 < m → is_met room next n a m ≡ nat_lt a (next + n)
older_fit room next n a m fit above some = grind (arith, nat_tests)

newer_fit : (room next n a m : ℕ) → next + n ≤ room → a + m ≤ next → is_met room next n a m ≡ false
newer_fit room next n a m fit below = grind (arith, nat_tests)

pub older_over : (room end next n a m : ℕ) → end ≤ room → room < next + n → next ≤ a → a + m ≤ end → 0 < m → is_met room next n a m ≡ nat_lt a end
older_over room end next n a m in_room over above inside some = grind (arith, nat_tests)

newer_over : (room next n a m : ℕ) → room < next + n → a + m ≤ next → 0 < m → is_met room next n a m ≡ nat_lt a (min next n)
newer_over room next n a m over below some = grind (arith, nat_tests)

-- begins before the limit
abbrev pub before : ℕ → Stored → Bool
before limit stored = nat_lt stored.at limit

find_first : (P : Stored → Bool) (ss ts : List Stored) → find P ts ≡ None → find P (ss ++ ts) ≡ find P ss
find_first P ss ts none = of (find P ss) refl
  where
    of : (o : Option Stored) → find P ss ≡ o → find P (ss ++ ts) ≡ find P ss
    of (Some s) is = find_front P ss ts s is ∙ sym is
    of None is = find_back P ss ts is ∙ none ∙ sym is

-- the rows of a ring, and where their records lie
pub record AreRows (a : Inside) : Type 0 where
  pub older : AllIn a.next a.reached (live_row a.bytes.items a.next a.reached)
  pub older_is : live_row a.bytes.items a.next a.reached ≡ live_row a.bytes.items a.clear a.reached
  pub newer : AllIn 0 a.next (live_row a.bytes.items 0 a.next)
  pub newer_is : live_row a.bytes.items 0 a.next ≡ live_row a.bytes.items a.front a.next

pub rows_of : (a : Inside) → IsRing a → AreRows a
rows_of a ok =
    let older = past_row a.bytes.items a.next a.clear a.reached ok.clear in
    let newer = past_row a.bytes.items 0 a.front a.next ok.front in
    record {
      older = row_within a.bytes.items a.next a.reached (omega (arith, ok.whole)) older.0;
      older_is = older.1;
      newer = row_within a.bytes.items 0 a.next (omega (arith, ok.whole, ok.next_in)) newer.0;
      newer_is = newer.1;
    }

pub some_size : (s : Stored) → 0 < size_of s
some_size s = let least = size_least (length s.payload) in omega arith

-- where the next record fits behind the last one
pub found_fit : (a : Inside) (len : ℕ) → IsRing a → a.next + len ≤ a.size → find (meets_stored (ring_view a) len) (live_of a.bytes.items a.next a.reached) ≡ find (before (a.next + len)) (live_row a.bytes.items a.clear a.reached)
found_fit a len ok fit =
    let rows = rows_of a ok in
    let P : Stored → Bool = meets_stored (ring_view a) len in
    let newer : find P (live_row a.bytes.items 0 a.next) ≡ None =
    find_same P (λ s. false) 0 a.next (live_row a.bytes.items 0 a.next) rows.newer
    (λ s above under. newer_fit a.size a.next len s.at (size_of s) fit under)
    ∙ find_none (λ s. false) (live_row a.bytes.items 0 a.next) (λ s. refl) in
    find_first P (live_row a.bytes.items a.next a.reached) (live_row a.bytes.items 0 a.next) newer
    ∙ find_same P (before (a.next + len)) a.next a.reached (live_row a.bytes.items a.next a.reached) rows.older
    (λ s above under. older_fit a.size a.next len s.at (size_of s) fit above (some_size s))
    ∙ ap (find (before (a.next + len))) rows.older_is

-- and where the bytes end before it would
pub found_until : (a : Inside) (len : ℕ) → IsRing a → a.next + len ≤ a.size → find (meets_stored (ring_view a) len) (live_of a.bytes.items a.next a.reached) ≡ find (before (min a.reached (a.next + len))) (live_row a.bytes.items a.clear a.reached)
found_until a len ok fit =
    let rows = rows_of a ok in
    found_fit a len ok fit
    ∙ find_same (before (a.next + len)) (before (min a.reached (a.next + len))) a.next a.reached (live_row a.bytes.items a.clear a.reached)
    (subst (λ ss. AllIn a.next a.reached ss) rows.older_is rows.older)
    (λ s above under. same_limit s under)
  where
    same_limit : (s : Stored) → s.at + size_of s ≤ a.reached → nat_lt s.at (a.next + len) ≡ nat_lt s.at (min a.reached (a.next + len))
    same_limit s under = let some = some_size s in grind (arith, nat_tests)

-- where it doesn't
older_found : (a : Inside) (len : ℕ) → IsRing a → a.size < a.next + len → find (meets_stored (ring_view a) len) (live_row a.bytes.items a.next a.reached) ≡ find (before a.reached) (live_row a.bytes.items a.clear a.reached)
older_found a len ok over =
    let rows = rows_of a ok in
    find_same (meets_stored (ring_view a) len) (before a.reached) a.next a.reached (live_row a.bytes.items a.next a.reached) rows.older
    (λ s above under. older_over a.size a.reached a.next len s.at (size_of s) ok.reached_in over above under (some_size s))
    ∙ ap (find (before a.reached)) rows.older_is

pub newer_found : (a : Inside) (len : ℕ) → IsRing a → a.size < a.next + len → find (meets_stored (ring_view a) len) (live_row a.bytes.items 0 a.next) ≡ find (before (min a.next len)) (live_row a.bytes.items a.front a.next)
newer_found a len ok over =
    let rows = rows_of a ok in
    find_same (meets_stored (ring_view a) len) (before (min a.next len)) 0 a.next (live_row a.bytes.items 0 a.next) rows.newer
    (λ s above under. newer_over a.size a.next len s.at (size_of s) over under (some_size s))
    ∙ ap (find (before (min a.next len))) rows.newer_is

pub found_over_first : (a : Inside) (len : ℕ) (s : Stored) → IsRing a → a.size < a.next + len → find (before a.reached) (live_row a.bytes.items a.clear a.reached) ≡ Some s → find (meets_stored (ring_view a) len) (live_of a.bytes.items a.next a.reached) ≡ Some s
found_over_first a len s ok over found =
    find_front (meets_stored (ring_view a) len) (live_row a.bytes.items a.next a.reached) (live_row a.bytes.items 0 a.next) s (older_found a len ok over ∙ found)

pub found_over_then : (a : Inside) (len : ℕ) → IsRing a → a.size < a.next + len → find (before a.reached) (live_row a.bytes.items a.clear a.reached) ≡ None → find (meets_stored (ring_view a) len) (live_of a.bytes.items a.next a.reached) ≡ find (before (min a.next len)) (live_row a.bytes.items a.front a.next)
found_over_then a len ok over none =
    find_back (meets_stored (ring_view a) len) (live_row a.bytes.items a.next a.reached) (live_row a.bytes.items 0 a.next) (older_found a len ok over ∙ none)
    ∙ newer_found a len ok over

-- What is met is alone at its place.

alone_in : (a : Inside) (len : ℕ) → IsRing a → IfSome (next_met_of (ring_view a) len) (IsMetAt (ring_view a) len)
alone_in a len ok = of (find P (live_of a.bytes.items a.next a.reached)) refl
  where
    P : Stored → Bool
    P = meets_stored (ring_view a) len

    of : (o : Option Stored) → find P (live_of a.bytes.items a.next a.reached) ≡ o → IfSome (option_map (λ (s : Stored). s.at) o) (IsMetAt (ring_view a) len)
    of None is = tt
    of (Some s) is = record {
      stored = s;
      met = find_true P (live_of a.bytes.items a.next a.reached) s is;
      alone = (at_found a.bytes.items a.next a.reached a.clear a.front P s (halves_of a ok) is).only;
    }

pub met_alone : (a : Inside) (v : RingValue) (len : ℕ) (result : Option ℕ) → ring_view a ≡ v → IsRing a → result ≡ next_met_of v len → IfSome result (IsMetAt v len)
met_alone a v len result view ok is =
    subst (λ o. IfSome o (IsMetAt v len)) (sym is)
    (subst (λ (r : RingValue). IfSome (next_met_of r len) (IsMetAt r len)) view (alone_in a len ok))

-- Options of places

pub met_is : (a : Inside) (v : RingValue) (len : ℕ) (found : Option Stored) → ring_view a ≡ v → find (meets_stored (ring_view a) len) (live_of a.bytes.items a.next a.reached) ≡ found → option_map (λ (s : Stored). s.at) found ≡ next_met_of v len
met_is a v len found view is =
    ap (option_map (λ (s : Stored). s.at)) (sym is) ∙ ap (λ (r : RingValue). next_met_of r len) view

pub no_place : (found : Option Stored) → None ≡ option_map (λ (s : Stored). s.at) found → found ≡ None
no_place None is = refl
no_place (Some s) is = absurd (cc)

pub some_place : (found : Option Stored) (place : ℕ) → Some place ≡ option_map (λ (s : Stored). s.at) found → (s : Stored) × (found ≡ Some s) × (s.at ≡ place)
some_place None place is = absurd (cc)
some_place (Some s) place is = let same : s.at ≡ place = cc in (s, refl, same)
