-- A ring that turned to its start, and one with a new record.
use Rattle.std.proofs.Common.{◌≡◌, ℕ, ◌+◌, ◌<◌, ◌≤◌, ◌%◌, min, Bool, true, false, cond, nat_lt, List, [], ◌∷◌, ◌++◌, length, take, Option, Some, None, Vec, Global, vec_len, vec_capacity, refl, sym, ap, ap₂, ◌∙◌, subst, arith, append_assoc, append-nil}
use Rattle.std.proofs.lemmas.Bool.Decides.{nat_tests}
use Rattle.std.specs.List.{find}
use Rattle.std.specs.Option.{option_map}
use Rattle.page_geometry.specs.Sizes.{record_size}
use Rattle.trace_model.specs.Places.{place_after, fits}
use Rattle.ring_bytes.specs.declared.key.RecordKey.{RecordKey}
use Rattle.ring_bytes.specs.declared.ring.Ring.TheInside.{Inside}
use Rattle.ring_bytes.specs.Bytes.{SameOutside}
use Rattle.ring_bytes.specs.Fields.{live_of, ring_view, IsRing}
use Rattle.ring_bytes.specs.Rows.{IsRow, IsPast, live_row}
use Rattle.ring_bytes.specs.Value.{Stored, RingValue, size_of, meets_stored, next_met_of, turned, written}
use Rattle.ring_bytes.proofs.RowLemmas.{AllIn, row_none, row_append, row_below, row_above, row_order, row_stays, past_row, past_none}
use Rattle.ring_bytes.proofs.ListLemmas.{find_front, find_back, find_same, empty_of}
use Rattle.ring_bytes.proofs.SliceLemmas.{slice_front}
use Rattle.ring_bytes.proofs.MetLemmas.{before, rows_of, found_fit, no_place, older_over, some_size, newer_found}

-- Turning

pub over_is : (room next size : ℕ) → room < next + size → place_after room next size ≡ 0
over_is room next size over = let no_fit : fits room next size ≡ false = grind (arith, nat_tests) in ap (λ b. cond b next 0) no_fit

none_both : (P : Stored → Bool) (ss ts : List Stored) → find P (ss ++ ts) ≡ None → (find P ss ≡ None) × (find P ts ≡ None)
none_both P ss ts none = of (find P ss) refl
  where
    of : (o : Option Stored) → find P ss ≡ o → (find P ss ≡ None) × (find P ts ≡ None)
    of None is = (is, sym (find_back P ss ts is) ∙ none)
    of (Some s) is = let found = find_front P ss ts s is in absurd (cc)

-- a next record goes to the start, and meets nothing
pub record IsFree (a : Inside) (len : ℕ) : Type 0 where
  pub older : live_row a.bytes.items a.next a.reached ≡ []
  pub newer : find (before (min a.next len)) (live_row a.bytes.items a.front a.next) ≡ None

pub free_of : (a : Inside) (v : RingValue) (len : ℕ) → ring_view a ≡ v → IsRing a → a.size < a.next + len → next_met_of v len ≡ None → IsFree a len
free_of a v len view ok over free =
    let P : Stored → Bool = meets_stored (ring_view a) len in
    let rows = rows_of a ok in
    let none : next_met_of (ring_view a) len ≡ None = ap (λ (r : RingValue). next_met_of r len) view ∙ free in
    let both = none_both P (live_row a.bytes.items a.next a.reached) (live_row a.bytes.items 0 a.next)
    (no_place (find P (live_of a.bytes.items a.next a.reached)) (sym none)) in
    record {
      older =
          empty_of P a.next a.reached (live_row a.bytes.items a.next a.reached) rows.older
          (λ s above under. older_over a.size a.reached a.next len s.at (size_of s) ok.reached_in over above under (some_size s) ∙ before_end a.reached s under)
          both.0;
      newer = sym (newer_found a len ok over) ∙ both.1;
    }
  where
    before_end : (size : ℕ) (s : Stored) → s.at + size_of s ≤ size → nat_lt s.at size ≡ true
    before_end size s under = let some = some_size s in grind arith

pub record IsTurned (a : Inside) (c : List ℕ) (now : Vec ℕ Global) : Type 0 where
  pub ring : IsRing record { size = a.size; reached = a.reached; next = 0; clear = a.front; front = 0; bytes = now }
  pub live : live_of now.items 0 a.reached ≡ live_of a.bytes.items a.next a.reached
  pub newer : live_row now.items a.front a.reached ≡ live_row a.bytes.items a.front a.next

pub turned_of : (a : Inside) (c : List ℕ) (now : Vec ℕ Global) (len : ℕ) → IsRing a → IsFree a len → vec_capacity now ≡ vec_capacity a.bytes → now.items ≡ c → SameOutside a.next a.reached a.bytes.items c → IsRow c a.next a.reached → live_row c a.next a.reached ≡ [] → IsTurned a c now
turned_of a c now len ok free room is same row none =
    let b : List ℕ = a.bytes.items in
    let dead = row_below b c a.next a.reached 0 a.front same (row_order b a.front a.next ok.front.rest) ok.front.dead in
    let kept = row_below b c a.next a.reached a.front a.next same (omega arith) ok.front.rest in
    let rest = row_append c a.front a.next a.reached kept.0 row in
    let past : IsPast c 0 a.front a.reached = record { dead = dead.0; none = dead.1 ∙ ok.front.none; rest = rest.0 } in
    let whole = past_row c 0 a.front a.reached past in
    let newer_is = (past_row b 0 a.front a.next ok.front).1 in
    let empty = row_none c 0 in
    let rest_is : live_row c a.front a.reached ≡ live_row b a.front a.next =
    rest.1 ∙ ap₂ (λ xs ys. xs ++ ys) kept.1 none ∙ append-nil (live_row b a.front a.next) in
    let live : live_of c 0 a.reached ≡ live_of b a.next a.reached =
    ap₂ (λ xs ys. xs ++ ys) (whole.1 ∙ rest_is ∙ sym newer_is) empty.1
    ∙ append-nil (live_row b 0 a.next)
    ∙ sym (ap (λ xs. xs ++ live_row b 0 a.next) free.older) in
    record {
      ring = record {
        small = ok.small;
        reached_in = ok.reached_in;
        whole = ap length is ∙ same.size ∙ ok.whole;
        roomy = omega (arith, ok.roomy);
        next_in = omega arith;
        size_units = ok.size_units;
        reached_units = ok.reached_units;
        next_units = refl;
        clear = subst (λ x. IsPast x 0 a.front a.reached) (sym is) past;
        front = subst (λ x. IsPast x 0 0 0) (sym is) (past_none c 0 0 empty.0);
      };
      live = ap (λ x. live_of x 0 a.reached) is ∙ live;
      newer = ap (λ x. live_row x a.front a.reached) is ∙ rest_is;
    }

pub turned_view : (a : Inside) (v : RingValue) (c : List ℕ) (now : Vec ℕ Global) (len : ℕ) → ring_view a ≡ v → a.size < a.next + len → IsTurned a c now → ring_view record { size = a.size; reached = a.reached; next = 0; clear = a.front; front = 0; bytes = now } ≡ turned v len
turned_view a v c now len view over is =
    let place = over_is a.size a.next len over in
    let there : ring_view record { size = a.size; reached = a.reached; next = 0; clear = a.front; front = 0; bytes = now } ≡ turned (ring_view a) len =
    λ i. record { room = a.size; next = sym place i; live = is.live i } in
    there ∙ ap (λ (r : RingValue). turned r len) view

-- still nothing is met
pub turned_free : (a : Inside) (c : List ℕ) (now : Vec ℕ Global) (len : ℕ) → len ≤ a.size → IsRing a → IsFree a len → IsTurned a c now → next_met_of (ring_view record { size = a.size; reached = a.reached; next = 0; clear = a.front; front = 0; bytes = now }) len ≡ None
turned_free a c now len room ok free is =
    let rows = rows_of a ok in
    let fit : 0 + len ≤ a.size = omega arith in
    let inside = subst (λ ss. AllIn 0 a.next ss) rows.newer_is rows.newer in
    ap (option_map (λ (s : Stored). s.at))
    (found_fit record { size = a.size; reached = a.reached; next = 0; clear = a.front; front = 0; bytes = now } len is.ring fit
    ∙ ap (find (before (0 + len))) is.newer
    ∙ find_same (before (0 + len)) (before (min a.next len)) 0 a.next (live_row a.bytes.items a.front a.next) inside
    (λ s above under. same_limit a.next len s under)
    ∙ free.newer)
  where
    same_limit : (next len : ℕ) (s : Stored) → s.at + size_of s ≤ next → nat_lt s.at (0 + len) ≡ nat_lt s.at (min next len)
    same_limit next len s under = let some = some_size s in grind (arith, nat_tests)

-- Growing

-- there are bytes up to `to`, and the live records are the same
pub record IsGrown (a : Inside) (to : ℕ) (now : Vec ℕ Global) : Type 0 where
  pub ring : IsRing record { size = a.size; reached = to; next = a.next; clear = a.clear; front = a.front; bytes = now }
  pub live : live_of now.items a.next to ≡ live_of a.bytes.items a.next a.reached

pub grown_of : (a : Inside) (to : ℕ) (now : Vec ℕ Global) → IsRing a → a.reached ≤ to → to ≤ a.size → to % 16 ≡ 0 → vec_len now ≡ to → a.size ≤ vec_capacity now → take a.reached now.items ≡ a.bytes.items → IsRow now.items a.reached to → live_row now.items a.reached to ≡ [] → IsGrown a to now
grown_of a to now ok more inside units whole room kept row none =
    let b : List ℕ = a.bytes.items in
    let c : List ℕ = now.items in
    let stays : (lo hi : ℕ) → hi ≤ a.reached → IsRow b lo hi → IsRow c lo hi × (live_row c lo hi ≡ live_row b lo hi) =
    λ lo hi in_old is. row_stays b c lo hi (λ at count above under. slice_front at count a.reached b c (omega arith) kept) is in
    let clear_order = row_order b a.clear a.reached ok.clear.rest in
    let front_order = row_order b a.front a.next ok.front.rest in
    let dead = stays a.next a.clear clear_order ok.clear.dead in
    let front_dead = stays 0 a.front (omega (arith, ok.next_in)) ok.front.dead in
    let older = stays a.next a.reached (omega arith) (past_row b a.next a.clear a.reached ok.clear).0 in
    let longer = row_append c a.next a.reached to older.0 row in
    let newer = stays 0 a.next ok.next_in (past_row b 0 a.front a.next ok.front).0 in
    record {
      ring = record {
        small = ok.small;
        reached_in = inside;
        whole = omega (arith, now.ok.0);
        roomy = room;
        next_in = omega (arith, ok.next_in);
        size_units = ok.size_units;
        reached_units = units;
        next_units = ok.next_units;
        clear = record {
          dead = dead.0;
          none = dead.1 ∙ ok.clear.none;
          rest = (row_append c a.clear a.reached to (stays a.clear a.reached (omega arith) ok.clear.rest).0 row).0;
        };
        front = record { dead = front_dead.0; none = front_dead.1 ∙ ok.front.none; rest = (stays a.front a.next ok.next_in ok.front.rest).0 };
      };
      live =
          ap₂ (λ xs ys. xs ++ ys)
          (longer.1 ∙ ap₂ (λ xs ys. xs ++ ys) older.1 none ∙ append-nil (live_row b a.next a.reached)) newer.1;
    }

pub grown_view : (a : Inside) (v : RingValue) (to : ℕ) (now : Vec ℕ Global) → ring_view a ≡ v → IsGrown a to now → ring_view record { size = a.size; reached = to; next = a.next; clear = a.clear; front = a.front; bytes = now } ≡ v
grown_view a v to now view is =
    let there : ring_view record { size = a.size; reached = to; next = a.next; clear = a.clear; front = a.front; bytes = now } ≡ ring_view a =
    λ i. record { room = a.size; next = a.next; live = is.live i } in
    there ∙ view

-- Writing

pub record IsWritten (a : Inside) (len end : ℕ) (s : Stored) (now : Vec ℕ Global) : Type 0 where
  pub ring : IsRing record { size = a.size; reached = a.reached; next = a.next + len; clear = end; front = a.front; bytes = now }
  pub live : live_of now.items (a.next + len) a.reached ≡ live_of a.bytes.items a.next a.reached ++ s ∷ []

pub written_of : (a : Inside) (c : List ℕ) (now : Vec ℕ Global) (len end : ℕ) (s : Stored) → IsRing a → len % 16 ≡ 0 → a.next + len ≤ end → end ≤ a.reached → IsRow a.bytes.items end a.reached → live_row a.bytes.items end a.reached ≡ live_row a.bytes.items a.clear a.reached → vec_capacity now ≡ vec_capacity a.bytes → now.items ≡ c → SameOutside a.next end a.bytes.items c → IsRow c a.next (a.next + len) → live_row c a.next (a.next + len) ≡ s ∷ [] → IsRow c (a.next + len) end → live_row c (a.next + len) end ≡ [] → IsWritten a len end s now
written_of a c now len end s ok units inside ends row same_live room is same one one_live rest none =
    let b : List ℕ = a.bytes.items in
    let next : ℕ = a.next + len in
    let high = row_above b c a.next end end a.reached same (omega arith) row in
    let front_order = row_order b a.front a.next ok.front.rest in
    let dead = row_below b c a.next end 0 a.front same front_order ok.front.dead in
    let kept = row_below b c a.next end a.front a.next same (omega arith) ok.front.rest in
    let whole_b = past_row b 0 a.front a.next ok.front in
    let whole = row_below b c a.next end 0 a.next same (omega arith) whole_b.0 in
    let more = row_append c a.front a.next next kept.0 one in
    let all = row_append c 0 a.next next whole.0 one in
    let clear : IsPast c next end a.reached = record { dead = rest; none = none; rest = high.0 } in
    let front : IsPast c 0 a.front next = record { dead = dead.0; none = dead.1 ∙ ok.front.none; rest = more.0 } in
    let older : live_row c next a.reached ≡ live_row b a.next a.reached =
    (past_row c next end a.reached clear).1 ∙ high.1 ∙ same_live ∙ sym (past_row b a.next a.clear a.reached ok.clear).1 in
    let newer : live_row c 0 next ≡ live_row b 0 a.next ++ s ∷ [] = all.1 ∙ ap₂ (λ xs ys. xs ++ ys) whole.1 one_live in
    record {
      ring = record {
        small = ok.small;
        reached_in = ok.reached_in;
        whole = ap length is ∙ same.size ∙ ok.whole;
        roomy = omega (arith, ok.roomy);
        next_in = omega arith;
        size_units = ok.size_units;
        reached_units = ok.reached_units;
        next_units = omega (arith, ok.next_units);
        clear = subst (λ x. IsPast x next end a.reached) (sym is) clear;
        front = subst (λ x. IsPast x 0 a.front next) (sym is) front;
      };
      live =
          ap (λ x. live_of x next a.reached) is
          ∙ ap₂ (λ xs ys. xs ++ ys) older newer
          ∙ sym (append_assoc (live_row b a.next a.reached) (live_row b 0 a.next) (s ∷ []));
    }

-- a record is put at the write place
abbrev pub put_behind : RingValue → ℕ → RecordKey → List ℕ → RingValue
put_behind ring len key payload = record ring {
  next = ring.next + len;
  live = ring.live ++ record { at = ring.next; key = key; payload = payload } ∷ [];
}

pub written_view : (a : Inside) (v turn : RingValue) (now : Vec ℕ Global) (len end : ℕ) (key : RecordKey) (payload : List ℕ) → ring_view a ≡ turn → turn ≡ turned v len → len ≡ record_size (length payload) → IsWritten a len end record { at = a.next; key = key; payload = payload } now → ring_view record { size = a.size; reached = a.reached; next = a.next + len; clear = end; front = a.front; bytes = now } ≡ written v key payload
written_view a v turn now len end key payload view is size put =
    let there : ring_view record { size = a.size; reached = a.reached; next = a.next + len; clear = end; front = a.front; bytes = now } ≡ put_behind (ring_view a) len key payload =
    λ i. record { room = a.size; next = a.next + len; live = put.live i } in
    there
    ∙ ap (λ (r : RingValue). put_behind r len key payload) (view ∙ is)
    ∙ ap (λ n. put_behind (turned v n) n key payload) size
