-- A ring's fields and its value.
use Rattle.std.proofs.Common.{◌≡◌, ℕ, ◌≤◌, List, length, sum_by, Option, Some, None, IsSome, Vec, Global, vec_capacity, sym, ap, ◌∙◌, subst, true≢false, arith}
use Rattle.std.proofs.lemmas.List.{with_items_is}
use Rattle.std.proofs.lemmas.List.Sums.{sum_by-append}
use Rattle.std.specs.Vec.{with_items}
use Rattle.ring_bytes.specs.declared.ring.Ring.TheInside.{Inside}
use Rattle.ring_bytes.specs.Bytes.{SameOutside}
use Rattle.ring_bytes.specs.Fields.{live_of, ring_view, IsRing}
use Rattle.ring_bytes.specs.Rows.{IsPast, live_row}
use Rattle.ring_bytes.specs.Value.{Stored, RingValue, stored_at, size_of}
use Rattle.ring_bytes.proofs.RowLemmas.{row_few, past_row}
use Rattle.ring_bytes.proofs.PlaceLemmas.{AreHalves, IsAt, at_place}

pub halves_of : (a : Inside) → IsRing a → AreHalves a.bytes.items a.next a.reached a.clear a.front
halves_of a ok = record { whole = ok.whole; next_in = ok.next_in; older = ok.clear; newer = ok.front }

-- the live record that a call is for
pub record IsLive (a : Inside) (v : RingValue) (place : ℕ) : Type 0 where
  pub stored : Stored
  pub found : stored_at v place ≡ Some stored
  pub here : IsAt a.bytes.items a.next a.reached a.clear a.front place stored

pub some_of : {X : Type 0} → (found : Option X) → IsSome found → (x : X) × (found ≡ Some x)
some_of None h = absurd (true≢false (sym h))
some_of (Some x) h = (x, λ i. Some x)

pub live_at : (a : Inside) (v : RingValue) (place : ℕ) → ring_view a ≡ v → IsRing a → IsSome (stored_at v place) → IsLive a v place
live_at a v place view ok some =
    let p = some_of (stored_at v place) some in
    record {
      stored = p.0;
      found = p.1;
      here = at_place a.bytes.items a.next a.reached a.clear a.front place p.0 (halves_of a ok) (ap (λ (r : RingValue). stored_at r place) view ∙ p.1);
    }

-- a ring whose bytes and cursors are new
pub ring_with : (a : Inside) (now : Vec ℕ Global) (c : List ℕ) (clear front : ℕ) → now.items ≡ c → vec_capacity now ≡ vec_capacity a.bytes → IsRing a → AreHalves c a.next a.reached clear front → IsRing record { size = a.size; reached = a.reached; next = a.next; clear = clear; front = front; bytes = now }
ring_with a now c clear front is room ok halves = record {
  small = ok.small;
  reached_in = ok.reached_in;
  whole = ap length is ∙ halves.whole;
  roomy = omega (arith, ok.roomy);
  next_in = ok.next_in;
  size_units = ok.size_units;
  reached_units = ok.reached_units;
  next_units = ok.next_units;
  clear = subst (λ b. IsPast b a.next clear a.reached) (sym is) halves.older;
  front = subst (λ b. IsPast b 0 front a.next) (sym is) halves.newer;
}

-- and the value of it, where the list of live records has changed in this way
pub view_with : (a : Inside) (v : RingValue) (now : Vec ℕ Global) (c : List ℕ) (clear front : ℕ) (change : List Stored → List Stored) → now.items ≡ c → ring_view a ≡ v → live_of c a.next a.reached ≡ change (live_of a.bytes.items a.next a.reached) → ring_view record { size = a.size; reached = a.reached; next = a.next; clear = clear; front = front; bytes = now } ≡ record v { live = change v.live }
view_with a v now c clear front change is view live =
    let same : live_of now.items a.next a.reached ≡ change (live_of a.bytes.items a.next a.reached) =
    ap (λ b. live_of b a.next a.reached) is ∙ live in
    let then : ring_view record { size = a.size; reached = a.reached; next = a.next; clear = clear; front = front; bytes = now } ≡ record { room = a.size; next = a.next; live = change (live_of a.bytes.items a.next a.reached) } =
    λ i. record { room = a.size; next = a.next; live = same i } in
    then ∙ ap (λ (r : RingValue). record r { live = change r.live }) view

-- the vector's elements after a call that wrote through a slice of it
pub items_with : (v : Vec ℕ Global) (b c : List ℕ) (from to : ℕ) → b ≡ v.items → SameOutside from to b c → (with_items v c).items ≡ c
items_with v b c from to is same = with_items_is v c (omega (arith, same.size, ap length is, v.ok.0))

pub same_from : (v : Vec ℕ Global) (b c : List ℕ) (from to : ℕ) → b ≡ v.items → SameOutside from to b c → SameOutside from to v.items c
same_from v b c from to is same = subst (λ x. SameOutside from to x c) is same

-- The live records take no more bytes than there are.
pub few_in : (a : Inside) (v : RingValue) → ring_view a ≡ v → IsRing a → sum_by size_of v.live ≤ v.room
few_in a v view ok =
    let b : List ℕ = a.bytes.items in
    let older = row_few b a.next a.reached (omega (arith, ok.whole)) (past_row b a.next a.clear a.reached ok.clear).0 in
    let newer = row_few b 0 a.next (omega (arith, ok.whole, ok.next_in)) (past_row b 0 a.front a.next ok.front).0 in
    let both = sum_by-append size_of (live_row b a.next a.reached) (live_row b 0 a.next) in
    let few : sum_by size_of (live_of b a.next a.reached) ≤ a.size = omega (arith, ok.reached_in) in
    subst (λ (r : RingValue). sum_by size_of r.live ≤ r.room) view few
