-- A ring of which one record was changed in place.
use Rattle.std.proofs.Common.{◌≡◌, ℕ, ◌+◌, List, [], ◌∷◌, length, Option, Some, None, IsSome, IsSomeAnd, refl, sym, ap, ◌∙◌, arith}
use Rattle.std.proofs.lemmas.List.{with_items_is}
use Rattle.std.specs.Option.{option_map}
use Rattle.std.specs.Vec.{with_items}
use Rattle.page_geometry.specs.Sizes.{record_size}
use Rattle.ring_bytes.specs.declared.ring.Ring.TheInside.{Inside}
use Rattle.ring_bytes.specs.Fields.{ring_view, IsRing}
use Rattle.ring_bytes.specs.Value.{Stored, RingValue, size_of, change_at, changed_at}
use Rattle.ring_bytes.proofs.RowLemmas.{size_least, length_slice}
use Rattle.ring_bytes.proofs.RingLemmas.{IsLive, ring_with, view_with}
use Rattle.ring_bytes.proofs.ChangeLemmas.{IsNow, changed_list}

pub record IsChangedRing (a : Inside) (v : RingValue) (place : ℕ) (change : Stored → Stored) (c : List ℕ) : Type 0 where
  pub ring : IsRing record { size = a.size; reached = a.reached; next = a.next; clear = a.clear; front = a.front; bytes = with_items a.bytes c }
  pub view : ring_view record { size = a.size; reached = a.reached; next = a.next; clear = a.clear; front = a.front; bytes = with_items a.bytes c } ≡ changed_at v place change

pub changed_ring : (a : Inside) (v : RingValue) (place : ℕ) (change : Stored → Stored) (c : List ℕ) → (l : IsLive a v place) → ring_view a ≡ v → IsRing a → IsNow a.bytes.items c place (record_size l.here.header.len) (change l.stored ∷ []) → IsChangedRing a v place change c
changed_ring a v place change c l view ok now =
    let items : (with_items a.bytes c).items ≡ c = with_items_is a.bytes c (omega (arith, now.same.size, a.bytes.ok.0)) in
    let list = changed_list a.bytes.items c a.next a.reached a.clear a.front place l.stored change l.here now in
    record {
      ring = ring_with a (with_items a.bytes c) c a.clear a.front items refl ok list.0;
      view = view_with a v (with_items a.bytes c) c a.clear a.front (change_at place change) items view list.1;
    }

-- a live record's payload is as long as its header says
pub payload_long : (a : Inside) (v : RingValue) (place : ℕ) (l : IsLive a v place) → IsRing a → length l.stored.payload ≡ l.here.header.len
payload_long a v place l ok =
    let least = size_least l.here.header.len in
    ap (λ (s : Stored). length s.payload) (sym l.here.is)
    ∙ length_slice (place + 16) l.here.header.len a.bytes.items (omega (arith, ok.whole, l.here.inside))

-- What the conditions of these calls say

pub some_is : (found : Option Stored) (P : Stored → Type 0) → IsSomeAnd found P → IsSome found
some_is None P has = absurd has
some_is (Some x) P has = refl

pub mapped_is : (found : Option Stored) (size : ℕ) → option_map size_of found ≡ Some size → IsSome found
mapped_is None size has = absurd (cc)
mapped_is (Some x) size has = refl

pub mapped_same : (found : Option Stored) (s : Stored) (size : ℕ) → found ≡ Some s → option_map size_of found ≡ Some size → size_of s ≡ size
mapped_same found s size is has = let same : Some (size_of s) ≡ Some size = ap (option_map size_of) (sym is) ∙ has in cc
