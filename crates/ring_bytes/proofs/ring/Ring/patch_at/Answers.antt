use Rattle.std.proofs.Common.{rules, ◌≡◌, ◌+◌, ◌≤◌, ℕ, List, IsSomeAnd, length, ap, ◌∙◌, subst, arith}
use Rattle.ring_bytes.specs.declared.ring.Ring.TheInside.{Inside}
use Rattle.ring_bytes.specs.Fields.{ring_view, IsRing}
use Rattle.ring_bytes.specs.Value.{Stored, RingValue, stored_at, put_at, with_bytes}
use Rattle.ring_bytes.proofs.RowLemmas.{size_least}
use Rattle.ring_bytes.proofs.RingLemmas.{IsLive, live_at}
use Rattle.ring_bytes.proofs.ChangeLemmas.{patched}
use Rattle.ring_bytes.proofs.ChangedRing.{IsChangedRing, changed_ring, payload_long, some_is}
use Rattle.ring_bytes.proofs.ring.Ring.patch_at.Goals as goal

-- the piece lies in the payload of a live record
record IsInside (a : Inside) (v : RingValue) (place offset : ℕ) : Type 0 where
  live : IsLive a v place
  fits : offset + 4 ≤ live.here.header.len
  ends : place + 16 + offset + 4 ≤ a.reached

inside_of : (a : Inside) (v : RingValue) (place offset : ℕ) → ring_view a ≡ v → IsRing a → IsSomeAnd (stored_at v place) (λ (stored : Stored). offset + 4 ≤ length stored.payload) → IsInside a v place offset
inside_of a v place offset view ok has =
    let l = live_at a v place view ok (some_is (stored_at v place) (λ (stored : Stored). offset + 4 ≤ length stored.payload) has) in
    let fits : offset + 4 ≤ length l.stored.payload =
    subst (λ o. IsSomeAnd o (λ (stored : Stored). offset + 4 ≤ length stored.payload)) l.found has in
    let long = payload_long a v place l ok in
    let least = size_least l.here.header.len in
    record { live = l; fits = omega arith; ends = omega (arith, l.here.inside) }

patched_of : (a : Inside) (v : RingValue) (place offset : ℕ) (piece slot c : List ℕ) → length piece ≡ 4 → ring_view a ≡ v → IsRing a → IsInside a v place offset → slot ≡ a.bytes.items → c ≡ put_at (place + 16 + offset) piece slot → IsChangedRing a v place (with_bytes offset piece) c
patched_of a v place offset piece slot c four view ok is same now =
    changed_ring a v place (with_bytes offset piece) c is.live view ok
    (patched a.bytes.items c a.next a.reached a.clear a.front place offset piece is.live.stored is.live.here ok.whole (omega (arith, is.fits))
    (now ∙ ap (put_at (place + 16 + offset) piece) same))

pub overflow_add-place : goal.overflow_add-place
overflow_add-place c =
    let is = inside_of c.self.inside c.args.self.now c.args.place c.args.offset c.self.view_is c.self.invariant c.requires in
    omega (arith, is.ends, c.self.invariant.small)

pub overflow_add-place-2 : goal.overflow_add-place-2
overflow_add-place-2 c =
    let is = inside_of c.self.inside c.args.self.now c.args.place c.args.offset c.self.view_is c.self.invariant c.requires in
    omega (arith, is.ends, c.self.invariant.small)

pub put-requires : goal.put-requires
put-requires c =
    let is = inside_of c.self.inside c.args.self.now c.args.place c.args.offset c.self.view_is c.self.invariant c.requires in
    let four : length c.args.bytes ≡ 4 = search rules in
    omega (arith, is.ends, ap length c.deref_mut.ensures.value, c.self.invariant.whole)

pub invariant_of-self : goal.invariant_of-self
invariant_of-self c =
    let four : length c.args.bytes ≡ 4 = search rules in
    (patched_of c.self.inside c.args.self.now c.args.place c.args.offset c.args.bytes _ c.put.new.bytes four c.self.view_is c.self.invariant
    (inside_of c.self.inside c.args.self.now c.args.place c.args.offset c.self.view_is c.self.invariant c.requires)
    c.deref_mut.ensures.value c.put.ensures).ring

pub returns : goal.returns
returns c =
    let four : length c.args.bytes ≡ 4 = search rules in
    (patched_of c.self.inside c.args.self.now c.args.place c.args.offset c.args.bytes _ c.put.new.bytes four c.self.view_is c.self.invariant
    (inside_of c.self.inside c.args.self.now c.args.place c.args.offset c.self.view_is c.self.invariant c.requires)
    c.deref_mut.ensures.value c.put.ensures).view
