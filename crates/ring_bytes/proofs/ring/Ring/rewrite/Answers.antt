use Rattle.std.proofs.Common.{◌≡◌, ◌+◌, ◌≤◌, ℕ, List, [], ◌∷◌, Some, length, sym, ap, ◌∙◌, subst, arith}
use Rattle.std.specs.Option.{option_map}
use Rattle.page_geometry.specs.Sizes.{record_size}
use Rattle.ring_bytes.specs.declared.key.RecordKey.{RecordKey}
use Rattle.ring_bytes.specs.declared.ring.Ring.TheInside.{Inside}
use Rattle.ring_bytes.specs.Bytes.{SameOutside}
use Rattle.ring_bytes.specs.Fields.{ring_view, IsRing}
use Rattle.ring_bytes.specs.Rows.{IsRow, live_row}
use Rattle.ring_bytes.specs.Value.{Stored, RingValue, stored_at, size_of, with_contents}
use Rattle.ring_bytes.proofs.RingLemmas.{IsLive, live_at, same_from}
use Rattle.ring_bytes.proofs.ChangeLemmas.{IsNow}
use Rattle.ring_bytes.proofs.ChangedRing.{IsChangedRing, changed_ring, payload_long, mapped_is, mapped_same}
use Rattle.ring_bytes.proofs.ring.Ring.rewrite.Goals as goal

-- the record that is there takes as many bytes as the new one
record IsAsLong (a : Inside) (v : RingValue) (place size : ℕ) : Type 0 where
  live : IsLive a v place
  same : record_size live.here.header.len ≡ size
  ends : place + size ≤ a.reached

as_long : (a : Inside) (v : RingValue) (place size : ℕ) → ring_view a ≡ v → IsRing a → option_map size_of (stored_at v place) ≡ Some size → IsAsLong a v place size
as_long a v place size view ok has =
    let l = live_at a v place view ok (mapped_is (stored_at v place) size has) in
    let same : record_size l.here.header.len ≡ size =
    ap record_size (sym (payload_long a v place l ok)) ∙ mapped_same (stored_at v place) l.stored size l.found has in
    record { live = l; same = same; ends = omega (arith, l.here.inside) }

rewritten : (a : Inside) (v : RingValue) (place : ℕ) (key : RecordKey) (payload slot c : List ℕ) → ring_view a ≡ v → IsRing a → IsAsLong a v place (record_size (length payload)) → slot ≡ a.bytes.items → SameOutside place (place + record_size (length payload)) slot c → IsRow c place (place + record_size (length payload)) → live_row c place (place + record_size (length payload)) ≡ record { at = place; key = key; payload = payload } ∷ [] → IsChangedRing a v place (with_contents key payload) c
rewritten a v place key payload slot c view ok is slot_is same row live =
    let at_is : place ≡ is.live.stored.at = ap (λ (t : Stored). t.at) is.live.here.is in
    let stored : record { at = place; key = key; payload = payload } ≡ with_contents key payload is.live.stored =
    λ i. record { at = at_is i; key = key; payload = payload } in
    let now : IsNow a.bytes.items c place (record_size (length payload)) (with_contents key payload is.live.stored ∷ []) = record {
      same = same_from a.bytes slot c place (place + record_size (length payload)) slot_is same;
      row = row;
      live = live ∙ ap (λ t. t ∷ []) stored;
    } in
    changed_ring a v place (with_contents key payload) c is.live view ok
    (subst (λ n. IsNow a.bytes.items c place n (with_contents key payload is.live.stored ∷ [])) (sym is.same) now)

pub put_record-requires-clause-small : goal.put_record-requires-clause-small
put_record-requires-clause-small c =
    let is = as_long c.self.inside c.args.self.now c.args.place (record_size (length c.args.payload.now)) c.self.view_is c.self.invariant c.requires.there in
    omega (arith, is.ends, c.self.invariant.small)

pub put_record-requires-clause-room : goal.put_record-requires-clause-room
put_record-requires-clause-room c =
    let is = as_long c.self.inside c.args.self.now c.args.place (record_size (length c.args.payload.now)) c.self.view_is c.self.invariant c.requires.there in
    omega (arith, is.ends, ap length c.deref_mut.ensures.value, c.self.invariant.whole)

pub invariant_of-self : goal.invariant_of-self
invariant_of-self c =
    (rewritten c.self.inside c.args.self.now c.args.place c.args.key c.args.payload.now _ c.put_record.new.bytes c.self.view_is c.self.invariant
    (as_long c.self.inside c.args.self.now c.args.place (record_size (length c.args.payload.now)) c.self.view_is c.self.invariant c.requires.there)
    c.deref_mut.ensures.value c.put_record.ensures.same c.put_record.ensures.row c.put_record.ensures.live).ring

pub returns : goal.returns
returns c =
    (rewritten c.self.inside c.args.self.now c.args.place c.args.key c.args.payload.now _ c.put_record.new.bytes c.self.view_is c.self.invariant
    (as_long c.self.inside c.args.self.now c.args.place (record_size (length c.args.payload.now)) c.self.view_is c.self.invariant c.requires.there)
    c.deref_mut.ensures.value c.put_record.ensures.same c.put_record.ensures.row c.put_record.ensures.live).view
