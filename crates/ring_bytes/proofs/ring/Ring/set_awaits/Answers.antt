use Rattle.std.proofs.Common.{◌≡◌, ◌+◌, ℕ, Bool, true, List, [], ◌∷◌, cond, length, ap, ◌∙◌, arith}
use Rattle.ring_bytes.specs.declared.header.Header.{Header}
use Rattle.ring_bytes.specs.declared.ring.Ring.TheInside.{Inside}
use Rattle.ring_bytes.specs.Bytes.{SameOutside}
use Rattle.ring_bytes.specs.Fields.{ring_view, IsRing}
use Rattle.ring_bytes.specs.Header.{header_at, StandsAt, is_live}
use Rattle.ring_bytes.specs.Value.{Stored, RingValue, with_awaits}
use Rattle.ring_bytes.proofs.RowLemmas.{size_least}
use Rattle.ring_bytes.proofs.RingLemmas.{IsLive, live_at, same_from}
use Rattle.ring_bytes.proofs.ChangeLemmas.{reheaded}
use Rattle.ring_bytes.proofs.ChangedRing.{IsChangedRing, changed_ring}
use Rattle.ring_bytes.proofs.ring.Ring.set_awaits.Goals as goal

set_of : (a : Inside) (v : RingValue) (place : ℕ) (awaits : Bool) (seen slot c : List ℕ) (header : Header) → IsLive a v place → ring_view a ≡ v → IsRing a → seen ≡ a.bytes.items → header ≡ header_at seen place → slot ≡ a.bytes.items → SameOutside place (place + 16) slot c → header_at c place ≡ record header { key = record header.key { awaits = awaits } } → StandsAt c place (record header { key = record header.key { awaits = awaits } }) → IsChangedRing a v place (with_awaits awaits) c
set_of a v place awaits seen slot c header l view ok see read is same there stands =
    let header_is : header ≡ l.here.header = read ∙ ap (λ x. header_at x place) see ∙ l.here.there in
    let now = reheaded a.bytes.items c a.next a.reached a.clear a.front place l.stored (record header { key = record header.key { awaits = awaits } }) l.here
    (same_from a.bytes slot c place (place + 16) is same) there stands (ap (λ (h : Header). h.len) header_is) in
    let alive : is_live header ≡ true = ap is_live header_is ∙ l.here.alive in
    let at_is : place ≡ l.stored.at = ap (λ (t : Stored). t.at) l.here.is in
    let key_is : header.key ≡ l.stored.key = ap (λ (h : Header). h.key) header_is ∙ ap (λ (t : Stored). t.key) l.here.is in
    let stored : record { at = place; key = record header.key { awaits = awaits }; payload = l.stored.payload } ≡ with_awaits awaits l.stored =
    λ i. record { at = at_is i; key = record (key_is i) { awaits = awaits }; payload = l.stored.payload } in
    changed_ring a v place (with_awaits awaits) c l view ok
    record {
      same = now.same;
      row = now.row;
      live =
          now.live
          ∙ ap (λ x. cond x (record { at = place; key = record header.key { awaits = awaits }; payload = l.stored.payload } ∷ []) []) alive
          ∙ ap (λ t. t ∷ []) stored;
    }

pub read_header-header-requires : goal.read_header-header-requires
read_header-header-requires c =
    let l = live_at c.self.inside c.args.self.now c.args.place c.self.view_is c.self.invariant c.requires in
    omega (arith, l.here.inside, size_least l.here.header.len, ap length c.deref.ensures.value, c.self.invariant.whole)

pub put_header-requires-clause-room : goal.put_header-requires-clause-room
put_header-requires-clause-room c =
    let l = live_at c.self.inside c.args.self.now c.args.place c.self.view_is c.self.invariant c.requires in
    omega (arith, l.here.inside, size_least l.here.header.len, ap length c.deref_mut.ensures.value, c.self.invariant.whole)

pub invariant_of-self : goal.invariant_of-self
invariant_of-self c =
    (set_of c.self.inside c.args.self.now c.args.place c.args.awaits _ _ c.put_header.new.bytes c.read_header-header.result
    (live_at c.self.inside c.args.self.now c.args.place c.self.view_is c.self.invariant c.requires)
    c.self.view_is c.self.invariant c.deref.ensures.value c.read_header-header.ensures.header c.deref_mut.ensures.value
    c.put_header.ensures.same c.put_header.ensures.there c.put_header.ensures.bytes).ring

pub returns : goal.returns
returns c =
    (set_of c.self.inside c.args.self.now c.args.place c.args.awaits _ _ c.put_header.new.bytes c.read_header-header.result
    (live_at c.self.inside c.args.self.now c.args.place c.self.view_is c.self.invariant c.requires)
    c.self.view_is c.self.invariant c.deref.ensures.value c.read_header-header.ensures.header c.deref_mut.ensures.value
    c.put_header.ensures.same c.put_header.ensures.there c.put_header.ensures.bytes).view
