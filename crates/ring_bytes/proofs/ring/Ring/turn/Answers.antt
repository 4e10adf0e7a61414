use Rattle.std.proofs.Common.{◌≤◌, ℕ, List, refl, sym, subst}
use Rattle.std.specs.Vec.{with_items}
use Rattle.ring_bytes.specs.Value.{RingValue}
use Rattle.ring_bytes.proofs.RingLemmas.{items_with, same_from}
use Rattle.ring_bytes.proofs.WriteLemmas.{free_of, turned_of, turned_view, turned_free}
use Rattle.ring_bytes.proofs.ring.Ring.turn.Goals as goal

pub invariant_of-self : goal.invariant_of-self
invariant_of-self c =
    let a = c.self.inside in
    let now : List ℕ = c.put_rest.new.bytes in
    let free = free_of a c.args.self.now c.args.len c.self.view_is c.self.invariant c.if-self-len.true c.requires.free in
    (turned_of a now (with_items a.bytes now) c.args.len c.self.invariant free refl
    (items_with a.bytes _ now a.next a.reached c.deref_mut.ensures.value c.put_rest.ensures.same)
    (same_from a.bytes _ now a.next a.reached c.deref_mut.ensures.value c.put_rest.ensures.same) c.put_rest.ensures.row c.put_rest.ensures.none).ring

pub returns-then-self-len-clause-after : goal.returns-then-self-len-clause-after
returns-then-self-len-clause-after c =
    let a = c.self.inside in
    let now : List ℕ = c.put_rest.new.bytes in
    let free = free_of a c.args.self.now c.args.len c.self.view_is c.self.invariant c.if-self-len.true c.requires.free in
    turned_view a c.args.self.now now (with_items a.bytes now) c.args.len c.self.view_is c.if-self-len.true
    (turned_of a now (with_items a.bytes now) c.args.len c.self.invariant free refl
    (items_with a.bytes _ now a.next a.reached c.deref_mut.ensures.value c.put_rest.ensures.same)
    (same_from a.bytes _ now a.next a.reached c.deref_mut.ensures.value c.put_rest.ensures.same) c.put_rest.ensures.row c.put_rest.ensures.none)

pub returns-then-self-len-clause-free : goal.returns-then-self-len-clause-free
returns-then-self-len-clause-free c =
    let a = c.self.inside in
    let now : List ℕ = c.put_rest.new.bytes in
    let free = free_of a c.args.self.now c.args.len c.self.view_is c.self.invariant c.if-self-len.true c.requires.free in
    let room : c.args.len ≤ a.size = subst (λ (r : RingValue). c.args.len ≤ r.room) (sym c.self.view_is) c.requires.room in
    turned_free a now (with_items a.bytes now) c.args.len room c.self.invariant free
    (turned_of a now (with_items a.bytes now) c.args.len c.self.invariant free refl
    (items_with a.bytes _ now a.next a.reached c.deref_mut.ensures.value c.put_rest.ensures.same)
    (same_from a.bytes _ now a.next a.reached c.deref_mut.ensures.value c.put_rest.ensures.same) c.put_rest.ensures.row c.put_rest.ensures.none)
