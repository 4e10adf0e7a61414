use Rattle.std.proofs.Common.{◌≡◌, ◌+◌, ℕ, List, Option, None, length, set, sym, ap, ◌∙◌, subst, arith}
use Rattle.std.proofs.lemmas.List.{with_items_is}
use Rattle.std.specs.FinMap.{FinMap, len, remove}
use Rattle.std.specs.Ordering.{nat_cmp}
use Rattle.std.specs.Vec.{with_item, with_items}
use Rattle.chunk_index.specs.declared.slot.Entry.{Entry}
use Rattle.chunk_index.specs.Slots.{is_used, entries_of, map_of}
use Rattle.chunk_index.specs.Table.{IsTable, IsHoled}
use Rattle.chunk_index.specs.Value.{IndexValue, without_place}
use Rattle.chunk_index.proofs.SlotLemmas.{length_slots, fewer_entries}
use Rattle.chunk_index.proofs.HoleLemmas.{holed_of}
use Rattle.chunk_index.proofs.MapLemmas.{map_without, count_without}
use Rattle.chunk_index.proofs.StepLemmas.{IsThere, there_of}
use Rattle.chunk_index.proofs.index.Index.remove.Goals as goal

pub index_mut-requires : goal.index_mut-requires
index_mut-requires c =
    let a = c.self.inside in
    let t : IsThere a c.args.sequence c.args.chunk_id c.find_slot-at.result =
    there_of a c.args.self.now _ c.args.sequence c.args.chunk_id c.key_number.result c.find_slot-at.result c.self.view_is
    c.self.invariant c.deref.ensures.value c.key_number.ensures c.requires c.find_slot-at.ensures.ends in
    omega (arith, t.inside, a.slots.ok.0)

pub overflow_sub-self : goal.overflow_sub-self
overflow_sub-self c =
    let a = c.self.inside in
    let t : IsThere a c.args.sequence c.args.chunk_id c.find_slot-at.result =
    there_of a c.args.self.now _ c.args.sequence c.args.chunk_id c.key_number.result c.find_slot-at.result c.self.view_is
    c.self.invariant c.deref.ensures.value c.key_number.ensures c.requires c.find_slot-at.ensures.ends in
    let fewer = fewer_entries a.slots.items c.find_slot-at.result (ap is_used t.there) in
    let used = c.self.invariant.used in
    omega arith

pub close_hole-requires-clause-hole : goal.close_hole-requires-clause-hole
close_hole-requires-clause-hole c =
    let a = c.self.inside in
    let t : IsThere a c.args.sequence c.args.chunk_id c.find_slot-at.result =
    there_of a c.args.self.now _ c.args.sequence c.args.chunk_id c.key_number.result c.find_slot-at.result c.self.view_is
    c.self.invariant c.deref.ensures.value c.key_number.ensures c.requires c.find_slot-at.ensures.ends in
    omega (arith, t.inside, ap length c.deref_mut.ensures.value, length_slots a.slots.items c.find_slot-at.result None)

pub close_hole-requires-clause-holed : goal.close_hole-requires-clause-holed
close_hole-requires-clause-holed c =
    let a = c.self.inside in
    let at : ℕ = c.find_slot-at.result in
    let t : IsThere a c.args.sequence c.args.chunk_id at =
    there_of a c.args.self.now _ c.args.sequence c.args.chunk_id c.key_number.result at c.self.view_is
    c.self.invariant c.deref.ensures.value c.key_number.ensures c.requires c.find_slot-at.ensures.ends in
    subst (λ s. IsHoled a.room s at (at + 1)) (sym c.deref_mut.ensures.value)
    (holed_of a.room a.slots.items at c.self.invariant.room.table t.inside)

pub invariant_of-self : goal.invariant_of-self
invariant_of-self c =
    let a = c.self.inside in
    let at : ℕ = c.find_slot-at.result in
    let t : IsThere a c.args.sequence c.args.chunk_id at =
    there_of a c.args.self.now _ c.args.sequence c.args.chunk_id c.key_number.result at c.self.view_is
    c.self.invariant c.deref.ensures.value c.key_number.ensures c.requires c.find_slot-at.ensures.ends in
    let left : List (Option Entry) = set a.slots.items at None in
    let new : List (Option Entry) = c.close_hole.new.slots in
    let long : length new ≡ length a.slots.items =
    c.close_hole.auto.slots ∙ ap length c.deref_mut.ensures.value ∙ length_slots a.slots.items at None in
    let items : (with_items (with_item a.slots at None) new).items ≡ new =
    with_items_is (with_item a.slots at None) new (omega (arith, long, a.slots.ok.0)) in
    let same : map_of new ≡ map_of left = c.close_hole.ensures.same ∙ ap map_of c.deref_mut.ensures.value in
    let entries : length (entries_of new) ≡ length (entries_of left) =
    c.close_hole.ensures.entries ∙ ap (λ s. length (entries_of s)) c.deref_mut.ensures.value in
    record {
      room = record {
        size = ap length items ∙ long ∙ c.self.invariant.room.size;
        table = subst (IsTable a.room) (sym items) c.close_hole.ensures.table;
        within = c.self.invariant.room.within;
        free = c.self.invariant.room.free;
        fits = c.self.invariant.room.fits;
        others_fit = c.self.invariant.room.others_fit;
      };
      used =
          let fewer = fewer_entries a.slots.items at (ap is_used t.there) in
          let here : length (entries_of (with_items (with_item a.slots at None) new).items) ≡ length (entries_of left) = ap (λ s. length (entries_of s)) items ∙ entries in
          let used = c.self.invariant.used in
          omega arith;
      count =
          ap (λ s. len (map_of s)) items
          ∙ ap (λ (m : FinMap nat_cmp ℕ). len m) same
          ∙ count_without a.slots.items at t.entry t.inside t.there c.self.invariant.room.table.once c.self.invariant.count
          ∙ sym entries
          ∙ sym (ap (λ s. length (entries_of s)) items);
    }

pub returns : goal.returns
returns c =
    let a = c.self.inside in
    let at : ℕ = c.find_slot-at.result in
    let t : IsThere a c.args.sequence c.args.chunk_id at =
    there_of a c.args.self.now _ c.args.sequence c.args.chunk_id c.key_number.result at c.self.view_is
    c.self.invariant c.deref.ensures.value c.key_number.ensures c.requires c.find_slot-at.ensures.ends in
    let new : List (Option Entry) = c.close_hole.new.slots in
    let long : length new ≡ length a.slots.items =
    c.close_hole.auto.slots ∙ ap length c.deref_mut.ensures.value ∙ length_slots a.slots.items at None in
    let items : (with_items (with_item a.slots at None) new).items ≡ new =
    with_items_is (with_item a.slots at None) new (omega (arith, long, a.slots.ok.0)) in
    ap (λ (m : FinMap nat_cmp ℕ). record { capacity = a.capacity; places = m })
    (ap map_of items
    ∙ c.close_hole.ensures.same
    ∙ ap map_of c.deref_mut.ensures.value
    ∙ map_without a.slots.items at t.entry t.inside t.there c.self.invariant.room.table.once
    ∙ ap (remove (map_of a.slots.items)) (sym t.key))
    ∙ ap (λ (i : IndexValue). without_place i c.args.sequence c.args.chunk_id) c.self.view_is
