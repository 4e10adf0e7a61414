use Rattle.std.proofs.Common.{◌≡◌, ℕ, ◌+◌, List, Option, None, length, sym, ap, subst, ◌∙◌, arith}
use Rattle.std.proofs.lemmas.List.{with_items_is}
use Rattle.std.specs.FinMap.{FinMap, get, len}
use Rattle.std.specs.Ordering.{nat_cmp}
use Rattle.std.specs.Vec.{with_items}
use Rattle.chunk_index.specs.declared.slot.Entry.{Entry}
use Rattle.chunk_index.specs.Slots.{entries_of, map_of}
use Rattle.chunk_index.specs.Table.{IsTable}
use Rattle.chunk_index.specs.Value.{IndexValue, key_of, place_of}
use Rattle.chunk_index.proofs.MapLemmas.{len_with}
use Rattle.chunk_index.proofs.index.Index.add.Goals as goal

pub invariant_of-self : goal.invariant_of-self
invariant_of-self c =
    let a = c.self.inside in
    let room = c.with_room-self-inside.ensures in
    let vec = c.with_room-self-inside.new.slots in
    let before : List (Option Entry) = c.deref_mut.result.now in
    let new : List (Option Entry) = c.put.new.slots in
    let key : ℕ = key_of c.args.sequence c.args.chunk_id in
    let long : length new ≡ length vec.items = c.put.auto.slots ∙ ap length c.deref_mut.ensures.value in
    let items : (with_items vec new).items ≡ new = with_items_is vec new (omega (arith, long, vec.ok.0)) in
    let same : map_of before ≡ map_of a.slots.items = ap map_of c.deref_mut.ensures.value ∙ room.map in
    let none : get (map_of before) key ≡ None =
    ap (λ (m : FinMap nat_cmp ℕ). get m key) same ∙ ap (λ (i : IndexValue). place_of i c.args.sequence c.args.chunk_id) c.self.view_is ∙ c.requires.absent in
    let here : length (entries_of (with_items vec new).items) ≡ length (entries_of new) = ap (λ s. length (entries_of s)) items in
    let kept : length (entries_of before) ≡ length (entries_of a.slots.items) = ap (λ s. length (entries_of s)) c.deref_mut.ensures.value ∙ room.entries in
    let more = c.put.ensures.entries in
    let used = c.self.invariant.used in
    record {
      room = record {
        size = ap length items ∙ c.put.ensures.size;
        table = subst (IsTable c.with_room-self-inside.result) (sym items) c.put.ensures.table;
        within = room.room.within;
        free = room.room.free;
        fits = room.room.fits;
        others_fit = room.room.others_fit;
      };
      used = omega arith;
      count =
          ap (λ s. len (map_of s)) items
          ∙ ap (λ (m : FinMap nat_cmp ℕ). len m) c.put.ensures.map
          ∙ len_with (map_of before) key c.args.place none
          ∙ ap (λ n. n + 1) (ap (λ (m : FinMap nat_cmp ℕ). len m) same ∙ c.self.invariant.count ∙ sym kept)
          ∙ sym (here ∙ more);
    }
