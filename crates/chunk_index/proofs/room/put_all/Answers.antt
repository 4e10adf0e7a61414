use Rattle.std.proofs.Common.{◌≡◌, ◌<◌, ◌+◌, ◌*◌, [], ◌∷◌, None, length, sym, ap, subst, ◌∙◌, arith}
use Rattle.std.proofs.lemmas.List.{length-replicate}
use Rattle.chunk_index.specs.Slots.{slot, entry_key, entries_of, map_of, with_slot}
use Rattle.chunk_index.specs.Table.{IsTable}
use Rattle.std.specs.FinMap.{get}
use Rattle.chunk_index.proofs.SlotLemmas.{entries_replicate}
use Rattle.chunk_index.proofs.MapLemmas.{map_empty, table_empty}
use Rattle.chunk_index.proofs.RoomLemmas.{entries_next, entries_within, none_before, map_next}
use Rattle.chunk_index.proofs.room.put_all.Goals as goal

pub loop-at-init : goal.loop-at-init
loop-at-init c =
    let many = 3 * c.args.capacity + 1 in
    record {
      size = ap length c.requires.free ∙ length-replicate many None;
      table = subst (IsTable c.args.capacity) (sym c.requires.free) (table_empty c.args.capacity many);
      map = ap map_of c.requires.free ∙ map_empty many;
      entries = ap (λ s. length (entries_of s)) c.requires.free ∙ ap length (entries_replicate many);
    }

pub put_slot-requires-clause-few : goal.put_slot-requires-clause-few
put_slot-requires-clause-few c = λ entry is.
    let from = c.args.from.now in let at = c.loop-at.at in
    let inside : at < length from = let more = c.loop-at-test.true in omega arith in
    let next = entries_next from at inside in
    let one : length (entries_of (slot from at ∷ [])) ≡ 1 = ap (λ s. length (entries_of (s ∷ []))) is in
    omega (arith, next, one, c.loop-at.invariant.entries, entries_within from (at + 1), c.requires.few)

pub put_slot-requires-clause-absent : goal.put_slot-requires-clause-absent
put_slot-requires-clause-absent c = λ entry is.
    ap (λ m. get m (entry_key entry)) c.loop-at.invariant.map ∙ none_before c.args.from.now c.loop-at.at entry c.requires.once is

pub loop-at-preserved : goal.loop-at-preserved
loop-at-preserved c =
    let from = c.args.from.now in let at = c.loop-at.at in
    let inside : at < length from = let more = c.loop-at-test.true in omega arith in
    record {
      size = c.put_slot.ensures.size;
      table = c.put_slot.ensures.table;
      map = c.put_slot.ensures.map ∙ ap (with_slot (slot from at)) c.loop-at.invariant.map ∙ sym (map_next from at inside c.requires.once);
      entries = let now = c.put_slot.ensures.entries in let before = c.loop-at.invariant.entries in let next = entries_next from at inside in omega arith;
    }
