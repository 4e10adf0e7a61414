use Rattle.std.proofs.Common.{◌<◌, ◌≤◌, None, length, sym, ap, ◌∙◌, arith}
use Rattle.std.proofs.lemmas.List.{get_or_default}
use Rattle.chunk_index.specs.Slots.{place_in}
use Rattle.chunk_index.proofs.SlotLemmas.{slot_beyond}
use Rattle.chunk_index.proofs.MapLemmas.{found_by}
use Rattle.chunk_index.proofs.index.Index.find_behind.Goals as goal

pub returns-then-at-len : goal.returns-then-at-len
returns-then-at-len c =
    let a = c.self.inside in
    let over : length a.slots.items ≤ c.find_slot-at.result = omega (arith, a.slots.ok.0) in
    sym (found_by c.args.self.now a.capacity a.room a.slots.items _ c.args.sequence c.args.chunk_id c.key_number-key.result c.find_slot-at.result
    c.self.view_is c.deref.ensures.value c.key_number-key.ensures c.self.invariant.room.table c.find_slot-at.ensures.ends
    ∙ ap (place_in c.key_number-key.result) (slot_beyond a.slots.items c.find_slot-at.result over))

pub returns : goal.returns
returns c =
    let a = c.self.inside in
    let inside : c.find_slot-at.result < length a.slots.items = omega (arith, a.slots.ok.0) in
    c.place_for.ensures
    ∙ ap (place_in c.key_number-key.result)
    (c.index.ensures ∙ get_or_default a.slots.items c.find_slot-at.result c.index.result.now None inside)
    ∙ sym (found_by c.args.self.now a.capacity a.room a.slots.items _ c.args.sequence c.args.chunk_id c.key_number-key.result c.find_slot-at.result
    c.self.view_is c.deref.ensures.value c.key_number-key.ensures c.self.invariant.room.table c.find_slot-at.ensures.ends)
