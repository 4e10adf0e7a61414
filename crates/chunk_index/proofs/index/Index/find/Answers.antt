use Rattle.std.proofs.Common.{◌≡◌, ◌<◌, ◌||◌, not, true, Option, None, length, refl, sym, ap, ◌∙◌, arith}
use Rattle.std.proofs.lemmas.List.{get_or_default}
use Rattle.chunk_index.specs.declared.slot.Entry.{Entry}
use Rattle.chunk_index.specs.Slots.{slot, is_used, has_key, place_in}
use Rattle.chunk_index.proofs.SearchLemmas.{ends_at_home}
use Rattle.chunk_index.proofs.MapLemmas.{found_by}
use Rattle.chunk_index.proofs.index.Index.find.Goals as goal

pub returns-then-ends_search : goal.returns-then-ends_search
returns-then-ends_search c =
    let a = c.self.inside in
    let at = c.home_of-home.result in
    let key = c.key_number-key.result in
    let inside : at < length a.slots.items = omega (arith, c.self.invariant.room.size, c.home_of-home.ensures.below) in
    let here : c.index-slot.result.now ≡ slot a.slots.items at = c.index-slot.ensures ∙ get_or_default a.slots.items at c.index-slot.result.now None inside in
    let ends : (not (is_used (slot a.slots.items at)) || has_key key (slot a.slots.items at)) ≡ true =
    sym (ap (λ (s : Option Entry). not (is_used s) || has_key key s) here) ∙ sym c.ends_search.ensures ∙ c.if-ends_search.true in
    c.place_for.ensures
    ∙ ap (place_in key) here
    ∙ sym (found_by c.args.self.now a.capacity a.room a.slots.items a.slots.items c.args.sequence c.args.chunk_id key at
    c.self.view_is refl c.key_number-key.ensures c.self.invariant.room.table
    (ends_at_home a.room a.slots.items key at c.home_of-home.ensures.value ends))
