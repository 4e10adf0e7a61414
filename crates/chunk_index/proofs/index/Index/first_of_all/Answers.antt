use Rattle.std.proofs.Common.{◌-◌, ◌^◌, ℕ, Some, None, sym, ap, subst, arith}
use Rattle.chunk_index.specs.Value.{IndexValue, key_of, IsFirstFrom}
use Rattle.chunk_index.proofs.LeastLemmas.{least_of_all, none_from, first_is}
use Rattle.chunk_index.proofs.index.Index.first_of_all.Goals as goal

pub returns-in_default-clause-none : goal.returns-in_default-clause-none
returns-in_default-clause-none c =
    let slots = c.self.inside.slots.items in
    let sequence : ℕ = c.args.sequence in
    none_from c.args.self.now slots sequence c.args.chunk_id (ap (λ (i : IndexValue). i.places) c.self.view_is)
    (least_of_all _ slots c.loop-slot.slot-index c.key_number-low.result c.key_number-high.result (key_of sequence c.args.chunk_id)
    (key_of sequence (2 ^ 32 - 1)) c.loop-slot.best None c.deref-slot-items.ensures.value (omega arith) c.key_number-low.ensures
    c.key_number-high.ensures c.in_default.is c.loop-slot.invariant)

pub returns-clause-found : goal.returns-clause-found
returns-clause-found c =
    let slots = c.self.inside.slots.items in
    let sequence : ℕ = c.args.sequence in
    let best : ℕ × ℕ = (c.in-Some.key, c.in-Some.place) in
    subst (λ n. IsFirstFrom c.args.self.now sequence c.args.chunk_id (c.in-Some.key - n) c.in-Some.place) (sym c.key_number.ensures)
    (first_is c.args.self.now slots sequence c.args.chunk_id best (ap (λ (i : IndexValue). i.places) c.self.view_is) c.self.invariant.room.table.once
    (least_of_all _ slots c.loop-slot.slot-index c.key_number-low.result c.key_number-high.result (key_of sequence c.args.chunk_id)
    (key_of sequence (2 ^ 32 - 1)) c.loop-slot.best (Some best) c.deref-slot-items.ensures.value (omega arith) c.key_number-low.ensures
    c.key_number-high.ensures c.in-Some.is c.loop-slot.invariant))
