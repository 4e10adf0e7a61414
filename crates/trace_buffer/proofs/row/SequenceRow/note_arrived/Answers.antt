use Rattle.std.proofs.Common.{◌≡◌, ℕ, ◌<◌, ◌%◌, ◌^◌, true, false, Bool, List, length, replicate, set, Vec, Global, sym, ap, ◌∙◌, arith}
use Rattle.std.proofs.lemmas.List.{with_items_is, length-set}
use Rattle.std.specs.Vec.{with_items, with_item}
use Rattle.trace_model.specs.Arrivals.{with_arrived}
use Rattle.trace_model.specs.Sequences.{Sequence, is_among, with_number}
use Rattle.trace_buffer.specs.Circle.{bit, marked, arrived_of}
use Rattle.trace_buffer.specs.RowFields.{row_view, IsSequence}
use Rattle.trace_buffer.specs.declared.row.SequenceRow.TheInside.{Inside}
use Rattle.trace_buffer.proofs.CircleLemmas.{arrived_more, cleared, small_more}
use Rattle.trace_buffer.proofs.FieldLemmas.{IsAhead, is_ahead}
use Rattle.trace_buffer.proofs.row.SequenceRow.note_arrived.Goals as goal

-- the bits with the new one
more : (a : Inside) (id place from : ℕ) (seen : List Bool) → IsSequence a → IsAhead a id → seen ≡ set a.ahead.items place true → place ≡ from % 1024 → from ≡ id → arrived_of a.base seen ≡ with_number id (arrived_of a.base a.ahead.items)
more a id place from seen ok near is place_is from_is =
    ap (arrived_of a.base) (is ∙ ap (λ k. set a.ahead.items k true) (place_is ∙ ap (λ n. n % 1024) from_is))
    ∙ arrived_more a.ahead.items a.base id ok.ahead near.from near.to

small : (a : Inside) (id : ℕ) (seen : List Bool) → IsSequence a → id < 2 ^ 32 → arrived_of a.base seen ≡ with_number id (arrived_of a.base a.ahead.items) → (i : ℕ) → is_among i (arrived_of a.base seen) ≡ true → i < 2 ^ 32
small a id seen ok low is i among = small_more id i (arrived_of a.base a.ahead.items) low ok.small (ap (is_among i) (sym is) ∙ among)

pub settle-self-inside-requires-clause-small : goal.settle-self-inside-requires-clause-small
settle-self-inside-requires-clause-small c =
    let a : Inside = c.self.inside in
    let near = is_ahead a c.args.self.now c.args.position c.self.view_is c.self.invariant c.requires.fresh c.requires.near in
    small a c.args.position c.deref_mut.result.now c.self.invariant c.ranges.position.fits
    (more a c.args.position c.place_of.result c.from.result c.deref_mut.result.now c.self.invariant near c.deref_mut.ensures.value c.place_of.ensures.is c.from.ensures)

-- the vector's elements after the two writes
items_are : (v : Vec Bool Global) (place : ℕ) (bits : List Bool) → length v.items ≡ 1024 → length bits ≡ 1024 → (with_items (with_item v place true) bits).items ≡ bits
items_are v place bits old new =
    with_items_is (with_item v place true) bits (omega (arith, new, old, length-set v.items place true, (with_item v place true).ok.0))

pub invariant_of-self : goal.invariant_of-self
invariant_of-self c =
    let a : Inside = c.self.inside in
    let near = is_ahead a c.args.self.now c.args.position c.self.view_is c.self.invariant c.requires.fresh c.requires.near in
    let bits : List Bool = c.settle-self-inside.new.bits in
    let base : ℕ = c.settle-self-inside.result in
    let items = items_are a.ahead c.place_of.result bits c.self.invariant.ahead c.settle-self-inside.ensures.len in
    let same : arrived_of base (with_items (with_item a.ahead c.place_of.result true) bits).items ≡ arrived_of a.base c.deref_mut.result.now =
    ap (arrived_of base) items ∙ c.settle-self-inside.ensures.same in
    let new = more a c.args.position c.place_of.result c.from.result c.deref_mut.result.now c.self.invariant near c.deref_mut.ensures.value c.place_of.ensures.is c.from.ensures in
    record {
      ahead = ap length items ∙ c.settle-self-inside.ensures.len;
      finals = c.self.invariant.finals;
      low = c.settle-self-inside.ensures.low;
      settled = ap (λ b. bit b base) items ∙ c.settle-self-inside.ensures.settled;
      small = λ i is. small a c.args.position c.deref_mut.result.now c.self.invariant c.ranges.position.fits new i (ap (is_among i) (sym same) ∙ is);
      none = c.self.invariant.none;
    }

pub returns : goal.returns
returns c =
    let a : Inside = c.self.inside in
    let near = is_ahead a c.args.self.now c.args.position c.self.view_is c.self.invariant c.requires.fresh c.requires.near in
    let bits : List Bool = c.settle-self-inside.new.bits in
    let base : ℕ = c.settle-self-inside.result in
    let items = items_are a.ahead c.place_of.result bits c.self.invariant.ahead c.settle-self-inside.ensures.len in
    let arrived : arrived_of base (with_items (with_item a.ahead c.place_of.result true) bits).items ≡ with_number c.args.position (arrived_of a.base a.ahead.items) =
    ap (arrived_of base) items ∙ c.settle-self-inside.ensures.same
    ∙ more a c.args.position c.place_of.result c.from.result c.deref_mut.result.now c.self.invariant near c.deref_mut.ensures.value c.place_of.ensures.is c.from.ensures in
    let clear : a.finals.items ≡ replicate 1024 false = c.self.invariant.none (ap (λ (s : Sequence). s.closed) c.self.view_is ∙ c.requires.open) in
    let final : marked a.finals.items 1024 base ≡ marked a.finals.items 1024 a.base =
    cleared a.finals.items 1024 base clear ∙ sym (cleared a.finals.items 1024 a.base clear) in
    (λ i. record (row_view a) { arrived = arrived i; cursor = c.cursor_behind-cursor.ensures i; final = final i })
    ∙ ap (with_arrived c.args.position c.args.count) c.self.view_is
