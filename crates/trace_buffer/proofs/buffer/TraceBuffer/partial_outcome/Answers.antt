use Rattle.std.proofs.lemmas.Bool.{or_right}
use Rattle.std.proofs.Common.{◌≡◌, refl, ◌==◌, ◌||◌, Bool, true, sym, ap, ap₂, ◌∙◌, eq-eqb, ne_eqb}
use Rattle.trace_model.specs.Buffers.{Buffer}
use Rattle.trace_model.specs.Sequences.{sequence_in}
use Rattle.trace_buffer.proofs.OutcomeLemmas.{no_new_is, no_new, part_far, part_placed}
use Rattle.trace_buffer.proofs.RowLemmas.{row_of}
use Rattle.trace_buffer.proofs.buffer.TraceBuffer.partial_outcome.Goals as goal
use Rattle.trace_buffer.proofs.buffer.TraceBuffer.partial_outcome.Goals.{then-has_arrived-via-then-has_arrived, then-has_arrived-via-else-has_arrived+then-has_as_many, then-has_arrived-via-else-has_arrived+else-has_as_many+then-unread_of-eq0}

one : (x y : Bool) → x ≡ true → (x || y) ≡ true
one x y is = ap (λ b. b || y) is

pub returns-then-has_arrived : goal.returns-then-has_arrived
returns-then-has_arrived c =
    let row = row_of c.self.inside.rows.items c.deref.result.now c.find_row.result c.args.sequence _ _ c.index-row.result.now c.self.invariant.parts.once
    c.deref.ensures.value c.find_row.ensures.within c.find_row.ensures.number c.index-row.ensures
    ∙ ap (λ (b : Buffer). sequence_in b.sequences c.args.sequence) c.self.view_is in
    no_new c.args.self.now c.args.sequence c.args.chunk_id c.args.count
    (elim c.then-has_arrived.branch [
      | then-has_arrived-via-then-has_arrived w ↦
          sym (no_new_is c.args.self.now c.args.sequence c.args.chunk_id c.from.result c.args.count c.index-row.result.now c.has_arrived.result _ _ row c.from.ensures c.has_arrived.ensures refl refl)
          ∙ one c.has_arrived.result _ w.if-has_arrived.true
      | then-has_arrived-via-else-has_arrived+then-has_as_many w ↦
          sym (no_new_is c.args.self.now c.args.sequence c.args.chunk_id c.from.result c.args.count c.index-row.result.now c.has_arrived.result w.has_as_many.result _ row c.from.ensures c.has_arrived.ensures w.has_as_many.ensures refl)
          ∙ or_right c.has_arrived.result _ (one w.has_as_many.result _ w.if-has_as_many.true)
      | then-has_arrived-via-else-has_arrived+else-has_as_many+then-unread_of-eq0 w ↦
          sym (no_new_is c.args.self.now c.args.sequence c.args.chunk_id c.from.result c.args.count c.index-row.result.now c.has_arrived.result w.has_as_many.result (w.unread_of.result == 0) row c.from.ensures c.has_arrived.ensures w.has_as_many.ensures (ap (λ n. n == 0) w.unread_of.ensures))
          ∙ or_right c.has_arrived.result _ (or_right w.has_as_many.result _ (eq-eqb w.unread_of.result 0 w.if-unread_of-eq0.true))
    ])

pub returns-then-is_too_far : goal.returns-then-is_too_far
returns-then-is_too_far c =
    let row = row_of c.self.inside.rows.items c.deref.result.now c.find_row.result c.args.sequence _ _ c.index-row.result.now c.self.invariant.parts.once
    c.deref.ensures.value c.find_row.ensures.within c.find_row.ensures.number c.index-row.ensures
    ∙ ap (λ (b : Buffer). sequence_in b.sequences c.args.sequence) c.self.view_is in
    let new = sym (no_new_is c.args.self.now c.args.sequence c.args.chunk_id c.from.result c.args.count c.index-row.result.now c.has_arrived.result c.has_as_many.result (c.unread_of.result == 0) row c.from.ensures c.has_arrived.ensures c.has_as_many.ensures (ap (λ n. n == 0) c.unread_of.ensures))
    ∙ ap₂ (λ x y. x || y) c.if-has_arrived.false (ap₂ (λ x y. x || y) c.if-has_as_many.false (ne_eqb c.unread_of.result 0 c.if-unread_of-eq0.false)) in
    part_far c.args.self.now c.args.sequence c.args.chunk_id c.args.count c.index-row.result.now c.is_too_far.result new row c.is_too_far.ensures c.if-is_too_far.true

pub returns : goal.returns
returns c =
    let row = row_of c.self.inside.rows.items c.deref.result.now c.find_row.result c.args.sequence _ _ c.index-row.result.now c.self.invariant.parts.once
    c.deref.ensures.value c.find_row.ensures.within c.find_row.ensures.number c.index-row.ensures
    ∙ ap (λ (b : Buffer). sequence_in b.sequences c.args.sequence) c.self.view_is in
    let new = sym (no_new_is c.args.self.now c.args.sequence c.args.chunk_id c.from.result c.args.count c.index-row.result.now c.has_arrived.result c.has_as_many.result (c.unread_of.result == 0) row c.from.ensures c.has_arrived.ensures c.has_as_many.ensures (ap (λ n. n == 0) c.unread_of.ensures))
    ∙ ap₂ (λ x y. x || y) c.if-has_arrived.false (ap₂ (λ x y. x || y) c.if-has_as_many.false (ne_eqb c.unread_of.result 0 c.if-unread_of-eq0.false)) in
    c.placing.ensures
    ∙ part_placed c.args.self.now c.args.sequence c.args.chunk_id c.args.count c.index-row.result.now c.is_too_far.result new row c.is_too_far.ensures c.if-is_too_far.false
