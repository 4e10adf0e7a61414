use Rattle.std.proofs.Common.{ap, ◌∙◌}
use Rattle.trace_model.specs.Buffers.{Buffer}
use Rattle.trace_model.specs.Sequences.{sequence_in}
use Rattle.trace_buffer.proofs.OutcomeLemmas.{is_double, is_far, is_placed}
use Rattle.trace_buffer.proofs.RowLemmas.{row_of}
use Rattle.trace_buffer.proofs.buffer.TraceBuffer.complete_outcome.Goals as goal

pub returns-then-has_arrived : goal.returns-then-has_arrived
returns-then-has_arrived c =
    let row = row_of c.self.inside.rows.items c.deref.result.now c.find_row.result c.args.sequence _ _ c.index-row.result.now c.self.invariant.parts.once
    c.deref.ensures.value c.find_row.ensures.within c.find_row.ensures.number c.index-row.ensures
    ∙ ap (λ (b : Buffer). sequence_in b.sequences c.args.sequence) c.self.view_is in
    is_double c.args.self.now c.args.sequence c.args.chunk_id c.from.result c.index-row.result.now c.has_arrived.result row c.from.ensures c.has_arrived.ensures c.if-has_arrived.true

pub returns-then-is_too_far : goal.returns-then-is_too_far
returns-then-is_too_far c =
    let row = row_of c.self.inside.rows.items c.deref.result.now c.find_row.result c.args.sequence _ _ c.index-row.result.now c.self.invariant.parts.once
    c.deref.ensures.value c.find_row.ensures.within c.find_row.ensures.number c.index-row.ensures
    ∙ ap (λ (b : Buffer). sequence_in b.sequences c.args.sequence) c.self.view_is in
    is_far c.args.self.now c.args.sequence c.args.chunk_id c.from.result c.index-row.result.now c.has_arrived.result c.is_too_far.result row c.from.ensures c.has_arrived.ensures c.is_too_far.ensures c.if-has_arrived.false c.if-is_too_far.true

pub returns : goal.returns
returns c =
    let row = row_of c.self.inside.rows.items c.deref.result.now c.find_row.result c.args.sequence _ _ c.index-row.result.now c.self.invariant.parts.once
    c.deref.ensures.value c.find_row.ensures.within c.find_row.ensures.number c.index-row.ensures
    ∙ ap (λ (b : Buffer). sequence_in b.sequences c.args.sequence) c.self.view_is in
    c.placing.ensures
    ∙ is_placed c.args.self.now c.args.sequence c.args.chunk_id c.from.result c.index-row.result.now c.has_arrived.result c.is_too_far.result row c.from.ensures c.has_arrived.ensures c.is_too_far.ensures c.if-has_arrived.false c.if-is_too_far.false
