use Rattle.std.proofs.Common.{ap, ◌∙◌}
use Rattle.trace_model.specs.Buffers.{Buffer}
use Rattle.trace_model.specs.Row.{horizon}
use Rattle.trace_model.specs.Sequences.{sequence_in}
use Rattle.trace_buffer.proofs.RowLemmas.{row_of}
use Rattle.trace_buffer.proofs.buffer.TraceBuffer.horizon.Goals as goal

pub returns-clause-is : goal.returns-clause-is
returns-clause-is c =
    c.horizon.ensures.is
    ∙ ap horizon
    (row_of c.self.inside.rows.items c.deref.result.now c.find_row.result c.args.sequence _ _ c.index.result.now c.self.invariant.parts.once
    c.deref.ensures.value c.find_row.ensures.within c.find_row.ensures.number c.index.ensures)
    ∙ ap (λ (b : Buffer). horizon (sequence_in b.sequences c.args.sequence)) c.self.view_is
