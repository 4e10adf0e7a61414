use Rattle.std.proofs.Common.{ap, ◌∙◌}
use Rattle.trace_model.specs.Buffers.{Buffer}
use Rattle.trace_model.specs.Sequences.{sequence_in}
use Rattle.trace_buffer.specs.Answers.{state_of}
use Rattle.trace_buffer.proofs.RowLemmas.{row_of}
use Rattle.trace_buffer.proofs.buffer.TraceBuffer.state.Goals as goal

pub returns : goal.returns
returns c =
    c.state.ensures
    ∙ ap (state_of c.self.inside.policy)
    (row_of c.self.inside.rows.items c.deref.result.now c.find_row.result c.args.sequence _ _ c.index.result.now c.self.invariant.parts.once
    c.deref.ensures.value c.find_row.ensures.within c.find_row.ensures.number c.index.ensures)
    ∙ ap (λ (b : Buffer). state_of b.policy (sequence_in b.sequences c.args.sequence)) c.self.view_is
