use Rattle.std.proofs.Common.{ap, ◌∙◌}
use Rattle.trace_base.specs.Ids.{position_of}
use Rattle.trace_model.specs.Buffers.{Buffer}
use Rattle.trace_model.specs.Sequences.{Sequence, sequence_in}
use Rattle.trace_buffer.proofs.RowLemmas.{row_of}
use Rattle.trace_buffer.proofs.buffer.TraceBuffer.position_in.Goals as goal

pub returns : goal.returns
returns c =
    c.position_of.ensures
    ∙ ap (λ (s : Sequence). position_of s.from c.args.id)
    (row_of c.self.inside.rows.items c.deref.result.now c.find_row.result c.args.sequence _ _ c.index.result.now c.self.invariant.parts.once
    c.deref.ensures.value c.find_row.ensures.within c.find_row.ensures.number c.index.ensures)
    ∙ ap (λ (b : Buffer). position_of (sequence_in b.sequences c.args.sequence).from c.args.id) c.self.view_is
