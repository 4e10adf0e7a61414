use Rattle.std.proofs.Common.{◌≤◌, subst, ap, ◌∙◌}
use Rattle.trace_model.specs.Buffers.{Buffer}
use Rattle.trace_model.specs.Sequences.{is_known, sequence_in}
use Rattle.trace_buffer.proofs.RowLemmas.{size_fits}
use Rattle.trace_buffer.proofs.buffer.TraceBuffer.check_size.Goals as goal

pub returns-clause-fits : goal.returns-clause-fits
returns-clause-fits c =
    subst (λ (b : Buffer). (sequence_in b.sequences c.args.sequence).size ≤ b.room) c.self.view_is
    (size_fits c.self.inside.ring.room c.self.inside.index.capacity c.args.sequence c.self.inside.rows.items c.self.invariant.parts.fit
    (ap (λ (b : Buffer). is_known b.sequences c.args.sequence) c.self.view_is ∙ c.requires))
