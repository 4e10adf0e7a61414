use Rattle.std.proofs.Common.{sym, ap, ◌∙◌}
use Rattle.trace_model.specs.Sequences.{Sequence}
use Rattle.trace_buffer.proofs.CircleLemmas.{cleared}
use Rattle.trace_buffer.proofs.row.SequenceRow.close.Goals as goal

pub returns-clause-none : goal.returns-clause-none
returns-clause-none c =
    ap (λ (s : Sequence). s.final) (sym c.self.view_is)
    ∙ cleared c.self.inside.finals.items 1024 c.self.inside.base (c.self.invariant.none (ap (λ (s : Sequence). s.closed) c.self.view_is ∙ c.requires))
