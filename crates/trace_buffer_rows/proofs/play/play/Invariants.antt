use Rattle.trace_buffer_rows.specs.Both.{HasBoth}
use Rattle.trace_buffer_rows.proofs.play.play.Given as goal

abbrev pub invariant-loop-i : goal.invariant-loop-i
invariant-loop-i g l = record { both : HasBoth l.buffer l.fn.setup.payload l.sequence }
