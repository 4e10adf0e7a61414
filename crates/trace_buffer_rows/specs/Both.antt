-- The sequences of a table.
use Rattle.std.specs.Prelude.{ℕ}
use Rattle.trace_model.specs.Buffers.{Buffer}
use Rattle.trace_buffer.specs.Ready.{Takes}

-- the buffer has both sequences of a table, and the one of which the steps are
pub record HasBoth (buffer : Buffer) (payload here : ℕ) : Type 0 where
  pub first : Takes buffer payload 2
  pub second : Takes buffer payload 3
  pub steps : Takes buffer payload here
