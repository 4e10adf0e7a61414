-- States without a chunk, and the state of a writer that has stalled.
use Rattle.std.specs.Prelude.{Bool, true, false}
use Rattle.trace_writer.specs.declared.state.State.{State}
use Rattle.trace_writer.specs.declared.state.State.TheVariants.{Idle, Between, Writing, Dropping, Stalled}

-- a state that stands in while the real one is worked on
abbrev pub empty : State
empty = Idle 0

-- no chunk is held
abbrev pub is_empty : State → Bool
is_empty (Idle next_position) = true
is_empty (Between chunk) = false
is_empty (Writing fragment) = false
is_empty (Dropping next_position) = true
is_empty (Stalled next_position) = true

-- the writer has stalled
abbrev pub is_stalled : State → Bool
is_stalled (Idle next_position) = false
is_stalled (Between chunk) = false
is_stalled (Writing fragment) = false
is_stalled (Dropping next_position) = false
is_stalled (Stalled next_position) = true
