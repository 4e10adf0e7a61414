-- A copy of a buffer at a moment, and a consumer of its own that reads it while the buffer goes on.
use Rattle.std.specs.Prelude.{ℕ, List, map}
use Rattle.trace_model.specs.Buffers.{Buffer}
use Rattle.trace_model.specs.History.{Closed, state_after}
use Rattle.trace_model.specs.Sequences.{Sequence, changed_at}

-- what a sequence of a buffer is made from: its number and the size of its records
abbrev pub made_from : Sequence → ℕ × ℕ
made_from state = (state.number, state.size)

-- a sequence of which its consumer got nothing so far
abbrev pub none_delivered : Sequence → Sequence
none_delivered state = record state { delivered = 0 }

-- the buffer once the sequence has such a consumer
abbrev pub with_none_delivered : ℕ → Buffer → Buffer
with_none_delivered sequence buffer =
    record buffer { sequences = changed_at sequence none_delivered buffer.sequences }

-- the numbers of the sequences, in the order in which the buffer has them
abbrev pub numbers_of : Buffer → List ℕ
numbers_of buffer = map (λ (state : Sequence). state.number) buffer.sequences

-- the buffer once no chunk comes any more
abbrev pub all_closed : Buffer → Buffer
all_closed buffer = state_after buffer (map Closed (numbers_of buffer))

-- the buffer once each sequence has a consumer that got nothing so far
abbrev pub all_none_delivered : Buffer → Buffer
all_none_delivered buffer = record buffer { sequences = map none_delivered buffer.sequences }

-- The clone of a buffer, as its consumer reads it: no chunk comes any more, and nothing was delivered yet. Each cursor stands where
-- it stood in the buffer.
abbrev pub cloned : Buffer → Buffer
cloned buffer = all_none_delivered (all_closed buffer)
