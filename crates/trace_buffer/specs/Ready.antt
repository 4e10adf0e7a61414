-- What the calls on a buffer ask of a sequence, and that it stays so.
use Rattle.std.specs.Prelude.{◌≡◌, ℕ, true, List}
use Rattle.page_geometry.specs.Sizes.{record_size}
use Rattle.trace_model.specs.Buffers.{Buffer}
use Rattle.trace_model.specs.Sequences.{Sequence, is_known, sequence_in}

-- the sequence is one of these, and its records have this size
pub record IsReady (sequences : List Sequence) (size number : ℕ) : Type 0 where
  pub known : is_known sequences number ≡ true
  pub size_is : (sequence_in sequences number).size ≡ size

-- the buffer has the sequence, with chunks of so much payload
abbrev pub Takes : Buffer → ℕ → ℕ → Type 0
Takes buffer payload number = IsReady buffer.sequences (record_size payload) number

-- each sequence that the one buffer has the other has too, with records of the same size
abbrev pub StayReady : Buffer → Buffer → Type 0
StayReady old new = (size number : ℕ) → IsReady old.sequences size number → IsReady new.sequences size number
