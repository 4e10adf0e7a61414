-- Events on several buffers, of which one has the event's sequence.
use Rattle.std.specs.Prelude.{◌≡◌, ◌≢◌, ℕ, ◌<◌, Bool, true, false, List, [], length, slice_index_or}
use Rattle.trace_base.specs.declared.policy.FullPolicy.TheVariants.{Ring}
use Rattle.trace_model.specs.Images.{Image}
use Rattle.trace_model.specs.Reading.{reading_of}
use Rattle.trace_model.specs.Sequences.{is_known, sequence_in}
use Rattle.trace_model.specs.Buffers.{Buffer, empty_buffer}
use Rattle.trace_model.specs.History.{Event, Arrives, ArrivesInPart}
use Rattle.chunk_plain.specs.Histories.{once_read}

-- the buffer at a place
abbrev pub buffer_at : List Buffer → ℕ → Buffer
buffer_at buffers index = slice_index_or buffers index (empty_buffer 0 Ring [])

-- the buffer at this place has the sequence, with records of this size, and no other buffer has it
pub record IsAt (buffers : List Buffer) (index sequence size : ℕ) : Type 0 where
  pub inside : index < length buffers
  pub known : is_known (buffer_at buffers index).sequences sequence ≡ true
  pub size_is : (sequence_in (buffer_at buffers index).sequences sequence).size ≡ size
  pub others : (other : ℕ) → other ≢ index → is_known (buffer_at buffers other).sequences sequence ≡ false

-- the sequence is closed there
abbrev pub is_closed_at : List Buffer → (index sequence : ℕ) → Bool
is_closed_at buffers index sequence = (sequence_in (buffer_at buffers index).sequences sequence).closed

-- the id of its first chunk, as the buffer there knows it
abbrev pub from_at : List Buffer → (index sequence : ℕ) → ℕ
from_at buffers index sequence = (sequence_in (buffer_at buffers index).sequences sequence).from

-- what the arrival of an image is, where its fragments read, and nothing else
abbrev pub arrivals_of : Image → List Event
arrivals_of image =
    once_read (λ chunk. Arrives image.sequence image.chunk_id chunk) image.flags (reading_of image.count image.payload)

-- and that of the first fragments of a chunk
abbrev pub partial_arrivals_of : Image → List Event
partial_arrivals_of image =
    once_read (λ chunk. ArrivesInPart image.sequence image.chunk_id chunk) image.flags (reading_of image.count image.payload)
