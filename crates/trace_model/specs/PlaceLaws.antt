-- Which records of a buffer are live, said of all its records at once: those whose interval no later record and no
-- padding meets.
use Rattle.std.specs.Prelude.{◌≡◌, ℕ, List, [], ◌∷◌, ◌++◌, length, map, if◌then◌else◌}
use Rattle.trace_base.specs.declared.policy.FullPolicy.{FullPolicy}
use Rattle.trace_model.specs.Places.{Placement, placements_from, live_of}
use Rattle.trace_model.specs.Sequences.{Sequence, sequence_in, is_known}
use Rattle.trace_model.specs.Buffers.{Buffer, BufferRecord, empty_buffer}
use Rattle.trace_model.specs.Arrivals.{Arrived, Kept, arrival_of, partial_arrival_of, image_arrival_of}
use Rattle.trace_model.specs.History.{Event, Arrives, ArrivesInPart, Committed, event_sequence, buffer_after, state_after}

-- where a record lies, and how many bytes it takes
pub record Interval : Type 0 where
  pub at : ℕ
  pub size : ℕ

-- where the record lies
abbrev pub interval_of : BufferRecord → Interval
interval_of stored = record { at = stored.at; size = stored.size }

-- where a record of the written row lies
abbrev pub placed_interval : Placement → Interval
placed_interval placement = record { at = placement.at; size = placement.size }

-- a record of this size was put in a new place
abbrev pub placed_where : Arrived → ℕ → List ℕ
placed_where Kept size = size ∷ []
placed_where other size = []

-- the size of the record that an event puts in a new place, if it does
abbrev pub placed_by : Buffer → Event → List ℕ
placed_by buffer (Arrives sequence chunk_id chunk) =
    placed_where (arrival_of buffer sequence chunk_id) (sequence_in buffer.sequences sequence).size
placed_by buffer (ArrivesInPart sequence chunk_id chunk) =
    placed_where (partial_arrival_of buffer sequence chunk_id (length chunk.fragments)) (sequence_in buffer.sequences sequence).size
placed_by buffer (Committed image patches) =
    placed_where (image_arrival_of buffer image) (sequence_in buffer.sequences image.sequence).size
placed_by buffer event = []

-- the sizes of all records that a history puts in new places, in their order
abbrev pub placed_sizes : Buffer → List Event → List ℕ
placed_sizes buffer [] = []
placed_sizes buffer (event ∷ events) =
    (if is_known buffer.sequences (event_sequence event) then placed_by buffer event else [])
    ++ placed_sizes (buffer_after buffer event) events

-- The live records lie exactly where the intervals of all that got a place are met by no later record or padding.
abbrev pub LiveAreUnmet : Type 0
LiveAreUnmet = (room : ℕ) (policy : FullPolicy) (sequences : List Sequence) (events : List Event)
    → map interval_of (state_after (empty_buffer room policy sequences) events).live
    ≡ map placed_interval
    (live_of (placements_from room 0 (placed_sizes (empty_buffer room policy sequences) events)))
