-- What becomes of each packet: which events fix it, at the place where the packet begins.
use Rattle.std.specs.Prelude.{ℕ, zero, suc, ◌-◌, Bool, true, false, not, ◌&&◌, ◌==◌, List, [], ◌∷◌, ◌++◌, length, filter, map, Option, Some, None, if◌then◌else◌}
use Rattle.std.specs.List.{flat_map}
use Rattle.trace_model.specs.Images.{Chunk, whole_chunk}
use Rattle.trace_model.specs.Reading.{Reading, Fragments, Unreadable, reading_of}
use Rattle.trace_model.specs.Sequences.{Sequence, Cursor, unread_of, sequence_in, is_known}
use Rattle.trace_model.specs.Buffers.{Buffer, BufferRecord, meets, is_loss_of}
use Rattle.trace_model.specs.Arrivals.{Arrived, Kept, Discarded, arrival_of, partial_arrival_of}
use Rattle.trace_model.specs.Row.{Link, Joined, Gap, Stop, place, row_from_cursor}
use Rattle.trace_model.specs.Reads.{Cause, Lost, Turn, Delivers, Counts, Skips, Ends, turn_of, passed_by}
use Rattle.trace_model.specs.History.{Event, Arrives, ArrivesInPart, Patched, Committed, Closed, Read, event_sequence, buffer_after}

-- what became of a packet
pub data Outcome : Type 0 where
  Delivered : Outcome
  Absent : Cause → Outcome

-- that of the packet which begins at the place
pub record Fixed : Type 0 where
  pub at : Cursor
  pub outcome : Outcome

-- Reads

abbrev pub fixed_by_turn : Cursor → Turn → List Fixed
fixed_by_turn at Delivers = record { at = at; outcome = Delivered } ∷ []
fixed_by_turn at (Counts cause) = record { at = at; outcome = Absent cause } ∷ []
fixed_by_turn at Skips = []
fixed_by_turn at Ends = []

-- what a read fixes as it goes over one link of a row
abbrev pub fixed_by_link : Link → List Fixed
fixed_by_link (Joined chain) = fixed_by_turn chain.at (turn_of (Joined chain))
fixed_by_link (Gap at next lost) = []
fixed_by_link (Stop at why may) = []

-- Losses

-- so many places of a chunk, from this one on
abbrev pub places_from : ℕ → ℕ → ℕ → List Cursor
places_from chunk_id passed zero = []
places_from chunk_id passed (suc count) = place chunk_id passed ∷ places_from chunk_id (suc passed) count

-- all fragments of a chunk begin a packet but the first one, where it continues another
abbrev pub starts_among : Chunk → List Cursor → List Cursor
starts_among chunk places = filter (λ at. not (chunk.continues && (at.passed == 0))) places

-- where packets begin in the fragments of the chunk that the cursor hasn't passed
abbrev pub unread_start_places : Sequence → ℕ → Chunk → List Cursor
unread_start_places state chunk_id chunk =
    let count = length chunk.fragments in
    let unread = unread_of state chunk_id count in
    starts_among chunk (places_from chunk_id (count - unread) unread)

-- the packet that begins at this place is lost
abbrev pub lost_at : Cursor → Fixed
lost_at at = record { at = at; outcome = Absent Lost }

-- the packets that the sequence loses with a record
abbrev pub fixed_by_loss : Sequence → BufferRecord → List Fixed
fixed_by_loss state stored =
    if is_loss_of state stored then map lost_at (unread_start_places state stored.chunk_id stored.chunk) else []

-- and with all that a next record of this size displaces
abbrev pub fixed_by_losses : Buffer → ℕ → Sequence → List Fixed
fixed_by_losses buffer size state = flat_map (fixed_by_loss state) (filter (meets buffer size) buffer.live)

-- Events

-- what an outcome fixes of sequence s, where the chunk is one of the sequence `owner`
abbrev pub fixed_by_arrival : Buffer → Sequence → Sequence → Arrived → Bool → ℕ → Chunk → List Fixed
fixed_by_arrival buffer state owner Kept partial chunk_id chunk = fixed_by_losses buffer owner.size state
fixed_by_arrival buffer state owner Discarded partial chunk_id chunk =
    if (state.number == owner.number) && not partial
    then map lost_at (unread_start_places state chunk_id chunk)
    else []
fixed_by_arrival buffer state owner other partial chunk_id chunk = []

-- what the arrival of an image fixes, once its payload is read; nothing, where it can't be
abbrev pub fixed_once_read : Buffer → Sequence → ℕ → ℕ → ℕ → Reading → List Fixed
fixed_once_read buffer state owner chunk_id flags (Fragments fragments) =
    fixed_by_arrival buffer state (sequence_in buffer.sequences owner) (arrival_of buffer owner chunk_id) false chunk_id
    (whole_chunk flags fragments)
fixed_once_read buffer state owner chunk_id flags (Unreadable number) = []

-- what an event of the buffer fixes of one of its sequences
abbrev pub fixed_by : Buffer → Sequence → Event → List Fixed
fixed_by buffer state (Arrives owner chunk_id chunk) =
    fixed_by_arrival buffer state (sequence_in buffer.sequences owner) (arrival_of buffer owner chunk_id) false chunk_id chunk
fixed_by buffer state (ArrivesInPart owner chunk_id chunk) =
    fixed_by_arrival buffer state (sequence_in buffer.sequences owner)
    (partial_arrival_of buffer owner chunk_id (length chunk.fragments))
    true chunk_id chunk
fixed_by buffer state (Patched owner patches) = []
fixed_by buffer state (Committed image patches) =
    fixed_once_read buffer state image.sequence image.chunk_id image.flags (reading_of image.count image.payload)
fixed_by buffer state (Closed owner) = []
fixed_by buffer state (Read owner limit) =
    if owner == state.number then flat_map fixed_by_link (passed_by limit (row_from_cursor buffer state)) else []

-- what a history fixes of a sequence, in the order of its events
abbrev pub fixed_after : ℕ → Buffer → List Event → List Fixed
fixed_after sequence buffer [] = []
fixed_after sequence buffer (event ∷ events) =
    (if is_known buffer.sequences (event_sequence event) then fixed_by buffer (sequence_in buffer.sequences sequence) event else [])
    ++ fixed_after sequence (buffer_after buffer event) events

-- what was fixed first of the packet that begins at the place
abbrev pub is_same_place : Cursor → Cursor → Bool
is_same_place a b = (a.chunk_id == b.chunk_id) && (a.passed == b.passed)

-- the outcome of the packet that begins at this place, where one is fixed
abbrev pub outcome_at : Cursor → List Fixed → Option Outcome
outcome_at at [] = None
outcome_at at (fixed ∷ others) = if is_same_place fixed.at at then Some fixed.outcome else outcome_at at others
