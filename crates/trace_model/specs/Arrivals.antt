-- What arrives in a buffer, and what becomes of it.
use Rattle.std.specs.Prelude.{ℕ, suc, ◌+◌, Bool, true, false, ◌&&◌, ◌||◌, nat_le, ◌==◌, [], ◌∷◌, ◌++◌, length, map, Option, Some, None, is_some, if◌then◌else◌}
use Rattle.std.specs.List.{list_any}
use Rattle.trace_base.specs.declared.limits.TheConstants.{IDS_AHEAD}
use Rattle.trace_model.specs.Counts.{raised}
use Rattle.trace_model.specs.Images.{Image, Chunk, whole_chunk, partial_chunk, complete_chunk}
use Rattle.trace_model.specs.Places.{place_after, padding_before}
use Rattle.trace_model.specs.Reading.{Reading, Fragments, Unreadable, reading_of}
use Rattle.trace_model.specs.Sequences.{Sequence, base_of, has_arrived, unread_of, unread_starts, sequence_in, changed_at, with_number}
use Rattle.trace_model.specs.Buffers.{Buffer, BufferRecord, discards, is_of, live_at, meets, is_unread, made_room}

-- a record in a new place, what it meets being gone
abbrev pub with_record : Buffer → ℕ → ℕ → ℕ → Chunk → Buffer
with_record buffer sequence chunk_id size chunk = record buffer {
  live = buffer.live ++ record {
    sequence = sequence;
    chunk_id = chunk_id;
    at = place_after buffer.room buffer.next size;
    size = size;
    chunk = chunk;
  } ∷ [];
  next = place_after buffer.room buffer.next size + size;
  placed = raised buffer.placed 1;
  padding = raised buffer.padding (padding_before buffer.room buffer.next size);
}

-- what the chunk's record has is replaced in its place
abbrev pub with_rewritten : Buffer → ℕ → ℕ → Chunk → Buffer
with_rewritten buffer sequence chunk_id chunk = record buffer {
  live = map
      (λ stored. if is_of sequence chunk_id stored then record stored { chunk = chunk } else stored)
      buffer.live;
  rewritten = raised buffer.rewritten 1;
}

-- the discard policy refuses a next record of this size
abbrev pub is_refused : Buffer → ℕ → Bool
is_refused buffer size =
    discards buffer.policy
    && (buffer.shut || list_any (λ stored. meets buffer size stored && is_unread buffer.sequences stored) buffer.live)

-- what became of a chunk that arrived: the first case of the buffers document's rules, and of this profile's, that holds
pub data Arrived : Type 0 where
  Kept : Arrived
  Rewritten : Arrived
  Duplicate : Arrived
  Discarded : Arrived
  TooFar : Arrived
  -- the number of the first fragment that can't be read
  BadChunk : (fragment : ℕ) → Arrived

-- a position so far ahead of the least missing one is refused
abbrev pub is_too_far : Sequence → ℕ → Bool
is_too_far state chunk_id = nat_le (base_of state + IDS_AHEAD) chunk_id

-- where a record goes that is neither a double nor too far
abbrev pub placing_of : Buffer → ℕ → ℕ → Arrived
placing_of buffer sequence chunk_id =
    if is_some (live_at buffer sequence chunk_id) then Rewritten
    else if is_refused buffer (sequence_in buffer.sequences sequence).size then Discarded
    else Kept

-- the outcome of the arrival of a complete chunk
abbrev pub arrival_of : Buffer → ℕ → ℕ → Arrived
arrival_of buffer sequence chunk_id =
    if has_arrived (sequence_in buffer.sequences sequence) chunk_id then Duplicate
    else if is_too_far (sequence_in buffer.sequences sequence) chunk_id then TooFar
    else placing_of buffer sequence chunk_id

-- the record has at least so many fragments
abbrev pub has_as_many : ℕ → Option BufferRecord → Bool
has_as_many count None = false
has_as_many count (Some stored) = nat_le count (length stored.chunk.fragments)

-- the outcome of the arrival of the first fragments of a chunk, so many
abbrev pub partial_arrival_of : Buffer → ℕ → ℕ → ℕ → Arrived
partial_arrival_of buffer sequence chunk_id count =
    if has_arrived (sequence_in buffer.sequences sequence) chunk_id
    || (has_as_many count (live_at buffer sequence chunk_id)
    || (unread_of (sequence_in buffer.sequences sequence) chunk_id count == 0))
    then Duplicate
    else if is_too_far (sequence_in buffer.sequences sequence) chunk_id then TooFar
    else placing_of buffer sequence chunk_id

-- the chunk has arrived: where the cursor has passed all its fragments it moves to the next position
abbrev pub with_arrived : ℕ → ℕ → Sequence → Sequence
with_arrived chunk_id count state = record state {
  arrived = with_number chunk_id state.arrived;
  cursor = if (state.cursor.chunk_id == chunk_id) && nat_le count state.cursor.passed
      then record { chunk_id = suc chunk_id; passed = 0 }
      else state.cursor;
}

-- the packets that begin in a chunk which gets no place are lost
abbrev pub with_discarded : ℕ → Chunk → Sequence → Sequence
with_discarded chunk_id chunk state = record state { lost = raised state.lost (unread_starts state chunk_id chunk) }

-- the buffer that has refused a chunk, as a full one of the discard policy does: it takes no new record from then on, and the
-- chunk counts as discarded
abbrev pub discarded_buffer : Buffer → ℕ → ℕ → Chunk → Buffer
discarded_buffer buffer sequence chunk_id chunk = record buffer {
  shut = true;
  discarded = raised buffer.discarded 1;
  sequences = changed_at sequence (with_discarded chunk_id chunk) buffer.sequences;
}

-- what the outcome does to records and losses
abbrev pub settled : Arrived → Buffer → ℕ → ℕ → Chunk → Buffer
settled Kept buffer sequence chunk_id chunk =
    with_record (made_room buffer (sequence_in buffer.sequences sequence).size) sequence chunk_id
    (sequence_in buffer.sequences sequence).size chunk
settled Rewritten buffer sequence chunk_id chunk = with_rewritten buffer sequence chunk_id chunk
settled Discarded buffer sequence chunk_id chunk =
    if chunk.partial then record buffer { shut = true } else discarded_buffer buffer sequence chunk_id chunk
settled Duplicate buffer sequence chunk_id chunk = buffer
settled TooFar buffer sequence chunk_id chunk = buffer
settled (BadChunk fragment) buffer sequence chunk_id chunk = buffer

-- after this outcome the chunk has arrived
abbrev pub makes_arrive : Arrived → Bool
makes_arrive Kept = true
makes_arrive Rewritten = true
makes_arrive Discarded = true
makes_arrive other = false

-- the chunk's sequence has noted the arrival, where its outcome makes the chunk arrive
abbrev pub arrival_noted : Arrived → ℕ → ℕ → ℕ → Buffer → Buffer
arrival_noted outcome sequence chunk_id count buffer = record buffer {
  sequences = if makes_arrive outcome
      then changed_at sequence (with_arrived chunk_id count) buffer.sequences
      else buffer.sequences;
}

-- the buffer once a complete chunk has arrived, and once the first fragments of a chunk have
abbrev pub with_arrival : Buffer → ℕ → ℕ → Chunk → Buffer
with_arrival buffer sequence chunk_id chunk =
    arrival_noted (arrival_of buffer sequence chunk_id) sequence chunk_id (length chunk.fragments)
    (settled (arrival_of buffer sequence chunk_id) buffer sequence chunk_id (complete_chunk chunk))

-- the buffer after the first fragments of a chunk arrived, which its writer still holds
abbrev pub with_partial_arrival : Buffer → ℕ → ℕ → Chunk → Buffer
with_partial_arrival buffer sequence chunk_id chunk =
    settled (partial_arrival_of buffer sequence chunk_id (length chunk.fragments)) buffer sequence chunk_id
    (partial_chunk chunk)

-- The same of an image whose fragments are yet to be read

abbrev pub outcome_of : Arrived → Reading → Arrived
outcome_of outcome (Fragments fragments) = outcome
outcome_of outcome (Unreadable number) = BadChunk number

-- the outcome of an image's arrival: that its payload can't be read comes before all else
abbrev pub image_arrival_of : Buffer → Image → Arrived
image_arrival_of buffer image =
    outcome_of (arrival_of buffer image.sequence image.chunk_id) (reading_of image.count image.payload)

-- the same of a part of an image, with so many fragments as its count says
abbrev pub partial_image_arrival_of : Buffer → Image → Arrived
partial_image_arrival_of buffer image =
    outcome_of (partial_arrival_of buffer image.sequence image.chunk_id image.count) (reading_of image.count image.payload)

-- what is done with the fragments that a payload reads as; nothing, where it can't be read
abbrev pub once_read : Buffer → (Chunk → Buffer) → ℕ → Reading → Buffer
once_read buffer arrive flags (Fragments fragments) = arrive (whole_chunk flags fragments)
once_read buffer arrive flags (Unreadable number) = buffer

-- the buffer after an image arrived
abbrev pub with_image : Buffer → Image → Buffer
with_image buffer image =
    once_read buffer (with_arrival buffer image.sequence image.chunk_id) image.flags
    (reading_of image.count image.payload)

-- the buffer after a part of an image arrived
abbrev pub with_partial_image : Buffer → Image → Buffer
with_partial_image buffer image =
    once_read buffer (with_partial_arrival buffer image.sequence image.chunk_id) image.flags
    (reading_of image.count image.payload)
