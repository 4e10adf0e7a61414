-- Where a reader stands in a sequence, and the row from there on.
use Rattle.std.specs.Prelude.{◌≡◌, ℕ, zero, suc, ◌+◌, ◌-◌, ◌*◌, ◌^◌, ◌<◌, ◌≤◌, Bool, true, List, [], ◌∷◌, length, Some}
use Rattle.trace_model.specs.Buffers.{Buffer, BufferRecord, live_at}
use Rattle.trace_model.specs.Images.{Chunk, Fragment}
use Rattle.trace_model.specs.Reading as reading
use Rattle.trace_model.specs.Row.{Link, place, is_part, horizon, row_of, slots_of}
use Rattle.trace_model.specs.Sequences.{Sequence, Cursor, sequence_in, is_known}
use Rattle.trace_buffer.specs.Calls.{place_in}
use Rattle.sequence_reader.specs.declared.held.Held.{Held}
use Rattle.sequence_reader.specs.declared.spot.Spot.{Spot}
use Rattle.sequence_reader.specs.declared.spot.Bounds.{Bounds}

-- the row of a sequence from a place on
abbrev pub row_at : Buffer → Sequence → Cursor → List Link
row_at buffer state at =
    row_of state.closed at.chunk_id at.passed (slots_of buffer state at.chunk_id (horizon state - at.chunk_id))

-- the rows of a buffer's sequence, by the places where they begin
abbrev pub rows_of : Buffer → ℕ → Cursor → List Link
rows_of buffer sequence at = row_at buffer (sequence_in buffer.sequences sequence) at

-- where a reader's spot stands in the row
abbrev pub cursor_of : Spot → Cursor
cursor_of spot = place spot.chunk_id spot.passed

-- what a reader keeps of its sequence is true of it
pub record AreBounds (buffer : Buffer) (bounds : Bounds) : Type 0 where
  pub known : is_known buffer.sequences bounds.sequence ≡ true
  pub closed : (sequence_in buffer.sequences bounds.sequence).closed ≡ bounds.closed
  pub end : horizon (sequence_in buffer.sequences bounds.sequence) ≡ bounds.end
  pub low : bounds.end ≤ 2 ^ 33

-- where the fragment with this number begins, with its size, of fragments from the place `at` on
abbrev pub start_from : ℕ → ℕ → List Fragment → ℕ
start_from at zero fragments = at
start_from at (suc passed) [] = at
start_from at (suc passed) (fragment ∷ fragments) = start_from (reading.fragment_end fragment) passed fragments

-- a spot in a chunk: behind so many fragments that the chunk still has one, or only a part of it is there
pub record FitsChunk (closed : Bool) (chunk : Chunk) (spot : Spot) : Type 0 where
  pub offset : spot.passed < length chunk.fragments → spot.offset ≡ start_from 0 spot.passed chunk.fragments
  pub left : length chunk.fragments ≤ spot.passed → 0 < spot.passed → is_part closed chunk ≡ true

-- the spot is one that a reader may stand at: in a live record it is at the beginning of a fragment, or behind the last
abbrev pub IsSpot : Buffer → Bounds → Spot → Type 0
IsSpot buffer bounds spot = spot.chunk_id < bounds.end → (stored : BufferRecord)
    → live_at buffer bounds.sequence spot.chunk_id ≡ Some stored → FitsChunk bounds.closed stored.chunk spot

-- a read holds the place of the chunk's record
abbrev pub IsHeld : Buffer → ℕ → Held → Type 0
IsHeld buffer sequence held = held.place ≡ place_in (live_at buffer sequence held.chunk_id)

-- how many bytes of payloads, of the greatest size, can come before a spot
abbrev pub reach_of : Spot → ℕ
reach_of spot = 2 ^ 26 * spot.chunk_id + spot.offset
