-- Where a reader stops, in words: the stop place of an open sequence is the first of these at or past its cursor: a chunk that
-- hasn't arrived and of which no part is there; the place behind the fragments of a partial record; a last fragment that
-- awaits a patch. A closed sequence stops at its end alone.
use Rattle.std.specs.Prelude.{◌≡◌, ℕ, ◌-◌, ◌==◌, ◌<◌, ◌≤◌, ◌⊎◌, max, nat_le, true, false, [], length, Some, if◌then◌else◌, ⊤}
use Rattle.trace_model.specs.Images.{Chunk}
use Rattle.trace_model.specs.Sequences.{Sequence, Cursor, base_of, end_of, has_arrived}
use Rattle.trace_model.specs.Buffers.{Buffer, BufferRecord, live_at}
use Rattle.trace_model.specs.Row.{Slot, Here, Gone, Never, Missing, Partial, Unpatched, End, place, slot_of, row_from_cursor}
use Rattle.trace_model.specs.Reads.{StopPlace, stop_place}

-- how many fragments of a chunk were passed: in the cursor's own chunk those before it, and none of a later one
abbrev pub passed_in : Cursor → ℕ → ℕ
passed_in cursor chunk_id = if chunk_id == cursor.chunk_id then cursor.passed else 0

-- the last fragment awaits a patch, and wasn't passed
pub record WaitsFor (chunk : Chunk) (passed : ℕ) : Type 0 where
  pub awaits : chunk.awaits ≡ true
  pub ahead : passed < length chunk.fragments

-- a chunk of which so many fragments were passed stops a reader, there and for this reason
abbrev pub StopsIn : Slot → ℕ → ℕ → StopPlace → Type 0
StopsIn (Here chunk) chunk_id passed stop =
    (WaitsFor chunk passed × (stop ≡ record { at = place chunk_id (length chunk.fragments - 1); why = Unpatched }))
    ⊎ ((WaitsFor chunk passed → ⊥) × (chunk.partial ≡ true)
    × (stop ≡ record { at = place chunk_id (max passed (length chunk.fragments)); why = Partial }))
StopsIn Gone chunk_id passed stop = ⊥
StopsIn Never chunk_id passed stop = stop ≡ record { at = place chunk_id passed; why = Missing }

-- it stops none
abbrev pub LetsPass : Slot → ℕ → Type 0
LetsPass (Here chunk) passed = (WaitsFor chunk passed → ⊥) × (chunk.partial ≡ false)
LetsPass Gone passed = ⊤
LetsPass Never passed = ⊥

-- the first chunk from the cursor's own on that stops a reader
pub record IsFirstStop (buffer : Buffer) (state : Sequence) (stop : StopPlace) : Type 0 where
  pub chunk_id : ℕ
  pub not_before : state.cursor.chunk_id ≤ chunk_id
  pub passed : (earlier : ℕ) → state.cursor.chunk_id ≤ earlier → earlier < chunk_id
      → LetsPass (slot_of buffer state earlier) (passed_in state.cursor earlier)
  pub stops : StopsIn (slot_of buffer state chunk_id) chunk_id (passed_in state.cursor chunk_id) stop

-- An open sequence of the buffer: nothing of it is final, its cursor isn't past the least missing chunk, and what is there
-- complete has arrived.
pub record IsOpenIn (buffer : Buffer) (state : Sequence) : Type 0 where
  pub unclosed : state.closed ≡ false
  pub none_final : state.final ≡ []
  pub cursor : state.cursor.chunk_id ≤ base_of state
  pub come : (chunk_id : ℕ) (stored : BufferRecord) → live_at buffer state.number chunk_id ≡ Some stored
      → stored.chunk.partial ≡ false → has_arrived state chunk_id ≡ true

-- The stop place is the first place at or past the cursor at which a read has to stop.
pub record StopPlacesAreFirst : Type 0 where
  pub unclosed : (buffer : Buffer) (state : Sequence) → IsOpenIn buffer state
      → IsFirstStop buffer state (stop_place (row_from_cursor buffer state))
  -- behind all that ever came of a closed one, or where the cursor is, if it is further
  pub closed : (buffer : Buffer) (state : Sequence) → state.closed ≡ true
      → stop_place (row_from_cursor buffer state)
      ≡ record { at = if nat_le (end_of state) state.cursor.chunk_id then state.cursor else place (end_of state) 0; why = End }
