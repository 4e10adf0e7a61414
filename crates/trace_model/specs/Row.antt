-- The row of a sequence: the fragments of its chunks in rising position, joined to chains over the flags, with a gap for each
-- chunk that isn't there, and the stop place as its last link. It is built from the right: a fragment is put before the
-- rest of the row, and joined to the chain that stands there, if it runs on into it.
use Rattle.std.specs.Prelude.{ℕ, zero, suc, ◌-◌, max, Bool, true, false, ◌&&◌, ◌||◌, not, ◌==◌, List, [], ◌∷◌, ◌++◌, length, drop, Option, Some, None, if◌then◌else◌}
use Rattle.std.specs.List.{flat_map}
use Rattle.trace_model.specs.Images.{Fragment, Chunk}
use Rattle.trace_model.specs.Sequences.{Sequence, Cursor, base_of, has_arrived, is_among, end_of}
use Rattle.trace_model.specs.Buffers.{Buffer, BufferRecord, live_at}

-- what there is of a chunk: a live record; none, since it was lost; or none, since it hasn't arrived
pub data Slot : Type 0 where
  Here : Chunk → Slot
  Gone : Slot
  Never : Slot

-- a fragment in its place
pub record Piece : Type 0 where
  pub at : Cursor
  pub fragment : Fragment
  -- the last of its chunk, with flag 2
  pub runs_on : Bool

-- what ends a chain: its last fragment; a drop mark; a chunk that was lost; that its rest never came, or that the next
-- chunk doesn't continue it; the stop place
pub data Fate : Type 0 where
  Whole : Fate
  Marked : Fate
  IntoLost : Fate
  CutOff : Fate
  Open : Fate

-- fragments joined over their flags: a packet, or what there is of it
pub record Chain : Type 0 where
  pub at : Cursor
  -- the place behind it
  pub next : Cursor
  -- its start is before the row
  pub headless : Bool
  pub pieces : List Piece
  -- one of its fragments awaits a patch
  pub awaits : Bool
  pub fate : Fate

-- why a reader can't go on: the next chunk is missing; only a part of it is there; its last fragment awaits a patch; the
-- sequence is closed
pub data Why : Type 0 where
  Missing : Why
  Partial : Why
  Unpatched : Why
  End : Why

-- a link of a row: a chain of fragments, a gap, or the stop place
pub data Link : Type 0 where
  Joined : Chain → Link
  -- a chunk that isn't there, the place behind it, and whether it was lost
  Gap : (at next : Cursor) → (lost : Bool) → Link
  -- the stop place, and whether a chain may run on into it
  Stop : (at : Cursor) → Why → (may : Bool) → Link

-- the bytes of a chain's pieces, joined
abbrev pub bytes_of : List Piece → List ℕ
bytes_of pieces = flat_map (λ (piece : Piece). piece.fragment.bytes) pieces

-- Chains

-- a fragment, or a chain, before the rest of the row, into which its packet runs on
abbrev pub joined_to : Chain → List Link → List Link
joined_to chain [] = Joined (record chain { fate = Open }) ∷ []
joined_to chain (Joined rest ∷ links) =
    if rest.headless
    then Joined (record chain {
      next = rest.next;
      pieces = chain.pieces ++ rest.pieces;
      awaits = chain.awaits || rest.awaits;
      fate = rest.fate;
    }) ∷ links
    else Joined (record chain { fate = CutOff }) ∷ Joined rest ∷ links
joined_to chain (Gap at next lost ∷ links) =
    Joined (record chain { fate = if lost then IntoLost else CutOff }) ∷ Gap at next lost ∷ links
joined_to chain (Stop at why may ∷ links) =
    Joined (record chain { fate = if may then Open else CutOff }) ∷ Stop at why may ∷ links

-- a fragment alone, as a chain: a drop mark ends it
abbrev pub chain_of : Piece → Cursor → Bool → Bool → Chain
chain_of piece next headless awaits = record {
  at = piece.at;
  next = next;
  headless = headless;
  pieces = piece ∷ [];
  awaits = awaits;
  fate = if piece.fragment.dropped then Marked else Whole;
}

-- a fragment before the rest of the row: a drop mark ends its chain, whatever flag 2 says
abbrev pub with_piece : Piece → Cursor → Bool → Bool → List Link → List Link
with_piece piece next headless awaits links =
    if piece.runs_on && not piece.fragment.dropped
    then joined_to (chain_of piece next headless awaits) links
    else Joined (chain_of piece next headless awaits) ∷ links

-- Chunks

abbrev pub place : ℕ → ℕ → Cursor
place chunk_id passed = record { chunk_id = chunk_id; passed = passed }

-- no fragment follows
abbrev pub is_last : List Fragment → Bool
is_last [] = true
is_last (fragment ∷ others) = false

-- the place behind a fragment: the next chunk's, where it is the chunk's last one
abbrev pub place_behind : Bool → ℕ → ℕ → Bool → Cursor
place_behind stays chunk_id passed last = if last && not stays then place (suc chunk_id) 0 else place chunk_id (suc passed)

-- only a part of the chunk is there, and the rest may still come
abbrev pub is_part : Bool → Chunk → Bool
is_part closed chunk = chunk.partial && not closed

-- the fragments of a chunk, of which so many come before, and then the rest of the row
abbrev pub chunk_links : Bool → ℕ → Chunk → ℕ → List Fragment → List Link → List Link
chunk_links closed chunk_id chunk passed [] rest = rest
chunk_links closed chunk_id chunk passed (fragment ∷ others) rest =
    if (chunk.awaits && is_last others) && not closed
    then Stop (place chunk_id passed) Unpatched (chunk.continues && (passed == 0)) ∷ []
    else with_piece
    (record { at = place chunk_id passed; fragment = fragment; runs_on = chunk.runs_on && is_last others })
    (place_behind (is_part closed chunk) chunk_id passed (is_last others))
    (chunk.continues && (passed == 0))
    (chunk.awaits && is_last others)
    (chunk_links closed chunk_id chunk (suc passed) others rest)

-- the row of these slots, of whose first so many fragments were passed
abbrev pub row_of : Bool → ℕ → ℕ → List Slot → List Link
row_of closed chunk_id passed [] = Stop (place chunk_id passed) (if closed then End else Missing) (not closed) ∷ []
row_of closed chunk_id passed (Here chunk ∷ slots) =
    chunk_links closed chunk_id chunk passed (drop passed chunk.fragments)
    (if is_part closed chunk
    then Stop (place chunk_id (max passed (length chunk.fragments))) Partial false ∷ []
    else row_of closed (suc chunk_id) 0 slots)
row_of closed chunk_id passed (Gone ∷ slots) =
    Gap (place chunk_id passed) (place (suc chunk_id) 0) true ∷ row_of closed (suc chunk_id) 0 slots
row_of closed chunk_id passed (Never ∷ slots) =
    if closed
    then Gap (place chunk_id passed) (place (suc chunk_id) 0) false ∷ row_of closed (suc chunk_id) 0 slots
    else Stop (place chunk_id passed) Missing true ∷ []

-- Buffers

abbrev pub slot_from : Option BufferRecord → Bool → Slot
slot_from (Some r) known = Here r.chunk
slot_from None true = Gone
slot_from None false = Never

-- what there is of a chunk of the sequence
abbrev pub slot_of : Buffer → Sequence → ℕ → Slot
slot_of buffer state chunk_id =
    slot_from (live_at buffer state.number chunk_id) (has_arrived state chunk_id || is_among chunk_id state.final)

-- of so many chunks from this one on
abbrev pub slots_of : Buffer → Sequence → ℕ → ℕ → List Slot
slots_of buffer state chunk_id zero = []
slots_of buffer state chunk_id (suc count) = slot_of buffer state chunk_id ∷ slots_of buffer state (suc chunk_id) count

-- one above the last chunk that the row can show
abbrev pub horizon : Sequence → ℕ
horizon state = if state.closed then end_of state else suc (base_of state)

-- the row of a sequence from its cursor to its stop place
abbrev pub row_from_cursor : Buffer → Sequence → List Link
row_from_cursor buffer state =
    row_of state.closed state.cursor.chunk_id state.cursor.passed
    (slots_of buffer state state.cursor.chunk_id (horizon state - state.cursor.chunk_id))
