-- What stands at one place of a row, as a reader finds it in a buffer.
use Rattle.std.specs.Prelude.{◌≡◌, ℕ, suc, ◌+◌, ◌^◌, ◌<◌, ◌≤◌, ◌⊎◌, Bool, true, false, ◌&&◌, not, ◌==◌, List, [], ◌∷◌, length, drop, if◌then◌else◌}
use Rattle.trace_model.specs.Buffers.{Buffer}
use Rattle.trace_model.specs.Images.{Chunk, Fragment}
use Rattle.trace_model.specs.Reading as reading
use Rattle.trace_model.specs.Row as row
use Rattle.trace_model.specs.Row.{Link, Gap, place, place_behind, is_last, is_part, with_piece}
use Rattle.trace_model.specs.Sequences.{Cursor}
use Rattle.sequence_reader.specs.declared.ends.Why.{Why}
use Rattle.sequence_reader.specs.declared.ends.Why.TheVariants.{Partial, Unpatched}
use Rattle.sequence_reader.specs.declared.spot.Bounds.{Bounds}
use Rattle.sequence_reader.specs.declared.spot.Spot.{Spot}
use Rattle.sequence_reader.specs.declared.step.Piece.{Piece}
use Rattle.sequence_reader.specs.declared.step.Step.{Step}
use Rattle.sequence_reader.specs.declared.step.Step.TheVariants as step
use Rattle.sequence_reader.specs.Ends.{why_of}
use Rattle.sequence_reader.specs.Spots.{rows_of, cursor_of, IsSpot, reach_of}

-- the spot behind a fragment
abbrev pub spot_behind : Spot → ℕ → Bool → Spot
spot_behind spot end ended =
    if ended
    then record { chunk_id = spot.chunk_id + 1; passed = 0; offset = 0 }
    else record { chunk_id = spot.chunk_id; passed = spot.passed + 1; offset = end }

-- In a chunk of which there is a record

-- the next fragment of the chunk, which a reader may pass
pub record IsPieceIn (closed : Bool) (chunk : Chunk) (spot : Spot) (piece : Piece) : Type 0 where
  pub fragment : Fragment
  pub others : List Fragment
  pub here : drop spot.passed chunk.fragments ≡ fragment ∷ others
  pub bytes : fragment.bytes ≡ piece.bytes.now
  pub dropped : fragment.dropped ≡ piece.dropped
  pub headless : piece.headless ≡ (chunk.continues && (spot.passed == 0))
  pub runs_on : piece.runs_on ≡ (chunk.runs_on && is_last others)
  pub awaits : piece.awaits ≡ (chunk.awaits && is_last others)
  pub unstopped : ((chunk.awaits && is_last others) && not closed) ≡ false
  pub behind : piece.behind ≡ spot_behind spot (reading.fragment_end fragment) (is_last others && not (is_part closed chunk))
  pub further : reach_of spot + length piece.bytes.now < reach_of piece.behind
  pub near : reach_of piece.behind ≤ 2 ^ 59

-- its last fragment awaits a patch
pub record WaitsIn (closed : Bool) (chunk : Chunk) (spot : Spot) (why : Why) (may : Bool) : Type 0 where
  pub fragment : Fragment
  pub others : List Fragment
  pub here : drop spot.passed chunk.fragments ≡ fragment ∷ others
  pub stopped : ((chunk.awaits && is_last others) && not closed) ≡ true
  pub why_is : why ≡ Unpatched spot.chunk_id
  pub may_is : may ≡ (chunk.continues && (spot.passed == 0))

-- the part of it that is there was passed
pub record IsPassedPart (closed : Bool) (chunk : Chunk) (spot : Spot) (why : Why) (may : Bool) : Type 0 where
  pub passed : length chunk.fragments ≤ spot.passed
  pub part : is_part closed chunk ≡ true
  pub why_is : why ≡ Partial spot.chunk_id
  pub may_is : may ≡ false

-- what a chunk shows at a spot
abbrev pub ShowsIn : Bool → Chunk → Spot → Step → Type 0
ShowsIn closed chunk spot (step.Fragment piece) = IsPieceIn closed chunk spot piece
ShowsIn closed chunk spot (step.Gap lost) = ⊥
ShowsIn closed chunk spot (step.Stop why may) = WaitsIn closed chunk spot why may ⊎ IsPassedPart closed chunk spot why may

-- In a row

-- a fragment before the rest of the row
pub record IsPieceAt (buffer : Buffer) (bounds : Bounds) (spot : Spot) (piece : Piece) : Type 0 where
  pub fragment : Fragment
  pub bytes : fragment.bytes ≡ piece.bytes.now
  pub dropped : fragment.dropped ≡ piece.dropped
  pub links : rows_of buffer bounds.sequence (cursor_of spot)
      ≡ with_piece (record { at = cursor_of spot; fragment = fragment; runs_on = piece.runs_on })
      (cursor_of piece.behind) piece.headless piece.awaits (rows_of buffer bounds.sequence (cursor_of piece.behind))
  pub behind : IsSpot buffer bounds piece.behind
  pub further : reach_of spot + length piece.bytes.now < reach_of piece.behind
  pub near : reach_of piece.behind ≤ 2 ^ 59

-- a chunk that isn't there
pub record IsGapAt (buffer : Buffer) (bounds : Bounds) (spot : Spot) (lost : Bool) : Type 0 where
  pub links : rows_of buffer bounds.sequence (cursor_of spot)
      ≡ Gap (cursor_of spot) (place (suc spot.chunk_id) 0) lost
      ∷ rows_of buffer bounds.sequence (place (suc spot.chunk_id) 0)
  pub before : spot.chunk_id < bounds.end

-- the stop place
pub record IsStopAt (links : List Link) (why : Why) (may : Bool) : Type 0 where
  pub at : Cursor
  pub reason : row.Why
  pub links_are : links ≡ row.Stop at reason may ∷ []
  pub told : why_of reason at.chunk_id ≡ why

-- what the row shows at a spot: a fragment, a gap, or the stop place
abbrev pub Shows : Buffer → Bounds → Spot → Step → Type 0
Shows buffer bounds spot (step.Fragment piece) = IsPieceAt buffer bounds spot piece
Shows buffer bounds spot (step.Gap lost) = IsGapAt buffer bounds spot lost
Shows buffer bounds spot (step.Stop why may) = IsStopAt (rows_of buffer bounds.sequence (cursor_of spot)) why may
