-- The bytes of the packet that is being written: where they stand.
use Rattle.std.specs.Prelude.{◌≡◌, ℕ, ◌+◌, List, [], ◌∷◌, ◌++◌, length, map}
use Rattle.trace_model.specs.Images.{Patch}
use Rattle.trace_model.specs.Packets.{flat, open_places, open_length}
use Rattle.trace_model.specs.Row.{Piece, bytes_of}
use Rattle.cut_steps.specs.RawChains.{settled_piece}
use Rattle.cut_steps.specs.Pieces.{Follows, AllStandIn}

-- the bytes of pieces once patches are put in
abbrev pub settled_bytes : List Patch → List Piece → List ℕ
settled_bytes patches pieces = bytes_of (map (settled_piece patches) pieces)

-- The bytes of these levels stand in pieces of earlier chunks, once these patches are put in, and in one of the held chunk.
pub record HasBytes (patches : List Patch) (first : ℕ) (earlier : List Piece) (piece : Piece) (levels : List (List ℕ)) : Type 0 where
  pub exact : settled_bytes patches earlier ++ piece.fragment.bytes ≡ flat open_length levels
  pub follows : Follows first earlier
  pub chunk : piece.at.chunk_id ≡ first + length earlier
  -- patches change no length
  pub long : length (settled_bytes patches earlier) ≡ length (bytes_of earlier)
  pub stand : AllStandIn (earlier ++ piece ∷ []) (open_places levels)
