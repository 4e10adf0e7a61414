-- Where the innermost open length stands: in the held chunk or in an earlier one.
use Rattle.std.proofs.Common.{◌≡◌, ◌≢◌, ◌∙◌, ℕ, ◌+◌, ◌-◌, ◌<◌, ◌≤◌, List, [], ◌∷◌, ◌++◌, length, arith, inl, inr}
use Rattle.std.proofs.lemmas.Bool.{cases_lt}
use Rattle.trace_model.specs.Images.{Patch, with_bytes}
use Rattle.trace_model.specs.Packets.{flat, open_length}
use Rattle.trace_model.specs.Row.{Piece, bytes_of}
use Rattle.trace_model.specs.Sent.{chunk_at, offset_at}
use Rattle.cut_steps.specs.Pieces.{StandInOnePiece}
use Rattle.cut_steps.specs.Growth.{HasBytes}
use Rattle.cut_steps.proofs.Places.{chunk_at-below, length_with_bytes, stands_within}
use Rattle.cut_steps.proofs.GrowingPlaces.{chunk_at-append, offset_at-append, chunk_at-last, offset_at-last, stands-earlier, length_bytes-one}

-- four bytes at a place of the packet stand in the held chunk's piece, at this offset
pub record StandsHere (earlier : List Piece) (piece : Piece) (place offset : ℕ) : Type 0 where
  pub behind : length (bytes_of earlier) ≤ place
  pub low : piece.fragment.offset ≤ offset
  pub high : offset + 4 ≤ piece.fragment.offset + length piece.fragment.bytes
  pub place_is : offset - piece.fragment.offset ≡ place - length (bytes_of earlier)

pub stands_here : (patches : List Patch) (first : ℕ) (earlier : List Piece) (piece : Piece) (level outer : List ℕ) (others : List (List ℕ)) (offset : ℕ)
    → HasBytes patches first earlier piece (level ∷ outer ∷ others)
    → chunk_at (earlier ++ piece ∷ []) (length (flat open_length (outer ∷ others))) ≡ piece.at.chunk_id
    → offset ≡ offset_at (earlier ++ piece ∷ []) (length (flat open_length (outer ∷ others)))
    → StandsHere earlier piece (length (flat open_length (outer ∷ others))) offset
stands_here patches first earlier piece level outer others offset h chunk place_is = elim (cases_lt (length (flat open_length (outer ∷ others))) (length (bytes_of earlier))) [
  | inl lt ↦
      let place : ℕ = length (flat open_length (outer ∷ others)) in
      absurd (omega (arith, chunk_at-append earlier (piece ∷ []) place lt, chunk_at-below earlier first place h.follows lt, chunk, h.chunk))
  | inr ge ↦
      let place : ℕ = length (flat open_length (outer ∷ others)) in
      let within : place + 4 ≤ length (bytes_of (earlier ++ piece ∷ [])) = stands_within (earlier ++ piece ∷ []) place h.stand.0 in
      let long : length (bytes_of (earlier ++ piece ∷ [])) ≡ length (bytes_of earlier) + length piece.fragment.bytes = length_bytes-one earlier piece in
      let at : offset ≡ piece.fragment.offset + (place - length (bytes_of earlier)) =
      place_is ∙ offset_at-last earlier piece place ge (omega (arith, within, long)) in
      record {
        behind = ge;
        low = omega (arith, at);
        high = omega (arith, at, within, long, ge);
        place_is = omega (arith, at);
      }
]

-- four bytes at a place of the packet stand in an earlier piece
pub record StandsEarlier (earlier : List Piece) (piece : Piece) (place chunk_id offset : ℕ) : Type 0 where
  pub before : place < length (bytes_of earlier)
  pub stands : StandInOnePiece earlier place
  pub chunk : chunk_id ≡ chunk_at earlier place
  pub place_is : offset ≡ offset_at earlier place
  pub lower : chunk_id < piece.at.chunk_id

pub stands_earlier : (patches : List Patch) (first : ℕ) (earlier : List Piece) (piece : Piece) (level outer : List ℕ) (others : List (List ℕ)) (chunk_id offset : ℕ)
    → HasBytes patches first earlier piece (level ∷ outer ∷ others)
    → chunk_id ≡ chunk_at (earlier ++ piece ∷ []) (length (flat open_length (outer ∷ others)))
    → offset ≡ offset_at (earlier ++ piece ∷ []) (length (flat open_length (outer ∷ others)))
    → chunk_id ≢ piece.at.chunk_id
    → StandsEarlier earlier piece (length (flat open_length (outer ∷ others))) chunk_id offset
stands_earlier patches first earlier piece level outer others chunk_id offset h chunk place_is apart = elim (cases_lt (length (flat open_length (outer ∷ others))) (length (bytes_of earlier))) [
  | inl lt ↦
      let place : ℕ = length (flat open_length (outer ∷ others)) in
      let chunk_is : chunk_id ≡ chunk_at earlier place = chunk ∙ chunk_at-append earlier (piece ∷ []) place lt in
      record {
        before = lt;
        stands = stands-earlier earlier piece place lt h.stand.0;
        chunk = chunk_is;
        place_is = place_is ∙ offset_at-append earlier (piece ∷ []) place lt;
        lower = omega (arith, chunk_is, chunk_at-below earlier first place h.follows lt, h.chunk);
      }
  | inr ge ↦
      let place : ℕ = length (flat open_length (outer ∷ others)) in
      let within : place + 4 ≤ length (bytes_of (earlier ++ piece ∷ [])) = stands_within (earlier ++ piece ∷ []) place h.stand.0 in
      absurd (apart (chunk ∙ chunk_at-last earlier piece place ge (omega (arith, within, length_bytes-one earlier piece))))
]

-- the four bytes are put in within the piece
pub length_put_here : (earlier : List Piece) (piece : Piece) (place offset : ℕ) (v : List ℕ) → length v ≡ 4 → StandsHere earlier piece place offset
    → length (with_bytes piece.fragment.bytes (offset - piece.fragment.offset) v) ≡ length piece.fragment.bytes
length_put_here earlier piece place offset v four here =
    length_with_bytes piece.fragment.bytes v (offset - piece.fragment.offset) (omega (arith, here.low, here.high, four))
