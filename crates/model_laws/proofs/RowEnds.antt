-- A row ends with its stop place, and has no other.
use Rattle.std.proofs.Common.{◌≡◌, ℕ, suc, max, Bool, true, false, not, ◌&&◌, ◌||◌, List, [], ◌∷◌, ◌++◌, length, drop, refl}
use Rattle.std.specs.Prelude.{cond, ◌==◌}
use Rattle.trace_model.specs.Images.{Fragment, Chunk}
use Rattle.trace_model.specs.Sequences.{Cursor}
use Rattle.trace_model.specs.Row.{Slot, Here, Gone, Never, Piece, Chain, Whole, Marked, CutOff, Link, Joined, Gap, Stop, Partial, Unpatched, joined_to, with_piece, place, is_last, is_part, place_behind, chunk_links, row_of}

-- nothing stands behind a stop place
abbrev pub StopsLast : List Link → Type 0
StopsLast [] = Unit {0}
StopsLast (Joined chain ∷ links) = StopsLast links
StopsLast (Gap here next lost ∷ links) = StopsLast links
StopsLast (Stop here why may ∷ links) = links ≡ []

joined_stops : (chain : Chain) (links : List Link) → StopsLast links → StopsLast (joined_to chain links)
joined_stops chain [] s = tt
joined_stops chain (Joined rest ∷ links) s = step rest.headless
  where
    step : (b : Bool) → StopsLast (cond b
        (Joined (record chain { next = rest.next; pieces = chain.pieces ++ rest.pieces; awaits = chain.awaits || rest.awaits; fate = rest.fate }) ∷ links)
        (Joined (record chain { fate = CutOff }) ∷ Joined rest ∷ links))
    step true = s
    step false = s
joined_stops chain (Gap here next lost ∷ links) s = s
joined_stops chain (Stop here why may ∷ links) s = s

piece_stops : (piece : Piece) (next : Cursor) (headless awaits : Bool) (links : List Link) → StopsLast links → StopsLast (with_piece piece next headless awaits links)
piece_stops piece next headless awaits links s = step (piece.runs_on && not piece.fragment.dropped) (record {
  at = piece.at;
  next = next;
  headless = headless;
  pieces = piece ∷ [];
  awaits = awaits;
  fate = cond piece.fragment.dropped Marked Whole;
})
  where
    step : (b : Bool) (chain : Chain) → StopsLast (cond b (joined_to chain links) (Joined chain ∷ links))
    step true chain = joined_stops chain links s
    step false chain = s

chunk_stops : (closed : Bool) (fragments : List Fragment) (chunk_id passed : ℕ) (chunk : Chunk) (rest : List Link) → StopsLast rest
    → StopsLast (chunk_links closed chunk_id chunk passed fragments rest)
chunk_stops closed [] chunk_id passed chunk rest s = s
chunk_stops closed (fragment ∷ others) chunk_id passed chunk rest s =
    step ((chunk.awaits && is_last others) && not closed) (chunk_stops closed others chunk_id (suc passed) chunk rest s)
  where
    step : (b : Bool) → StopsLast (chunk_links closed chunk_id chunk (suc passed) others rest)
        → StopsLast (cond b
        (Stop (place chunk_id passed) Unpatched (chunk.continues && (passed == 0)) ∷ [])
        (with_piece (record { at = place chunk_id passed; fragment = fragment; runs_on = chunk.runs_on && is_last others })
        (place_behind (is_part closed chunk) chunk_id passed (is_last others)) (chunk.continues && (passed == 0)) (chunk.awaits && is_last others)
        (chunk_links closed chunk_id chunk (suc passed) others rest)))
    step true k = refl
    step false k = piece_stops (record { at = place chunk_id passed; fragment = fragment; runs_on = chunk.runs_on && is_last others })
        (place_behind (is_part closed chunk) chunk_id passed (is_last others)) (chunk.continues && (passed == 0)) (chunk.awaits && is_last others)
        (chunk_links closed chunk_id chunk (suc passed) others rest) k

pub row_stops : (closed : Bool) (slots : List Slot) (chunk_id passed : ℕ) → StopsLast (row_of closed chunk_id passed slots)
row_stops closed [] chunk_id passed = refl
row_stops closed (Here chunk ∷ slots) chunk_id passed =
    chunk_stops closed (drop passed chunk.fragments) chunk_id passed chunk
    (cond (is_part closed chunk) (Stop (place chunk_id (max passed (length chunk.fragments))) Partial false ∷ []) (row_of closed (suc chunk_id) 0 slots))
    (step (is_part closed chunk) (row_stops closed slots (suc chunk_id) 0))
  where
    step : (b : Bool) → StopsLast (row_of closed (suc chunk_id) 0 slots)
        → StopsLast (cond b (Stop (place chunk_id (max passed (length chunk.fragments))) Partial false ∷ []) (row_of closed (suc chunk_id) 0 slots))
    step true s = refl
    step false s = s
row_stops closed (Gone ∷ slots) chunk_id passed = row_stops closed slots (suc chunk_id) 0
row_stops true (Never ∷ slots) chunk_id passed = row_stops true slots (suc chunk_id) 0
row_stops false (Never ∷ slots) chunk_id passed = refl
