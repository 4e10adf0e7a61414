-- A place at which a chain with its start begins in a row of links, or before which a reader stops.
use Rattle.std.proofs.Common.{◌≡◌, ◌∙◌, ℕ, suc, ◌+◌, ◌<◌, ◌≤◌, ◌⊎◌, Bool, true, false, not, ◌&&◌, ◌||◌, List, [], ◌∷◌, ◌++◌, length, refl, sym, ap, subst, arith, inl, inr}
use Rattle.std.specs.Prelude.{cond, ◌==◌}
use Rattle.std.proofs.lemmas.Bool.{false≢true, cases_eq, and_parts}
use Rattle.trace_model.specs.Images.{Chunk, Fragment}
use Rattle.trace_model.specs.Sequences.{Cursor}
use Rattle.trace_model.specs.Row.{Piece, Chain, CutOff, Link, Joined, Gap, Stop, Unpatched, joined_to, with_piece, chain_of, place, place_behind, is_last, is_part, chunk_links}

-- a chain with its start begins at the place, or the row stops at one that counts
abbrev pub Started : (Cursor → Cursor → Type 0) → Cursor → List Link → Type 0
Started Stops at [] = ⊥
Started Stops at (Joined chain ∷ links) = ((chain.at ≡ at) × (chain.headless ≡ false)) ⊎ Started Stops at links
Started Stops at (Gap here next lost ∷ links) = Started Stops at links
Started Stops at (Stop here why may ∷ links) = Stops here at

module _ (Stops : Cursor → Cursor → Type 0) where
  joined_keeps : (at : Cursor) (chain : Chain) (links : List Link) → Started Stops at links → Started Stops at (joined_to chain links)
  joined_keeps at chain [] h = absurd h
  joined_keeps at chain (Joined rest ∷ links) h = step rest.headless refl h
    where
      step : (b : Bool) → rest.headless ≡ b → ((rest.at ≡ at) × (rest.headless ≡ false)) ⊎ Started Stops at links
          → Started Stops at (cond b
          (Joined (record chain { next = rest.next; pieces = chain.pieces ++ rest.pieces; awaits = chain.awaits || rest.awaits; fate = rest.fate }) ∷ links)
          (Joined (record chain { fate = CutOff }) ∷ Joined rest ∷ links))
      step true e (inl here) = absurd (false≢true (sym here.1 ∙ e))
      step true e (inr there) = inr there
      step false e k = inr k
  joined_keeps at chain (Gap here next lost ∷ links) h = inr h
  joined_keeps at chain (Stop here why may ∷ links) h = inr h

  joined_starts : (chain : Chain) (links : List Link) → chain.headless ≡ false → Started Stops chain.at (joined_to chain links)
  joined_starts chain [] h = inl (refl, h)
  joined_starts chain (Joined rest ∷ links) h = step rest.headless
    where
      step : (b : Bool) → Started Stops chain.at (cond b
          (Joined (record chain { next = rest.next; pieces = chain.pieces ++ rest.pieces; awaits = chain.awaits || rest.awaits; fate = rest.fate }) ∷ links)
          (Joined (record chain { fate = CutOff }) ∷ Joined rest ∷ links))
      step true = inl (refl, h)
      step false = inl (refl, h)
  joined_starts chain (Gap here next lost ∷ links) h = inl (refl, h)
  joined_starts chain (Stop here why may ∷ links) h = inl (refl, h)

  piece_keeps : (at : Cursor) (piece : Piece) (next : Cursor) (headless awaits : Bool) (links : List Link) → Started Stops at links
      → Started Stops at (with_piece piece next headless awaits links)
  piece_keeps at piece next headless awaits links h = step (piece.runs_on && not piece.fragment.dropped)
    where
      step : (b : Bool) → Started Stops at (cond b (joined_to (chain_of piece next headless awaits) links) (Joined (chain_of piece next headless awaits) ∷ links))
      step true = joined_keeps at (chain_of piece next headless awaits) links h
      step false = inr h

  piece_starts : (piece : Piece) (next : Cursor) (headless awaits : Bool) (links : List Link) → headless ≡ false
      → Started Stops piece.at (with_piece piece next headless awaits links)
  piece_starts piece next headless awaits links h = step (piece.runs_on && not piece.fragment.dropped)
    where
      step : (b : Bool) → Started Stops piece.at (cond b (joined_to (chain_of piece next headless awaits) links) (Joined (chain_of piece next headless awaits) ∷ links))
      step true = joined_starts (chain_of piece next headless awaits) links h
      step false = inl (refl, h)

  -- Chunks

  module _ (closed : Bool) (chunk_id : ℕ) (chunk : Chunk) (rest : List Link) where
    abbrev piece_in : ℕ → Fragment → List Fragment → Piece
    piece_in passed fragment others = record { at = place chunk_id passed; fragment = fragment; runs_on = chunk.runs_on && is_last others }

    -- the links of a fragment before those of the others
    abbrev first_links : Bool → ℕ → Fragment → List Fragment → List Link
    first_links stops passed fragment others =
        cond stops (Stop (place chunk_id passed) Unpatched (chunk.continues && (passed == 0)) ∷ [])
        (with_piece (piece_in passed fragment others) (place_behind (is_part closed chunk) chunk_id passed (is_last others)) (chunk.continues && (passed == 0))
        (chunk.awaits && is_last others) (chunk_links closed chunk_id chunk (suc passed) others rest))

    awaits : (others : List Fragment) → ((chunk.awaits && is_last others) && not closed) ≡ true → chunk.awaits ≡ true
    awaits others e = (and_parts chunk.awaits (is_last others) (and_parts (chunk.awaits && is_last others) (not closed) e).0).0

    -- a place behind all these fragments
    pub chunk_keeps : (at : Cursor) (fragments : List Fragment) (passed : ℕ) → ((p : ℕ) → p < passed + length fragments → chunk.awaits ≡ true → Stops (place chunk_id p) at)
        → Started Stops at rest → Started Stops at (chunk_links closed chunk_id chunk passed fragments rest)
    chunk_keeps at [] passed behind h = h
    chunk_keeps at (fragment ∷ others) passed behind h =
        step ((chunk.awaits && is_last others) && not closed) refl (chunk_keeps at others (suc passed) (λ p low. behind p (omega (arith, low))) h)
      where
        step : (b : Bool) → ((chunk.awaits && is_last others) && not closed) ≡ b → Started Stops at (chunk_links closed chunk_id chunk (suc passed) others rest) → Started Stops at (first_links b passed fragment others)
        step true e k = behind passed (omega arith) (awaits others e)
        step false e k = piece_keeps at (piece_in passed fragment others) (place_behind (is_part closed chunk) chunk_id passed (is_last others))
            (chunk.continues && (passed == 0)) (chunk.awaits && is_last others) (chunk_links closed chunk_id chunk (suc passed) others rest) k

    -- a place among them
    pub chunk_starts : (k : ℕ) (fragments : List Fragment) (passed : ℕ) → passed ≤ k → k < passed + length fragments → (chunk.continues && (k == 0)) ≡ false
        → ((p : ℕ) → p ≤ k → chunk.awaits ≡ true → Stops (place chunk_id p) (place chunk_id k))
        → Started Stops (place chunk_id k) (chunk_links closed chunk_id chunk passed fragments rest)
    chunk_starts k [] passed low high begins stops = absurd (omega (arith, low, high))
    chunk_starts k (fragment ∷ others) passed low high begins stops =
        step ((chunk.awaits && is_last others) && not closed) refl (cases_eq passed k)
        (λ d. chunk_starts k others (suc passed) (grind (arith, low, d)) (omega (arith, high)) begins stops)
      where
        step : (b : Bool) → ((chunk.awaits && is_last others) && not closed) ≡ b → ((passed ≡ k) ⊎ (passed ≡ k → ⊥)) → ((passed ≡ k → ⊥) → Started Stops (place chunk_id k) (chunk_links closed chunk_id chunk (suc passed) others rest))
            → Started Stops (place chunk_id k) (first_links b passed fragment others)
        step true e is later = stops passed low (awaits others e)
        step false e (inl same) later =
            subst (λ (n : ℕ). Started Stops (place chunk_id n) (first_links false passed fragment others)) same
            (piece_starts (piece_in passed fragment others) (place_behind (is_part closed chunk) chunk_id passed (is_last others))
            (chunk.continues && (passed == 0)) (chunk.awaits && is_last others) (chunk_links closed chunk_id chunk (suc passed) others rest)
            (ap (λ (n : ℕ). chunk.continues && (n == 0)) same ∙ begins))
        step false e (inr other) later =
            piece_keeps (place chunk_id k) (piece_in passed fragment others) (place_behind (is_part closed chunk) chunk_id passed (is_last others))
            (chunk.continues && (passed == 0)) (chunk.awaits && is_last others) (chunk_links closed chunk_id chunk (suc passed) others rest) (later other)
