-- The links of a row stand in rising places, and its chains begin in chunks that are there.
use Rattle.std.proofs.Common.{◌≡◌, ℕ, suc, max, Bool, true, false, not, ◌&&◌, ◌||◌, List, [], ◌∷◌, ◌++◌, length, drop, refl, sym, subst, arith, inl, inr}
use Rattle.std.specs.Prelude.{cond, ◌==◌}
use Rattle.trace_model.specs.Images.{Fragment, Chunk}
use Rattle.trace_model.specs.Sequences.{Cursor}
use Rattle.trace_model.specs.Row.{Slot, Here, Gone, Never, Piece, Chain, CutOff, Link, Joined, Gap, Stop, Missing, Partial, Unpatched, joined_to, with_piece, place, is_last, is_part, place_behind, chunk_links, row_of, chain_of}
use Rattle.trace_model.specs.RowLaws.{Before, UpTo, Rises, RowsRise}
use Rattle.trace_model.proofs.CursorLemmas.{up_to_up_to, before_up_to, before_then, same_up_to}

-- each chain begins in a chunk with the property
abbrev pub EachChain : (ℕ → Type 0) → List Link → Type 0
EachChain P [] = Unit {0}
EachChain P (Joined chain ∷ links) = P chain.at.chunk_id × EachChain P links
EachChain P (Gap here next lost ∷ links) = EachChain P links
EachChain P (Stop here why may ∷ links) = EachChain P links

abbrev pub Stands : (ℕ → Type 0) → Cursor → List Link → Type 0
Stands P at links = Rises at links × EachChain P links

rises_from : (a b : Cursor) (links : List Link) → UpTo a b → Rises b links → Rises a links
rises_from a b [] h k = tt
rises_from a b (Joined chain ∷ links) h k = (up_to_up_to a b chain.at h k.0, k.1, k.2)
rises_from a b (Gap here next lost ∷ links) h k = (up_to_up_to a b here h k.0, k.1, k.2)
rises_from a b (Stop here why may ∷ links) h k = tt

module _ (P : ℕ → Type 0) where
  stands_joined : (at : Cursor) (chain : Chain) (links : List Link) → UpTo at chain.at → Before chain.at chain.next → P chain.at.chunk_id
      → Stands P chain.next links → Stands P at (joined_to chain links)
  stands_joined at chain [] h k p s = ((h, k, tt), (p, tt))
  stands_joined at chain (Joined rest ∷ links) h k p s = step rest.headless
    where
      step : (b : Bool) → Stands P at (cond b
          (Joined (record chain { next = rest.next; pieces = chain.pieces ++ rest.pieces; awaits = chain.awaits || rest.awaits; fate = rest.fate }) ∷ links)
          (Joined (record chain { fate = CutOff }) ∷ Joined rest ∷ links))
      step true = ((h, before_up_to chain.at chain.next rest.next k (up_to_up_to chain.next rest.at rest.next s.0.0 (before_then rest.at rest.next s.0.1)), s.0.2), (p, s.1.1))
      step false = ((h, k, s.0), (p, s.1))
  stands_joined at chain (Gap here next lost ∷ links) h k p s = ((h, k, s.0), (p, s.1))
  stands_joined at chain (Stop here why may ∷ links) h k p s = ((h, k, tt), (p, s.1))

  stands_piece : (piece : Piece) (next : Cursor) (headless awaits : Bool) (links : List Link) → Before piece.at next → P piece.at.chunk_id
      → Stands P next links → Stands P piece.at (with_piece piece next headless awaits links)
  stands_piece piece next headless awaits links k p s =
      step (piece.runs_on && not piece.fragment.dropped) (chain_of piece next headless awaits) (same_up_to piece.at) k p refl
    where
      step : (b : Bool) (chain : Chain) → UpTo piece.at chain.at → Before chain.at chain.next → P chain.at.chunk_id → chain.next ≡ next → Stands P piece.at (cond b (joined_to chain links) (Joined chain ∷ links))
      step true chain h k p e = stands_joined piece.at chain links h k p (subst (λ (at : Cursor). Stands P at links) (sym e) s)
      step false chain h k p e = ((h, k, subst (λ (at : Cursor). Rises at links) (sym e) s.0), (p, s.1))

-- Chunks

behind : (stays : Bool) (chunk_id passed : ℕ) (last : Bool) → Before (place chunk_id passed) (place_behind stays chunk_id passed last)
behind stays chunk_id passed last = step (last && not stays)
  where
    step : (b : Bool) → Before (place chunk_id passed) (cond b (place (suc chunk_id) 0) (place chunk_id (suc passed)))
    step true = inl (omega arith)
    step false = inr (refl, omega arith)

module _ (P : ℕ → Type 0) (closed : Bool) where
  stands_chunk : (fragments : List Fragment) (chunk_id passed : ℕ) (chunk : Chunk) (rest : List Link) → P chunk_id
      → ((k : ℕ) → Rises (place_behind (is_part closed chunk) chunk_id k true) rest) → EachChain P rest
      → Stands P (place chunk_id passed) (chunk_links closed chunk_id chunk passed fragments rest)
  stands_chunk [] chunk_id passed chunk rest p h e = (
    rises_from (place chunk_id passed) (place_behind (is_part closed chunk) chunk_id passed true) rest
        (before_then (place chunk_id passed) (place_behind (is_part closed chunk) chunk_id passed true) (behind (is_part closed chunk) chunk_id passed true)) (h passed),
    e,
  )
  stands_chunk (fragment ∷ others) chunk_id passed chunk rest p h e =
      stops ((chunk.awaits && is_last others) && not closed) (next_stands others (stands_chunk others chunk_id (suc passed) chunk rest p h e))
    where
      next_stands : (fs : List Fragment) → Stands P (place chunk_id (suc passed)) (chunk_links closed chunk_id chunk (suc passed) fs rest)
          → Stands P (place_behind (is_part closed chunk) chunk_id passed (is_last fs)) (chunk_links closed chunk_id chunk (suc passed) fs rest)
      next_stands [] s = (h passed, e)
      next_stands (g ∷ gs) s = s

      stops : (b : Bool) → Stands P (place_behind (is_part closed chunk) chunk_id passed (is_last others)) (chunk_links closed chunk_id chunk (suc passed) others rest)
          → Stands P (place chunk_id passed) (cond b
          (Stop (place chunk_id passed) Unpatched (chunk.continues && (passed == 0)) ∷ [])
          (with_piece (record { at = place chunk_id passed; fragment = fragment; runs_on = chunk.runs_on && is_last others })
          (place_behind (is_part closed chunk) chunk_id passed (is_last others)) (chunk.continues && (passed == 0)) (chunk.awaits && is_last others)
          (chunk_links closed chunk_id chunk (suc passed) others rest)))
      stops true s = (tt, tt)
      stops false s = stands_piece P (record { at = place chunk_id passed; fragment = fragment; runs_on = chunk.runs_on && is_last others })
          (place_behind (is_part closed chunk) chunk_id passed (is_last others)) (chunk.continues && (passed == 0)) (chunk.awaits && is_last others)
          (chunk_links closed chunk_id chunk (suc passed) others rest) (behind (is_part closed chunk) chunk_id passed (is_last others)) p s

  -- the property holds of each chunk that is there
  abbrev pub EachHere : ℕ → List Slot → Type 0
  EachHere chunk_id [] = Unit {0}
  EachHere chunk_id (Here chunk ∷ slots) = P chunk_id × EachHere (suc chunk_id) slots
  EachHere chunk_id (Gone ∷ slots) = EachHere (suc chunk_id) slots
  EachHere chunk_id (Never ∷ slots) = EachHere (suc chunk_id) slots

  pub stands_row : (slots : List Slot) (chunk_id passed : ℕ) → EachHere chunk_id slots → Stands P (place chunk_id passed) (row_of closed chunk_id passed slots)
  stands_row [] chunk_id passed h = (tt, tt)
  stands_row (Here chunk ∷ slots) chunk_id passed h =
      after_chunk (is_part closed chunk) refl (stands_row slots (suc chunk_id) 0 h.1)
    where
      rises_part : (b : Bool) → is_part closed chunk ≡ b → Rises (place (suc chunk_id) 0) (row_of closed (suc chunk_id) 0 slots)
          → (k : ℕ) → Rises (place_behind (is_part closed chunk) chunk_id k true)
          (cond b (Stop (place chunk_id (max passed (length chunk.fragments))) Partial false ∷ []) (row_of closed (suc chunk_id) 0 slots))
      rises_part true e s k = tt
      rises_part false e s k = subst (λ (b : Bool). Rises (cond (not b) (place (suc chunk_id) 0) (place chunk_id (suc k))) (row_of closed (suc chunk_id) 0 slots)) (sym e) s

      chains_part : (b : Bool) → EachChain P (row_of closed (suc chunk_id) 0 slots)
          → EachChain P (cond b (Stop (place chunk_id (max passed (length chunk.fragments))) Partial false ∷ []) (row_of closed (suc chunk_id) 0 slots))
      chains_part true s = tt
      chains_part false s = s

      after_chunk : (b : Bool) → is_part closed chunk ≡ b → Stands P (place (suc chunk_id) 0) (row_of closed (suc chunk_id) 0 slots)
          → Stands P (place chunk_id passed)
          (chunk_links closed chunk_id chunk passed (drop passed chunk.fragments)
          (cond b (Stop (place chunk_id (max passed (length chunk.fragments))) Partial false ∷ []) (row_of closed (suc chunk_id) 0 slots)))
      after_chunk b e s = stands_chunk (drop passed chunk.fragments) chunk_id passed chunk
          (cond b (Stop (place chunk_id (max passed (length chunk.fragments))) Partial false ∷ []) (row_of closed (suc chunk_id) 0 slots))
          h.0 (rises_part b e s.0) (chains_part b s.1)
  stands_row (Gone ∷ slots) chunk_id passed h =
      let s : Stands P (place (suc chunk_id) 0) (row_of closed (suc chunk_id) 0 slots) = stands_row slots (suc chunk_id) 0 h in
      ((same_up_to (place chunk_id passed), inl (omega arith), s.0), s.1)
  stands_row (Never ∷ slots) chunk_id passed h = never closed (stands_row slots (suc chunk_id) 0 h)
    where
      never : (b : Bool) → Stands P (place (suc chunk_id) 0) (row_of closed (suc chunk_id) 0 slots)
          → Stands P (place chunk_id passed) (cond b
          (Gap (place chunk_id passed) (place (suc chunk_id) 0) false ∷ row_of closed (suc chunk_id) 0 slots)
          (Stop (place chunk_id passed) Missing true ∷ []))
      never true s = ((same_up_to (place chunk_id passed), inl (omega arith), s.0), s.1)
      never false s = (tt, tt)

rise : (closed : Bool) (slots : List Slot) (chunk_id passed : ℕ) → EachHere (λ n. Unit {0}) closed chunk_id slots → Rises (place chunk_id passed) (row_of closed chunk_id passed slots)
rise closed slots chunk_id passed h = (stands_row (λ n. Unit {0}) closed slots chunk_id passed h).0

each_here : (closed : Bool) (slots : List Slot) (chunk_id : ℕ) → EachHere (λ n. Unit {0}) closed chunk_id slots
each_here closed [] chunk_id = tt
each_here closed (Here chunk ∷ slots) chunk_id = (tt, each_here closed slots (suc chunk_id))
each_here closed (Gone ∷ slots) chunk_id = each_here closed slots (suc chunk_id)
each_here closed (Never ∷ slots) chunk_id = each_here closed slots (suc chunk_id)

pub rows_rise : RowsRise
rows_rise closed slots chunk_id passed = rise closed slots chunk_id passed (each_here closed slots chunk_id)
