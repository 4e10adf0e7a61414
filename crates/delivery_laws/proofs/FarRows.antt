-- A row whose first chunks are whole and await nothing doesn't end a read before the chunks behind them.
use Rattle.std.proofs.Common.{◌≡◌, ◌∙◌, ℕ, suc, ◌+◌, ◌-◌, ◌<◌, ◌≤◌, ◌⊎◌, max, Bool, true, false, not, ◌&&◌, ◌||◌, List, [], ◌∷◌, ◌++◌, length, drop, refl, sym, ap, subst, arith, inl, inr}
use Rattle.std.specs.Prelude.{cond, ◌==◌}
use Rattle.std.proofs.lemmas.Bool.{false≢true, cases_lt, and_parts, eqb-true}
use Rattle.trace_model.specs.Images.{Chunk, Fragment}
use Rattle.trace_model.specs.Sequences.{Cursor}
use Rattle.trace_model.specs.Counts.{one_if}
use Rattle.trace_model.specs.Row.{Slot, Here, Gone, Never, Piece, Chain, Fate, Whole, Marked, IntoLost, CutOff, Open, Link, Joined, Gap, Stop, Missing, Partial, Unpatched, joined_to, with_piece, chain_of, place, place_behind, is_last, is_part, chunk_links, row_of, bytes_of}
use Rattle.trace_model.specs.Reads.{turn_by, turn_of, delivers, ends, passed_by, left_by, count_of, is_spoilt}
use Rattle.trace_model.specs.Walks.{is_accepted}
use Rattle.model_laws.proofs.PlaceCounts.{count-cons}
use Rattle.delivery_laws.proofs.AdjacentLemmas.{begin_of, NoneEmpty, row_begins}

-- each link that ends a read begins in a chunk from this one on
abbrev pub Far : ℕ → List Link → Type 0
Far n [] = ⊥
Far n (Joined chain ∷ links) = (ends (turn_of (Joined chain)) ≡ true → n ≤ chain.at.chunk_id) × Far n links
Far n (Gap here next lost ∷ links) = Far n links
Far n (Stop here why may ∷ links) = n ≤ here.chunk_id

-- whether a chain ends a read is said by its fate
same_end : (fate : Fate) (headless spoilt other more : Bool) → ends (turn_by fate headless spoilt) ≡ true → ends (turn_by fate other more) ≡ true
same_end Open headless spoilt other more h = refl
same_end Whole true spoilt other more h = absurd (false≢true h)
same_end Whole false true other more h = absurd (false≢true h)
same_end Whole false false other more h = absurd (false≢true h)
same_end Marked true spoilt other more h = absurd (false≢true h)
same_end Marked false spoilt other more h = absurd (false≢true h)
same_end IntoLost true spoilt other more h = absurd (false≢true h)
same_end IntoLost false spoilt other more h = absurd (false≢true h)
same_end CutOff true spoilt other more h = absurd (false≢true h)
same_end CutOff false spoilt other more h = absurd (false≢true h)

gap_ends : (lost headless spoilt : Bool) → ends (turn_by (cond lost IntoLost CutOff) headless spoilt) ≡ true → ⊥
gap_ends true true spoilt h = false≢true h
gap_ends true false spoilt h = false≢true h
gap_ends false true spoilt h = false≢true h
gap_ends false false spoilt h = false≢true h

own_ends : (dropped headless spoilt : Bool) → ends (turn_by (cond dropped Marked Whole) headless spoilt) ≡ true → ⊥
own_ends true true spoilt h = false≢true h
own_ends true false spoilt h = false≢true h
own_ends false true spoilt h = false≢true h
own_ends false false true h = false≢true h
own_ends false false false h = false≢true h

module _ (n : ℕ) where
  -- a chain that is joined to a row which begins before the chunk, or that begins behind it
  joined_far : (chain : Chain) (links : List Link) → Far n links → ((begin_of links).chunk_id < n) ⊎ (n ≤ chain.at.chunk_id) → Far n (joined_to chain links)
  joined_far chain [] far w = absurd far
  joined_far chain (Joined rest ∷ links) far w = step rest.headless
    where
      before : ((rest.at.chunk_id < n) ⊎ (n ≤ chain.at.chunk_id)) → ends (turn_by rest.fate rest.headless (is_spoilt rest)) ≡ true → n ≤ chain.at.chunk_id
      before (inl low) h = let high = far.0 h in absurd (omega (arith, low, high))
      before (inr high) h = high

      step : (b : Bool) → Far n (cond b
          (Joined (record chain { next = rest.next; pieces = chain.pieces ++ rest.pieces; awaits = chain.awaits || rest.awaits; fate = rest.fate }) ∷ links)
          (Joined (record chain { fate = CutOff }) ∷ Joined rest ∷ links))
      step true = ((λ h. before w (same_end rest.fate chain.headless ((chain.awaits || rest.awaits) || not (is_accepted (bytes_of (chain.pieces ++ rest.pieces)))) rest.headless (is_spoilt rest) h)), far.1)
      step false = ((λ h. absurd (gap_ends false chain.headless (is_spoilt chain) h)), far)
  joined_far chain (Gap here next lost ∷ links) far w = ((λ h. absurd (gap_ends lost chain.headless (is_spoilt chain) h)), far)
  joined_far chain (Stop here why may ∷ links) far (inl low) = absurd (omega (arith, far, low))
  joined_far chain (Stop here why may ∷ links) far (inr high) = ((λ h. high), far)

  piece_far : (piece : Piece) (next : Cursor) (headless awaits : Bool) (links : List Link) → Far n links
      → (piece.runs_on ≡ true → ((begin_of links).chunk_id < n) ⊎ (n ≤ piece.at.chunk_id)) → Far n (with_piece piece next headless awaits links)
  piece_far piece next headless awaits links far w = step (piece.runs_on && not piece.fragment.dropped) refl
    where
      step : (b : Bool) → (piece.runs_on && not piece.fragment.dropped) ≡ b
          → Far n (cond b (joined_to (chain_of piece next headless awaits) links) (Joined (chain_of piece next headless awaits) ∷ links))
      step true e = joined_far (chain_of piece next headless awaits) links far (w (and_parts piece.runs_on (not piece.fragment.dropped) e).0)
      step false e = ((λ h. absurd (own_ends piece.fragment.dropped headless (awaits || not (is_accepted (bytes_of (piece ∷ [])))) h)), far)

  module _ (closed : Bool) (chunk_id : ℕ) (chunk : Chunk) (rest : List Link) where
    chunk_far : (fragments : List Fragment) (passed : ℕ) → Far n rest → (chunk.runs_on ≡ true → ((begin_of rest).chunk_id < n) ⊎ (n ≤ chunk_id))
        → (chunk.awaits ≡ true → n ≤ chunk_id) → Far n (chunk_links closed chunk_id chunk passed fragments rest)
    chunk_far [] passed far w a = far
    chunk_far (fragment ∷ others) passed far w a =
        step ((chunk.awaits && is_last others) && not closed) refl (chunk_far others (suc passed) far w a)
      where
        runs : (fs : List Fragment) → (chunk.runs_on && is_last fs) ≡ true → ((begin_of (chunk_links closed chunk_id chunk (suc passed) fs rest)).chunk_id < n) ⊎ (n ≤ chunk_id)
        runs [] h = w (and_parts chunk.runs_on true h).0
        runs (g ∷ gs) h = absurd (false≢true (and_parts chunk.runs_on false h).1)

        step : (b : Bool) → ((chunk.awaits && is_last others) && not closed) ≡ b → Far n (chunk_links closed chunk_id chunk (suc passed) others rest)
            → Far n (cond b (Stop (place chunk_id passed) Unpatched (chunk.continues && (passed == 0)) ∷ [])
            (with_piece (record { at = place chunk_id passed; fragment = fragment; runs_on = chunk.runs_on && is_last others })
            (place_behind (is_part closed chunk) chunk_id passed (is_last others)) (chunk.continues && (passed == 0)) (chunk.awaits && is_last others)
            (chunk_links closed chunk_id chunk (suc passed) others rest)))
        step true e k = a (and_parts chunk.awaits (is_last others) (and_parts (chunk.awaits && is_last others) (not closed) e).0).0
        step false e k =
            piece_far (record { at = place chunk_id passed; fragment = fragment; runs_on = chunk.runs_on && is_last others })
            (place_behind (is_part closed chunk) chunk_id passed (is_last others)) (chunk.continues && (passed == 0)) (chunk.awaits && is_last others)
            (chunk_links closed chunk_id chunk (suc passed) others rest) k (runs others)

  -- a chunk before this one is lost, or there whole, awaits nothing, and the last one of them runs on nowhere
  abbrev pub IsDone : ℕ → Slot → Type 0
  IsDone chunk_id (Here chunk) = (chunk.partial ≡ false) × (chunk.awaits ≡ false) × (suc chunk_id ≡ n → chunk.runs_on ≡ false)
  IsDone chunk_id Gone = Unit {0}
  IsDone chunk_id Never = ⊥

  abbrev pub AreDone : ℕ → List Slot → Type 0
  AreDone chunk_id [] = Unit {0}
  AreDone chunk_id (slot ∷ slots) = (chunk_id < n → IsDone chunk_id slot) × AreDone (suc chunk_id) slots

  pub row_far : (closed : Bool) (slots : List Slot) (chunk_id passed : ℕ) → AreDone chunk_id slots → NoneEmpty slots → n ≤ chunk_id + length slots
      → Far n (row_of closed chunk_id passed slots)
  row_far closed [] chunk_id passed done some high = omega (arith, high)
  row_far closed (Here chunk ∷ slots) chunk_id passed done some high =
      by_place (cases_lt chunk_id n) (row_far closed slots (suc chunk_id) 0 done.1 some.1 (omega (arith, high)))
    where
      rest : Bool → List Link
      rest part = cond part (Stop (place chunk_id (max passed (length chunk.fragments))) Partial false ∷ []) (row_of closed (suc chunk_id) 0 slots)

      begins : begin_of (row_of closed (suc chunk_id) 0 slots) ≡ place (suc chunk_id) 0
      begins = row_begins closed slots (suc chunk_id) some.1

      by_place : ((chunk_id < n) ⊎ (n ≤ chunk_id)) → Far n (row_of closed (suc chunk_id) 0 slots)
          → Far n (chunk_links closed chunk_id chunk passed (drop passed chunk.fragments)
          (cond (is_part closed chunk) (Stop (place chunk_id (max passed (length chunk.fragments))) Partial false ∷ []) (row_of closed (suc chunk_id) 0 slots)))
      by_place (inl low) far =
          let is = done.0 low in
          let whole : is_part closed chunk ≡ false = ap (λ (b : Bool). b && not closed) is.0 in
          subst (λ (b : Bool). Far n (chunk_links closed chunk_id chunk passed (drop passed chunk.fragments)
          (cond b (Stop (place chunk_id (max passed (length chunk.fragments))) Partial false ∷ []) (row_of closed (suc chunk_id) 0 slots)))) (sym whole)
          (chunk_far closed chunk_id chunk (row_of closed (suc chunk_id) 0 slots) (drop passed chunk.fragments) passed far
          (λ runs. inl (before (cases_lt (suc chunk_id) n) runs is.2))
          (λ awaits. absurd (false≢true (sym is.1 ∙ awaits))))
        where
          before : ((suc chunk_id < n) ⊎ (n ≤ suc chunk_id)) → chunk.runs_on ≡ true → (suc chunk_id ≡ n → chunk.runs_on ≡ false)
              → (begin_of (row_of closed (suc chunk_id) 0 slots)).chunk_id < n
          before (inl h) runs last = let at = ap (λ (c : Cursor). c.chunk_id) begins in omega (arith, h, at)
          before (inr h) runs last = absurd (false≢true (sym (last (omega (arith, h, low))) ∙ runs))
      by_place (inr behind) far =
          chunk_far closed chunk_id chunk
          (cond (is_part closed chunk) (Stop (place chunk_id (max passed (length chunk.fragments))) Partial false ∷ []) (row_of closed (suc chunk_id) 0 slots))
          (drop passed chunk.fragments) passed (by_part (is_part closed chunk)) (λ runs. inr behind) (λ awaits. behind)
        where
          by_part : (b : Bool) → Far n (cond b (Stop (place chunk_id (max passed (length chunk.fragments))) Partial false ∷ []) (row_of closed (suc chunk_id) 0 slots))
          by_part true = behind
          by_part false = far
  row_far closed (Gone ∷ slots) chunk_id passed done some high = row_far closed slots (suc chunk_id) 0 done.1 some (omega (arith, high))
  row_far closed (Never ∷ slots) chunk_id passed done some high =
      by_close closed (row_far closed slots (suc chunk_id) 0 done.1 some (omega (arith, high))) (cases_lt chunk_id n)
    where
      by_close : (c : Bool) → Far n (row_of closed (suc chunk_id) 0 slots) → ((chunk_id < n) ⊎ (n ≤ chunk_id))
          → Far n (cond c (Gap (place chunk_id passed) (place (suc chunk_id) 0) false ∷ row_of closed (suc chunk_id) 0 slots) (Stop (place chunk_id passed) Missing true ∷ []))
      by_close c far (inl low) = absurd (done.0 low)
      by_close true far (inr behind) = far
      by_close false far (inr behind) = behind

  -- A read that delivers all that is due leaves nothing before the chunk. That it delivers all is said by what a read with one more would deliver.
  pub left_far : (links : List Link) (limit : ℕ) → Far n links → count_of delivers (passed_by (suc limit) links) ≤ limit → n ≤ (begin_of (left_by limit links)).chunk_id
  left_far [] limit far few = absurd far
  left_far (Stop here why may ∷ links) limit far few = far
  left_far (Gap here next lost ∷ links) limit far few =
      let at : suc limit - 0 ≡ suc (limit - 0) = omega arith in
      let low : limit ≡ limit - 0 = omega arith in
      left_far links (limit - 0) far
      (subst (λ (m : ℕ). count_of delivers (passed_by m links) ≤ limit - 0) at (subst (λ (k : ℕ). count_of delivers (passed_by (suc limit - 0) links) ≤ k) low few))
  left_far (Joined chain ∷ links) limit far few =
      step (ends (turn_of (Joined chain))) refl (delivers (turn_of (Joined chain))) refl few
      (λ k. left_far links k far.1)
    where
      counted : count_of delivers (Joined chain ∷ passed_by (suc limit - one_if (delivers (turn_of (Joined chain)))) links)
          ≡ cond {A = ℕ} (delivers (turn_of (Joined chain))) 1 0 + count_of delivers (passed_by (suc limit - one_if (delivers (turn_of (Joined chain)))) links)
      counted = count-cons (λ (l : Link). delivers (turn_of l)) (Joined chain) (passed_by (suc limit - one_if (delivers (turn_of (Joined chain)))) links)

      step : (e : Bool) → ends (turn_of (Joined chain)) ≡ e → (d : Bool) → delivers (turn_of (Joined chain)) ≡ d
          → count_of delivers (cond (e || (d && (suc limit == 0))) [] (Joined chain ∷ passed_by (suc limit - one_if (delivers (turn_of (Joined chain)))) links)) ≤ limit
          → ((k : ℕ) → count_of delivers (passed_by (suc k) links) ≤ k → n ≤ (begin_of (left_by k links)).chunk_id)
          → n ≤ (begin_of (cond (e || (d && (limit == 0))) (Joined chain ∷ links) (left_by (limit - one_if (delivers (turn_of (Joined chain)))) links))).chunk_id
      step true f d g few later = far.0 f
      step false f false g few later =
          subst (λ (b : Bool). n ≤ (begin_of (left_by (limit - one_if b) links)).chunk_id) (sym g)
          (later (limit - 0)
          (let at : suc limit - 0 ≡ suc (limit - 0) = omega arith in
          subst (λ (m : ℕ). count_of delivers (passed_by m links) ≤ limit - 0) at
          (let c = counted in
          let zero_more : cond {A = ℕ} (delivers (turn_of (Joined chain))) 1 0 ≡ 0 = ap (λ (b : Bool). cond {A = ℕ} b 1 0) g in
          let same : count_of delivers (passed_by (suc limit - one_if (delivers (turn_of (Joined chain)))) links) ≡ count_of delivers (passed_by (suc limit - 0) links) =
          ap (λ (b : Bool). count_of delivers (passed_by (suc limit - one_if b) links)) g in
          omega (arith, few, c, zero_more, same))))
      step false f true g few later = by_limit (limit == 0) refl
        where
          one_more : suc (count_of delivers (passed_by (suc limit - 1) links)) ≤ limit
          one_more =
              let c = counted in
              let one : cond {A = ℕ} (delivers (turn_of (Joined chain))) 1 0 ≡ 1 = ap (λ (b : Bool). cond {A = ℕ} b 1 0) g in
              let same : count_of delivers (passed_by (suc limit - one_if (delivers (turn_of (Joined chain)))) links) ≡ count_of delivers (passed_by (suc limit - 1) links) =
              ap (λ (b : Bool). count_of delivers (passed_by (suc limit - one_if b) links)) g in
              let all = by_zero (suc limit == 0) refl few in
              omega (arith, all, c, one, same)
            where
              by_zero : (z : Bool) → (suc limit == 0) ≡ z
                  → count_of delivers (cond z [] (Joined chain ∷ passed_by (suc limit - one_if (delivers (turn_of (Joined chain)))) links)) ≤ limit
                  → count_of delivers (Joined chain ∷ passed_by (suc limit - one_if (delivers (turn_of (Joined chain)))) links) ≤ limit
              by_zero true e h = let no = eqb-true (suc limit) 0 e in absurd (omega (arith, no))
              by_zero false e h = h

          by_limit : (z : Bool) → (limit == 0) ≡ z
              → n ≤ (begin_of (cond z (Joined chain ∷ links) (left_by (limit - one_if (delivers (turn_of (Joined chain)))) links))).chunk_id
          by_limit true e = let no = eqb-true limit 0 e in let low = one_more in absurd (omega (arith, no, low))
          by_limit false e =
              subst (λ (b : Bool). n ≤ (begin_of (left_by (limit - one_if b) links)).chunk_id) (sym g)
              (later (limit - 1)
              (let low = one_more in
              let at : suc limit - 1 ≡ suc (limit - 1) = omega (arith, low) in
              subst (λ (m : ℕ). count_of delivers (passed_by m links) ≤ limit - 1) at (omega (arith, low))))
