-- A read delivers no more packets than the buffer's records have fragments. So a limit that allows for that leaves enough for each read of a row.
use Rattle.std.proofs.Common.{◌≡◌, ℕ, zero, suc, ◌+◌, ◌-◌, ◌*◌, ◌<◌, ◌≤◌, max, Bool, true, false, not, ◌&&◌, ◌||◌, List, [], ◌∷◌, ◌++◌, length, drop, Option, Some, None, refl, sym, ap, subst, arith, mul-le-mul_right, suc-mul}
use Rattle.std.specs.Prelude.{cond, ◌==◌, find, is_some}
use Rattle.std.proofs.lemmas.Bool.{and_parts, eqb-true}
use Rattle.trace_base.specs.declared.limits.TheConstants.{MAX_FRAGMENTS}
use Rattle.trace_model.specs.Buffers.{Buffer, BufferRecord, is_of, live_at}
use Rattle.trace_model.specs.Counts.{one_if}
use Rattle.trace_model.specs.Images.{Chunk, Fragment}
use Rattle.trace_model.specs.Reads.{delivered_by, delivered_of, delivers, ends, is_marked, link_bytes, passed_by, turn_of}
use Rattle.trace_model.specs.Row.{Slot, Here, Gone, Never, Piece, Chain, CutOff, Link, Joined, Gap, Stop, Missing, Partial, Unpatched, chain_of, chunk_links, horizon, is_last, is_part, joined_to, place, place_behind, row_from_cursor, row_of, slot_from, slots_of, with_piece}
use Rattle.trace_model.specs.Sequences.{Cursor, Sequence, has_arrived, is_among, sequence_in}
use Rattle.trace_model.specs.Written.{chains_in}
use Rattle.trace_model.proofs.CursorLemmas.{Each}
use Rattle.commit_laws.proofs.CommitCounts.{IsSmall}

-- The chains of a row

joined_most : (chain : Chain) (links : List Link) → length (chains_in (joined_to chain links)) ≤ suc (length (chains_in links))
joined_most chain [] = omega arith
joined_most chain (Gap at next lost ∷ links) = omega arith
joined_most chain (Stop at why may ∷ links) = omega arith
joined_most chain (Joined other ∷ links) = by_head other.headless
  where
    by_head : (b : Bool) → length (chains_in (cond b
        (Joined (record chain { next = other.next; pieces = chain.pieces ++ other.pieces; awaits = chain.awaits || other.awaits; fate = other.fate }) ∷ links)
        (Joined (record chain { fate = CutOff }) ∷ Joined other ∷ links))) ≤ suc (suc (length (chains_in links)))
    by_head true = omega arith
    by_head false = omega arith

piece_most : (piece : Piece) (next : Cursor) (headless awaits : Bool) (links : List Link) → length (chains_in (with_piece piece next headless awaits links)) ≤ suc (length (chains_in links))
piece_most piece next headless awaits links = step (piece.runs_on && not piece.fragment.dropped)
  where
    step : (b : Bool) → length (chains_in (cond b (joined_to (chain_of piece next headless awaits) links) (Joined (chain_of piece next headless awaits) ∷ links))) ≤ suc (length (chains_in links))
    step true = joined_most (chain_of piece next headless awaits) links
    step false = omega arith

chunk_most : (closed : Bool) (chunk_id : ℕ) (chunk : Chunk) (fragments : List Fragment) (passed : ℕ) (rest : List Link)
    → length (chains_in (chunk_links closed chunk_id chunk passed fragments rest)) ≤ length fragments + length (chains_in rest)
chunk_most closed chunk_id chunk [] passed rest = omega arith
chunk_most closed chunk_id chunk (f ∷ fs) passed rest = by_stop ((chunk.awaits && is_last fs) && not closed) (chunk_most closed chunk_id chunk fs (suc passed) rest)
  where
    by_stop : (b : Bool) → length (chains_in (chunk_links closed chunk_id chunk (suc passed) fs rest)) ≤ length fs + length (chains_in rest)
        → length (chains_in (cond b (Stop (place chunk_id passed) Unpatched (chunk.continues && (passed == 0)) ∷ [])
        (with_piece (record { at = place chunk_id passed; fragment = f; runs_on = chunk.runs_on && is_last fs }) (place_behind (is_part closed chunk) chunk_id passed (is_last fs))
        (chunk.continues && (passed == 0)) (chunk.awaits && is_last fs) (chunk_links closed chunk_id chunk (suc passed) fs rest))))
        ≤ suc (length fs) + length (chains_in rest)
    by_stop true low = omega arith
    by_stop false low =
        let one = piece_most (record { at = place chunk_id passed; fragment = f; runs_on = chunk.runs_on && is_last fs }) (place_behind (is_part closed chunk) chunk_id passed (is_last fs))
        (chunk.continues && (passed == 0)) (chunk.awaits && is_last fs) (chunk_links closed chunk_id chunk (suc passed) fs rest) in
        omega (arith, one, low)

-- how many fragments these slots have
abbrev in_slots : List Slot → ℕ
in_slots [] = 0
in_slots (Here chunk ∷ slots) = length chunk.fragments + in_slots slots
in_slots (Gone ∷ slots) = in_slots slots
in_slots (Never ∷ slots) = in_slots slots

row_most : (closed : Bool) (slots : List Slot) (chunk_id passed : ℕ) → length (chains_in (row_of closed chunk_id passed slots)) ≤ in_slots slots
row_most closed [] chunk_id passed = omega arith
row_most closed (Here chunk ∷ slots) chunk_id passed =
    let one = chunk_most closed chunk_id chunk (drop passed chunk.fragments) passed
    (cond (is_part closed chunk) (Stop (place chunk_id (max passed (length chunk.fragments))) Partial false ∷ []) (row_of closed (suc chunk_id) 0 slots)) in
    let less = dropped passed chunk.fragments in
    let rest = by_part (is_part closed chunk) (row_most closed slots (suc chunk_id) 0) in
    omega (arith, one, less, rest)
  where
    dropped : (n : ℕ) (fs : List Fragment) → length (drop n fs) ≤ length fs
    dropped zero fs = omega arith
    dropped (suc n) [] = omega arith
    dropped (suc n) (f ∷ fs) = let rest = dropped n fs in omega (arith, rest)

    by_part : (b : Bool) → length (chains_in (row_of closed (suc chunk_id) 0 slots)) ≤ in_slots slots
        → length (chains_in (cond b (Stop (place chunk_id (max passed (length chunk.fragments))) Partial false ∷ []) (row_of closed (suc chunk_id) 0 slots))) ≤ in_slots slots
    by_part true low = omega arith
    by_part false low = low
row_most closed (Gone ∷ slots) chunk_id passed = row_most closed slots (suc chunk_id) 0
row_most closed (Never ∷ slots) chunk_id passed = by_closed closed (row_most closed slots (suc chunk_id) 0)
  where
    by_closed : (c : Bool) → length (chains_in (row_of closed (suc chunk_id) 0 slots)) ≤ in_slots slots
        → length (chains_in (cond c (Gap (place chunk_id passed) (place (suc chunk_id) 0) false ∷ row_of closed (suc chunk_id) 0 slots) (Stop (place chunk_id passed) Missing true ∷ []))) ≤ in_slots slots
    by_closed true low = low
    by_closed false low = omega arith

delivered_most : (links : List Link) (limit : ℕ) (marked : Bool) → length (delivered_of marked (passed_by limit links)) ≤ length (chains_in links)
delivered_most [] limit marked = omega arith
delivered_most (Stop at why may ∷ links) limit marked = omega arith
delivered_most (Gap at next lost ∷ links) limit marked = delivered_most links (limit - one_if false) true
delivered_most (Joined chain ∷ links) limit marked =
    by_end (ends (turn_of (Joined chain)) || (delivers (turn_of (Joined chain)) && (limit == 0)))
    (λ (n : ℕ) (m : Bool). delivered_most links n m)
  where
    by_end : (b : Bool) → ((n : ℕ) (m : Bool) → length (delivered_of m (passed_by n links)) ≤ length (chains_in links))
        → length (delivered_of marked (cond b [] (Joined chain ∷ passed_by (limit - one_if (delivers (turn_of (Joined chain)))) links))) ≤ suc (length (chains_in links))
    by_end true rest = omega arith
    by_end false rest = by_delivers (delivers (turn_of (Joined chain)))
      where
        by_delivers : (d : Bool)
            → length (cond d (record { body = link_bytes (Joined chain); marked = marked } ∷ delivered_of false (passed_by (limit - one_if (delivers (turn_of (Joined chain)))) links))
            (delivered_of true (passed_by (limit - one_if (delivers (turn_of (Joined chain)))) links))) ≤ suc (length (chains_in links))
        by_delivers true = let low = rest (limit - one_if (delivers (turn_of (Joined chain)))) false in omega (arith, low)
        by_delivers false = let low = rest (limit - one_if (delivers (turn_of (Joined chain)))) true in omega (arith, low)

-- The records that slots show

module _ (q : ℕ) where
  -- how many of so many ids from this one on have a record
  abbrev found : ℕ → ℕ → List BufferRecord → ℕ
  found zero i live = 0
  found (suc count) i live = cond {A = ℕ} (is_some (find (is_of q i) live)) 1 0 + found count (suc i) live

  -- how many of them are those of the record
  abbrev matches : ℕ → ℕ → BufferRecord → ℕ
  matches zero i r = 0
  matches (suc count) i r = cond {A = ℕ} (is_of q i r) 1 0 + matches count (suc i) r

  no_match : (count i : ℕ) (r : BufferRecord) → r.chunk_id < i → matches count i r ≡ 0
  no_match zero i r low = refl
  no_match (suc count) i r low =
      let rest = no_match count (suc i) r (omega (arith, low)) in
      let none : is_of q i r ≡ false = never (is_of q i r) refl in
      let zero_here = ap (λ (b : Bool). cond {A = ℕ} b 1 0) none in
      omega (arith, rest, zero_here)
    where
      never : (b : Bool) → is_of q i r ≡ b → is_of q i r ≡ false
      never true e = let same = eqb-true r.chunk_id i (and_parts (r.sequence == q) (r.chunk_id == i) e).1 in absurd (omega (arith, same, low))
      never false e = e

  one_match : (count i : ℕ) (r : BufferRecord) → matches count i r ≤ 1
  one_match zero i r = omega arith
  one_match (suc count) i r = by_match (is_of q i r) refl (one_match count (suc i) r)
    where
      by_match : (b : Bool) → is_of q i r ≡ b → matches count (suc i) r ≤ 1 → cond {A = ℕ} b 1 0 + matches count (suc i) r ≤ 1
      by_match true e rest =
          let same = eqb-true r.chunk_id i (and_parts (r.sequence == q) (r.chunk_id == i) e).1 in
          let none = no_match count (suc i) r (omega (arith, same)) in
          omega (arith, none)
      by_match false e rest = omega (arith, rest)

  none_found : (count i : ℕ) → found count i [] ≡ 0
  none_found zero i = refl
  none_found (suc count) i = let rest = none_found count (suc i) in omega (arith, rest)

  found_more : (count i : ℕ) (r : BufferRecord) (rs : List BufferRecord) → found count i (r ∷ rs) ≤ matches count i r + found count i rs
  found_more zero i r rs = omega arith
  found_more (suc count) i r rs = let rest = found_more count (suc i) r rs in let one = here (is_of q i r) in omega (arith, rest, one)
    where
      here : (b : Bool) → cond {A = ℕ} (is_some (cond b (Some r) (find (is_of q i) rs))) 1 0 ≤ cond {A = ℕ} b 1 0 + cond {A = ℕ} (is_some (find (is_of q i) rs)) 1 0
      here true = omega arith
      here false = omega arith

  found_most : (live : List BufferRecord) (count i : ℕ) → found count i live ≤ length live
  found_most [] count i = let none = none_found count i in omega (arith, none)
  found_most (r ∷ rs) count i =
      let more = found_more count i r rs in
      let one = one_match count i r in
      let rest = found_most rs count i in
      omega (arith, more, one, rest)

-- a record that is found is one of them
found_short : (P : BufferRecord → Type 0) (test : BufferRecord → Bool) (live : List BufferRecord) (r : BufferRecord) → Each P live → find test live ≡ Some r → P r
found_short P test [] r each e = absurd (cc)
found_short P test (x ∷ xs) r each e = by_first (test x) e (found_short P test xs r each.1)
  where
    by_first : (b : Bool) → cond b (Some x) (find test xs) ≡ Some r → (find test xs ≡ Some r → P r) → P r
    by_first true e rest =
        let same : x ≡ r = cc in
        subst P same each.0
    by_first false e rest = rest e

slots_most : (b : Buffer) (s : Sequence) → Each (λ (r : BufferRecord). length r.chunk.fragments ≤ MAX_FRAGMENTS) b.live → (count i : ℕ)
    → in_slots (slots_of b s i count) ≤ found s.number count i b.live * MAX_FRAGMENTS
slots_most b s short zero i = omega arith
slots_most b s short (suc count) i = by_live (live_at b s.number i) refl (has_arrived s i || is_among i s.final) (slots_most b s short count (suc i))
  where
    by_live : (o : Option BufferRecord) → live_at b s.number i ≡ o → (k : Bool) → in_slots (slots_of b s (suc i) count) ≤ found s.number count (suc i) b.live * MAX_FRAGMENTS
        → in_slots (slot_from o k ∷ slots_of b s (suc i) count) ≤ (cond {A = ℕ} (is_some o) 1 0 + found s.number count (suc i) b.live) * MAX_FRAGMENTS
    by_live (Some r) e k rest =
        let low = found_short (λ (r : BufferRecord). length r.chunk.fragments ≤ MAX_FRAGMENTS) (is_of s.number i) b.live r short e in
        let product = suc-mul (found s.number count (suc i) b.live) MAX_FRAGMENTS in
        let one : 1 + found s.number count (suc i) b.live ≡ suc (found s.number count (suc i) b.live) = omega arith in
        subst (λ (n : ℕ). length r.chunk.fragments + in_slots (slots_of b s (suc i) count) ≤ n * MAX_FRAGMENTS) (sym one) (omega (arith, low, product, rest))
    by_live None e true rest =
        let one : 0 + found s.number count (suc i) b.live ≡ found s.number count (suc i) b.live = omega arith in
        subst (λ (n : ℕ). in_slots (slots_of b s (suc i) count) ≤ n * MAX_FRAGMENTS) (sym one) rest
    by_live None e false rest =
        let one : 0 + found s.number count (suc i) b.live ≡ found s.number count (suc i) b.live = omega arith in
        subst (λ (n : ℕ). in_slots (slots_of b s (suc i) count) ≤ n * MAX_FRAGMENTS) (sym one) rest

-- what a read of a small buffer delivers at most
pub read_most : (n : ℕ) (b : Buffer) (q limit : ℕ) → IsSmall n b.live → length (delivered_by b q limit) ≤ n * MAX_FRAGMENTS
read_most n b q limit is =
    let state : Sequence = sequence_in b.sequences q in
    let links : List Link = row_from_cursor b state in
    let slots : List Slot = slots_of b state state.cursor.chunk_id (horizon state - state.cursor.chunk_id) in
    let one = delivered_most links limit (is_marked state) in
    let two = row_most state.closed slots state.cursor.chunk_id state.cursor.passed in
    let three = slots_most b state is.short (horizon state - state.cursor.chunk_id) state.cursor.chunk_id in
    let four = found_most state.number b.live (horizon state - state.cursor.chunk_id) state.cursor.chunk_id in
    let few = is.few in
    let less : found state.number (horizon state - state.cursor.chunk_id) state.cursor.chunk_id b.live ≤ n = omega (arith, four, few) in
    let product = mul-le-mul_right MAX_FRAGMENTS less in
    omega (arith, one, two, three, product)
