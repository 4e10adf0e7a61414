-- Each link of a row ends where the next one begins: so the cursor behind a read stands where the rest of the row begins.
use Rattle.std.proofs.Common.{◌≡◌, ◌∙◌, ℕ, zero, suc, ◌+◌, ◌-◌, ◌<◌, max, Bool, true, false, not, ◌&&◌, ◌||◌, List, [], ◌∷◌, ◌++◌, length, drop, refl, sym, ap, subst, arith}
use Rattle.std.specs.Prelude.{cond, ◌==◌}
use Rattle.trace_model.specs.Images.{Chunk, Fragment}
use Rattle.trace_model.specs.Sequences.{Cursor, first_place}
use Rattle.trace_model.specs.Counts.{one_if}
use Rattle.trace_model.specs.Row.{Slot, Here, Gone, Never, Piece, Chain, CutOff, Link, Joined, Gap, Stop, Partial, Unpatched, joined_to, with_piece, chain_of, place, place_behind, is_part, chunk_links, row_of}
use Rattle.trace_model.specs.Reads.{turn_of, delivers, ends, passed_by, left_by, cursor_after}

-- where a row begins
abbrev pub begin_of : List Link → Cursor
begin_of [] = first_place
begin_of (Joined chain ∷ links) = chain.at
begin_of (Gap at next lost ∷ links) = at
begin_of (Stop at why may ∷ links) = at

abbrev pub Adjacent : List Link → Type 0
Adjacent [] = Unit {0}
Adjacent (Joined chain ∷ links) = (chain.next ≡ begin_of links) × Adjacent links
Adjacent (Gap at next lost ∷ links) = (next ≡ begin_of links) × Adjacent links
Adjacent (Stop at why may ∷ links) = Adjacent links

-- a row of adjacent links that begins at the place
record BeginsAt (at : Cursor) (links : List Link) : Type 0 where
  begins : begin_of links ≡ at
  adjacent : Adjacent links

joined_begins : (chain : Chain) (links : List Link) → Adjacent links → begin_of links ≡ chain.next → BeginsAt chain.at (joined_to chain links)
joined_begins chain [] a b = record { begins = refl; adjacent = (sym b, tt) }
joined_begins chain (Joined rest ∷ links) a b = step rest.headless
  where
    step : (h : Bool) → BeginsAt chain.at (cond h
        (Joined (record chain { next = rest.next; pieces = chain.pieces ++ rest.pieces; awaits = chain.awaits || rest.awaits; fate = rest.fate }) ∷ links)
        (Joined (record chain { fate = CutOff }) ∷ Joined rest ∷ links))
    step true = record { begins = refl; adjacent = (a.0, a.1) }
    step false = record { begins = refl; adjacent = (sym b, a) }
joined_begins chain (Gap at next lost ∷ links) a b = record { begins = refl; adjacent = (sym b, a) }
joined_begins chain (Stop at why may ∷ links) a b = record { begins = refl; adjacent = (sym b, a) }

piece_begins : (piece : Piece) (next : Cursor) (headless awaits : Bool) (links : List Link) → BeginsAt next links
    → BeginsAt piece.at (with_piece piece next headless awaits links)
piece_begins piece next headless awaits links r = step (piece.runs_on && not piece.fragment.dropped)
  where
    step : (b : Bool) → BeginsAt piece.at (cond b (joined_to (chain_of piece next headless awaits) links) (Joined (chain_of piece next headless awaits) ∷ links))
    step true = joined_begins (chain_of piece next headless awaits) links r.adjacent r.begins
    step false = record { begins = refl; adjacent = (sym r.begins, r.adjacent) }

-- the fragments of a chunk before a row that begins behind them
chunk_begins : (closed : Bool) (chunk_id : ℕ) (chunk : Chunk) (rest : List Link) (fragment : Fragment) (others : List Fragment) (k : ℕ)
    → ((n : ℕ) → n ≡ k + suc (length others) → BeginsAt (place_behind (is_part closed chunk) chunk_id (n - 1) true) rest)
    → BeginsAt (place chunk_id k) (chunk_links closed chunk_id chunk k (fragment ∷ others) rest)
chunk_begins closed chunk_id chunk rest fragment [] k r =
    by_stop ((chunk.awaits && true) && not closed)
  where
    by_stop : (b : Bool) → BeginsAt (place chunk_id k) (cond b (Stop (place chunk_id k) Unpatched (chunk.continues && (k == 0)) ∷ [])
        (with_piece (record { at = place chunk_id k; fragment = fragment; runs_on = chunk.runs_on && true })
        (place_behind (is_part closed chunk) chunk_id k true) (chunk.continues && (k == 0)) (chunk.awaits && true) rest))
    by_stop true = record { begins = refl; adjacent = tt }
    by_stop false = piece_begins (record { at = place chunk_id k; fragment = fragment; runs_on = chunk.runs_on && true })
        (place_behind (is_part closed chunk) chunk_id k true) (chunk.continues && (k == 0)) (chunk.awaits && true) rest
        (subst (λ (n : ℕ). BeginsAt (place_behind (is_part closed chunk) chunk_id n true) rest) (omega arith) (r (suc k) (omega arith)))
chunk_begins closed chunk_id chunk rest fragment (next ∷ others) k r =
    by_stop ((chunk.awaits && false) && not closed)
    (chunk_begins closed chunk_id chunk rest next others (suc k) (λ n e. r n (omega (arith, e))))
  where
    by_stop : (b : Bool) → BeginsAt (place chunk_id (suc k)) (chunk_links closed chunk_id chunk (suc k) (next ∷ others) rest)
        → BeginsAt (place chunk_id k) (cond b (Stop (place chunk_id k) Unpatched (chunk.continues && (k == 0)) ∷ [])
        (with_piece (record { at = place chunk_id k; fragment = fragment; runs_on = chunk.runs_on && false })
        (place_behind (is_part closed chunk) chunk_id k false) (chunk.continues && (k == 0)) (chunk.awaits && false)
        (chunk_links closed chunk_id chunk (suc k) (next ∷ others) rest)))
    by_stop true h = record { begins = refl; adjacent = tt }
    by_stop false h = piece_begins (record { at = place chunk_id k; fragment = fragment; runs_on = chunk.runs_on && false })
        (place_behind (is_part closed chunk) chunk_id k false) (chunk.continues && (k == 0)) (chunk.awaits && false)
        (chunk_links closed chunk_id chunk (suc k) (next ∷ others) rest) h

-- no chunk of the slots is empty
abbrev pub NoneEmpty : List Slot → Type 0
NoneEmpty [] = Unit {0}
NoneEmpty (Here chunk ∷ slots) = (0 < length chunk.fragments) × NoneEmpty slots
NoneEmpty (Gone ∷ slots) = NoneEmpty slots
NoneEmpty (Never ∷ slots) = NoneEmpty slots

record IsRow (chunk_id passed : ℕ) (links : List Link) : Type 0 where
  adjacent : Adjacent links
  begins : passed ≡ 0 → begin_of links ≡ place chunk_id 0

here_row : (closed : Bool) (chunk : Chunk) (slots : List Slot) (chunk_id passed : ℕ) → 0 < length chunk.fragments
    → IsRow (suc chunk_id) 0 (row_of closed (suc chunk_id) 0 slots) → IsRow chunk_id passed (row_of closed chunk_id passed (Here chunk ∷ slots))
here_row closed chunk slots chunk_id passed some r = by_left (drop passed chunk.fragments) refl
  where
    rest_adjacent : (b : Bool) → Adjacent (cond b (Stop (place chunk_id (max passed (length chunk.fragments))) Partial false ∷ []) (row_of closed (suc chunk_id) 0 slots))
    rest_adjacent true = tt
    rest_adjacent false = r.adjacent

    rest_begins : (b : Bool) (n : ℕ) → n ≡ max passed (length chunk.fragments) → 0 < n
        → BeginsAt (place_behind b chunk_id (n - 1) true) (cond b (Stop (place chunk_id (max passed (length chunk.fragments))) Partial false ∷ []) (row_of closed (suc chunk_id) 0 slots))
    rest_begins true n e low = record { begins = ap (place chunk_id) (omega (arith, e, low)); adjacent = tt }
    rest_begins false n e low = record { begins = r.begins refl; adjacent = r.adjacent }

    none_is_zero : (xs : List Fragment) → 0 < length xs → (k : ℕ) → k ≡ 0 → drop k xs ≡ [] → ⊥
    none_is_zero [] low k z e = omega (arith, low)
    none_is_zero (x ∷ xs) low zero z e = cc
    none_is_zero (x ∷ xs) low (suc k) z e = omega (arith, z)

    left_long : (k : ℕ) (xs : List Fragment) (x : Fragment) (more : List Fragment) → drop k xs ≡ x ∷ more → length xs ≡ k + suc (length more)
    left_long zero [] x more e = absurd (cc)
    left_long (suc k) [] x more e = absurd (cc)
    left_long zero (y ∷ ys) x more e =
        let same : ys ≡ more = cc in
        let long = ap (λ (zs : List Fragment). length zs) same in
        omega (arith, long)
    left_long (suc k) (y ∷ ys) x more e = let further = left_long k ys x more e in omega (arith, further)

    by_left : (fragments : List Fragment) → drop passed chunk.fragments ≡ fragments
        → IsRow chunk_id passed (chunk_links closed chunk_id chunk passed (drop passed chunk.fragments)
        (cond (is_part closed chunk) (Stop (place chunk_id (max passed (length chunk.fragments))) Partial false ∷ []) (row_of closed (suc chunk_id) 0 slots)))
    by_left [] e =
        subst (λ (fs : List Fragment). IsRow chunk_id passed (chunk_links closed chunk_id chunk passed fs
        (cond (is_part closed chunk) (Stop (place chunk_id (max passed (length chunk.fragments))) Partial false ∷ []) (row_of closed (suc chunk_id) 0 slots)))) (sym e)
        (record { adjacent = rest_adjacent (is_part closed chunk); begins = λ z. absurd (none_is_zero chunk.fragments some passed z e) })
    by_left (x ∷ xs) e =
        let long = left_long passed chunk.fragments x xs e in
        let begun : BeginsAt (place chunk_id passed) (chunk_links closed chunk_id chunk passed (x ∷ xs)
        (cond (is_part closed chunk) (Stop (place chunk_id (max passed (length chunk.fragments))) Partial false ∷ []) (row_of closed (suc chunk_id) 0 slots))) =
        chunk_begins closed chunk_id chunk
        (cond (is_part closed chunk) (Stop (place chunk_id (max passed (length chunk.fragments))) Partial false ∷ []) (row_of closed (suc chunk_id) 0 slots))
        x xs passed (λ n f. rest_begins (is_part closed chunk) n (omega (arith, f, long)) (omega (arith, f))) in
        subst (λ (fs : List Fragment). IsRow chunk_id passed (chunk_links closed chunk_id chunk passed fs
        (cond (is_part closed chunk) (Stop (place chunk_id (max passed (length chunk.fragments))) Partial false ∷ []) (row_of closed (suc chunk_id) 0 slots)))) (sym e)
        (record { adjacent = begun.adjacent; begins = λ z. begun.begins ∙ ap (place chunk_id) z })

row_is : (closed : Bool) (slots : List Slot) (chunk_id passed : ℕ) → NoneEmpty slots → IsRow chunk_id passed (row_of closed chunk_id passed slots)
row_is closed [] chunk_id passed some = record { adjacent = tt; begins = λ z. ap (place chunk_id) z }
row_is closed (Here chunk ∷ slots) chunk_id passed some = here_row closed chunk slots chunk_id passed some.0 (row_is closed slots (suc chunk_id) 0 some.1)
row_is closed (Gone ∷ slots) chunk_id passed some =
    let further = row_is closed slots (suc chunk_id) 0 some in
    record { adjacent = (sym (further.begins refl), further.adjacent); begins = λ z. ap (place chunk_id) z }
row_is true (Never ∷ slots) chunk_id passed some =
    let further = row_is true slots (suc chunk_id) 0 some in
    record { adjacent = (sym (further.begins refl), further.adjacent); begins = λ z. ap (place chunk_id) z }
row_is false (Never ∷ slots) chunk_id passed some = record { adjacent = tt; begins = λ z. ap (place chunk_id) z }

pub row_adjacent : (closed : Bool) (slots : List Slot) (chunk_id passed : ℕ) → NoneEmpty slots → Adjacent (row_of closed chunk_id passed slots)
row_adjacent closed slots chunk_id passed some = (row_is closed slots chunk_id passed some).adjacent

-- a row of whose first chunk nothing was passed begins with it
pub row_begins : (closed : Bool) (slots : List Slot) (chunk_id : ℕ) → NoneEmpty slots → begin_of (row_of closed chunk_id 0 slots) ≡ place chunk_id 0
row_begins closed slots chunk_id some = (row_is closed slots chunk_id 0 some).begins refl

-- where a reader stands that has passed these links, and has those left
abbrev pub reader_after : Cursor → List Link → List Link → Cursor
reader_after cursor [] left = cursor
reader_after cursor (link ∷ passed) left = begin_of left

-- behind something that was passed the cursor stands where the rest begins
onward : (links : List Link) (n : ℕ) (next : Cursor) → next ≡ begin_of links
    → cursor_after next (passed_by n links) ≡ reader_after next (passed_by n links) (left_by n links) → cursor_after next (passed_by n links) ≡ begin_of (left_by n links)
onward [] n next e h = h ∙ e
onward (link ∷ links) n next e h = step (ends (turn_of link) || (delivers (turn_of link) && (n == 0))) h
  where
    step : (b : Bool)
        → cursor_after next (cond b [] (link ∷ passed_by (n - one_if (delivers (turn_of link))) links))
        ≡ reader_after next (cond b [] (link ∷ passed_by (n - one_if (delivers (turn_of link))) links)) (cond b (link ∷ links) (left_by (n - one_if (delivers (turn_of link))) links))
        → cursor_after next (cond b [] (link ∷ passed_by (n - one_if (delivers (turn_of link))) links)) ≡ begin_of (cond b (link ∷ links) (left_by (n - one_if (delivers (turn_of link))) links))
    step true h = e
    step false h = h

pub cursor_is : (limit : ℕ) (links : List Link) (cursor : Cursor) → Adjacent links
    → cursor_after cursor (passed_by limit links) ≡ reader_after cursor (passed_by limit links) (left_by limit links)
cursor_is limit [] cursor a = refl
cursor_is limit (Stop at why may ∷ links) cursor a = refl
cursor_is limit (Gap at next lost ∷ links) cursor a = onward links (limit - 0) next a.0 (cursor_is (limit - 0) links next a.1)
cursor_is limit (Joined chain ∷ links) cursor a =
    by_turn (ends (turn_of (Joined chain)) || (delivers (turn_of (Joined chain)) && (limit == 0)))
    (onward links (limit - one_if (delivers (turn_of (Joined chain)))) chain.next a.0 (cursor_is (limit - one_if (delivers (turn_of (Joined chain)))) links chain.next a.1))
  where
    by_turn : (b : Bool) → cursor_after chain.next (passed_by (limit - one_if (delivers (turn_of (Joined chain)))) links) ≡ begin_of (left_by (limit - one_if (delivers (turn_of (Joined chain)))) links)
        → cursor_after cursor (cond b [] (Joined chain ∷ passed_by (limit - one_if (delivers (turn_of (Joined chain)))) links))
        ≡ reader_after cursor (cond b [] (Joined chain ∷ passed_by (limit - one_if (delivers (turn_of (Joined chain)))) links))
        (cond b (Joined chain ∷ links) (left_by (limit - one_if (delivers (turn_of (Joined chain)))) links))
    by_turn true h = refl
    by_turn false h = h
