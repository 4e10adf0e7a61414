-- A row goes on where more chunks come.
use Rattle.std.proofs.Common.{◌≡◌, ◌∙◌, ℕ, suc, ◌+◌, max, Bool, true, false, not, ◌&&◌, ◌||◌, List, [], ◌∷◌, ◌++◌, length, refl, sym, ap, subst, arith}
use Rattle.std.specs.Prelude.{cond, ◌==◌}
use Rattle.trace_model.specs.Images.{Chunk, Fragment}
use Rattle.trace_model.specs.Sequences.{Cursor}
use Rattle.trace_model.specs.Row.{Slot, Here, Gone, Never, Piece, Chain, Fate, Whole, Marked, IntoLost, CutOff, Open, Link, Joined, Gap, Stop, Partial, Unpatched, joined_to, with_piece, place, is_last, is_part, place_behind, chunk_links, row_of, chain_of}
use Rattle.trace_model.specs.RowLaws.{is_open, continued, AreWhole, RowsContinue}
use Rattle.trace_model.proofs.JoinLemmas.{merged, joined-joined, joined-start}

-- a chain may run on into the row's stop place
abbrev MayEnd : List Link → Type 0
MayEnd [] = Unit {0}
MayEnd (Joined chain ∷ links) = MayEnd links
MayEnd (Gap at next lost ∷ links) = MayEnd links
MayEnd (Stop at why may ∷ links) = may ≡ true

-- a chain's fate before it is joined doesn't matter
joined-fate : (chain : Chain) (fate : Fate) (rest : List Link) → joined_to (record chain { fate = fate }) rest ≡ joined_to chain rest
joined-fate chain fate [] = refl
joined-fate chain fate (Joined other ∷ links) = step other.headless
  where
    step : (b : Bool) → cond b
        (Joined (record chain { next = other.next; pieces = chain.pieces ++ other.pieces; awaits = chain.awaits || other.awaits; fate = other.fate }) ∷ links)
        (Joined (record chain { fate = CutOff }) ∷ Joined other ∷ links)
        ≡ cond b
        (Joined (record chain { next = other.next; pieces = chain.pieces ++ other.pieces; awaits = chain.awaits || other.awaits; fate = other.fate }) ∷ links)
        (Joined (record chain { fate = CutOff }) ∷ Joined other ∷ links)
    step true = refl
    step false = refl
joined-fate chain fate (Gap at next lost ∷ links) = refl
joined-fate chain fate (Stop at why may ∷ links) = refl

ended_isnt_open : (chain : Chain) (links rest : List Link) → is_open chain.fate ≡ false → continued (Joined chain ∷ links) rest ≡ Joined chain ∷ continued links rest
ended_isnt_open chain links rest h = ap (λ (b : Bool). cond b (joined_to chain rest) (Joined chain ∷ continued links rest)) h

joined-continued : (chain : Chain) (links rest : List Link) → MayEnd links → joined_to chain (continued links rest) ≡ continued (joined_to chain links) rest
joined-continued chain [] rest m = sym (joined-fate chain Open rest)
joined-continued chain (Joined other ∷ links) rest m = by_head other.headless refl
  where
    by_open : (b : Bool) → other.headless ≡ true
        → joined_to chain (cond b (joined_to other rest) (Joined other ∷ continued links rest)) ≡ cond b (joined_to (merged chain other) rest) (Joined (merged chain other) ∷ continued links rest)
    by_open true h = joined-joined chain other rest h
    by_open false h = ap (λ (b : Bool). cond b (Joined (merged chain other) ∷ continued links rest) (Joined (record chain { fate = CutOff }) ∷ Joined other ∷ continued links rest)) h

    by_start : (b : Bool) → other.headless ≡ false
        → joined_to chain (cond b (joined_to other rest) (Joined other ∷ continued links rest))
        ≡ Joined (record chain { fate = CutOff }) ∷ cond b (joined_to other rest) (Joined other ∷ continued links rest)
    by_start true h = joined-start chain other rest h
    by_start false h = ap (λ (b : Bool). cond b (Joined (merged chain other) ∷ continued links rest) (Joined (record chain { fate = CutOff }) ∷ Joined other ∷ continued links rest)) h

    by_head : (b : Bool) → other.headless ≡ b
        → joined_to chain (continued (Joined other ∷ links) rest)
        ≡ continued (cond b (Joined (merged chain other) ∷ links) (Joined (record chain { fate = CutOff }) ∷ Joined other ∷ links)) rest
    by_head true h = by_open (is_open other.fate) h
    by_head false h = by_start (is_open other.fate) h
joined-continued chain (Gap at next lost ∷ links) rest m = step lost
  where
    step : (b : Bool) → Joined (record chain { fate = cond b IntoLost CutOff }) ∷ Gap at next lost ∷ continued links rest
        ≡ continued (Joined (record chain { fate = cond b IntoLost CutOff }) ∷ Gap at next lost ∷ links) rest
    step true = refl
    step false = refl
joined-continued chain (Stop at why may ∷ links) rest m =
    sym (joined-fate chain Open rest)
    ∙ ap (λ (b : Bool). continued (Joined (record chain { fate = cond b Open CutOff }) ∷ Stop at why b ∷ links) rest) (sym m)

may_join : (chain : Chain) (links : List Link) → MayEnd links → MayEnd (joined_to chain links)
may_join chain [] m = tt
may_join chain (Joined other ∷ links) m = step other.headless
  where
    step : (b : Bool) → MayEnd (cond b (Joined (merged chain other) ∷ links) (Joined (record chain { fate = CutOff }) ∷ Joined other ∷ links))
    step true = m
    step false = m
may_join chain (Gap at next lost ∷ links) m = m
may_join chain (Stop at why may ∷ links) m = m

not_open : (b : Bool) → is_open (cond b Marked Whole) ≡ false
not_open true = refl
not_open false = refl

piece-continued : (piece : Piece) (next : Cursor) (headless awaits : Bool) (links rest : List Link) → MayEnd links
    → with_piece piece next headless awaits (continued links rest) ≡ continued (with_piece piece next headless awaits links) rest
piece-continued piece next headless awaits links rest m = step (piece.runs_on && not piece.fragment.dropped)
  where
    step : (b : Bool) → cond b (joined_to (chain_of piece next headless awaits) (continued links rest)) (Joined (chain_of piece next headless awaits) ∷ continued links rest)
        ≡ continued (cond b (joined_to (chain_of piece next headless awaits) links) (Joined (chain_of piece next headless awaits) ∷ links)) rest
    step true = joined-continued (chain_of piece next headless awaits) links rest m
    step false = sym (ended_isnt_open (chain_of piece next headless awaits) links rest (not_open piece.fragment.dropped))

may_piece : (piece : Piece) (next : Cursor) (headless awaits : Bool) (links : List Link) → MayEnd links → MayEnd (with_piece piece next headless awaits links)
may_piece piece next headless awaits links m = step (piece.runs_on && not piece.fragment.dropped)
  where
    step : (b : Bool) → MayEnd (cond b (joined_to (chain_of piece next headless awaits) links) (Joined (chain_of piece next headless awaits) ∷ links))
    step true = may_join (chain_of piece next headless awaits) links m
    step false = m

-- a fragment of a chunk that awaits nothing isn't the stop place
pub unstopped : (chunk_id passed : ℕ) (chunk : Chunk) (fragment : Fragment) (others : List Fragment) (links : List Link) → chunk.awaits ≡ false
    → chunk_links false chunk_id chunk passed (fragment ∷ others) links
    ≡ with_piece (record { at = place chunk_id passed; fragment = fragment; runs_on = chunk.runs_on && is_last others })
    (place_behind (is_part false chunk) chunk_id passed (is_last others)) (chunk.continues && (passed == 0)) (chunk.awaits && is_last others)
    (chunk_links false chunk_id chunk (suc passed) others links)
unstopped chunk_id passed chunk fragment others links h =
    ap (λ (b : Bool). cond ((b && is_last others) && true) (Stop (place chunk_id passed) Unpatched (chunk.continues && (passed == 0)) ∷ [])
    (with_piece (record { at = place chunk_id passed; fragment = fragment; runs_on = chunk.runs_on && is_last others })
    (place_behind (is_part false chunk) chunk_id passed (is_last others)) (chunk.continues && (passed == 0)) (chunk.awaits && is_last others)
    (chunk_links false chunk_id chunk (suc passed) others links))) h

-- the chunk's links, where it awaits nothing
record Continues (chunk_id : ℕ) (chunk : Chunk) (passed : ℕ) (fragments : List Fragment) (links rest : List Link) : Type 0 where
  is : chunk_links false chunk_id chunk passed fragments (continued links rest) ≡ continued (chunk_links false chunk_id chunk passed fragments links) rest
  may : MayEnd (chunk_links false chunk_id chunk passed fragments links)

chunk-continued : (fragments : List Fragment) (chunk_id passed : ℕ) (chunk : Chunk) (links rest : List Link) → chunk.awaits ≡ false → MayEnd links
    → Continues chunk_id chunk passed fragments links rest
chunk-continued [] chunk_id passed chunk links rest h m = record { is = refl; may = m }
chunk-continued (fragment ∷ others) chunk_id passed chunk links rest h m =
    let piece : Piece = record { at = place chunk_id passed; fragment = fragment; runs_on = chunk.runs_on && is_last others } in
    let next : Cursor = place_behind (is_part false chunk) chunk_id passed (is_last others) in
    let headless : Bool = chunk.continues && (passed == 0) in
    let awaits : Bool = chunk.awaits && is_last others in
    let behind : List Link = chunk_links false chunk_id chunk (suc passed) others links in
    let k : Continues chunk_id chunk (suc passed) others links rest = chunk-continued others chunk_id (suc passed) chunk links rest h m in
    record {
      is = unstopped chunk_id passed chunk fragment others (continued links rest) h
          ∙ ap (with_piece piece next headless awaits) k.is
          ∙ piece-continued piece next headless awaits behind rest k.may
          ∙ sym (ap (λ (ls : List Link). continued ls rest) (unstopped chunk_id passed chunk fragment others links h));
      may = subst MayEnd (sym (unstopped chunk_id passed chunk fragment others links h)) (may_piece piece next headless awaits behind k.may);
    }

-- a row of whole chunks
record RowContinues (chunk_id : ℕ) (slots more : List Slot) : Type 0 where
  is : row_of false chunk_id 0 (slots ++ more) ≡ continued (row_of false chunk_id 0 slots) (row_of false (chunk_id + length slots) 0 more)
  may : MayEnd (row_of false chunk_id 0 slots)

-- a whole chunk's row doesn't end with it
whole_row : (chunk_id : ℕ) (chunk : Chunk) (slots : List Slot) → chunk.partial ≡ false
    → row_of false chunk_id 0 (Here chunk ∷ slots) ≡ chunk_links false chunk_id chunk 0 chunk.fragments (row_of false (suc chunk_id) 0 slots)
whole_row chunk_id chunk slots h =
    ap (λ (b : Bool). chunk_links false chunk_id chunk 0 chunk.fragments
    (cond (b && true) (Stop (place chunk_id (max 0 (length chunk.fragments))) Partial false ∷ []) (row_of false (suc chunk_id) 0 slots))) h

row-continued : (slots more : List Slot) (chunk_id : ℕ) → AreWhole slots → RowContinues chunk_id slots more
row-continued [] more chunk_id h = record {
  is = ap (λ (n : ℕ). row_of false n 0 more) (omega arith);
  may = refl;
}
row-continued (Here chunk ∷ slots) more chunk_id h =
    let k : RowContinues (suc chunk_id) slots more = row-continued slots more (suc chunk_id) h.2 in
    let rest : List Link = row_of false (chunk_id + length (Here chunk ∷ slots)) 0 more in
    let same : row_of false (suc chunk_id + length slots) 0 more ≡ rest = ap (λ (n : ℕ). row_of false n 0 more) (omega arith) in
    let goes : Continues chunk_id chunk 0 chunk.fragments (row_of false (suc chunk_id) 0 slots) rest =
    chunk-continued chunk.fragments chunk_id 0 chunk (row_of false (suc chunk_id) 0 slots) rest h.1 k.may in
    record {
      is = whole_row chunk_id chunk (slots ++ more) h.0
          ∙ ap (chunk_links false chunk_id chunk 0 chunk.fragments) (k.is ∙ ap (continued (row_of false (suc chunk_id) 0 slots)) same)
          ∙ goes.is
          ∙ sym (ap (λ (ls : List Link). continued ls rest) (whole_row chunk_id chunk slots h.0));
      may = subst MayEnd (sym (whole_row chunk_id chunk slots h.0)) goes.may;
    }
row-continued (Gone ∷ slots) more chunk_id h = absurd h
row-continued (Never ∷ slots) more chunk_id h = absurd h

pub rows_continue : RowsContinue
rows_continue slots more chunk_id h = (row-continued slots more chunk_id h).is
