-- The shape of what a writer wrote: each page begins with one piece of one chain, and all pieces of a chain but its first
-- begin a chunk, all but its last run on.
use Rattle.std.proofs.Common.{◌≡◌, ◌∙◌, ℕ, suc, ◌+◌, ◌-◌, ◌≤◌, Bool, true, false, not, ◌&&◌, ◌||◌, List, [], ◌∷◌, ◌++◌, reverse, length, take, drop, length-append, refl, sym, ap, subst, arith}
use Rattle.std.specs.Prelude.{cond, ◌==◌, All}
use Rattle.std.proofs.lemmas.List.{reverse-append, length-take, length-drop}
use Rattle.std.proofs.lemmas.List.Elements.{All-head, All-tail}
use Rattle.std.proofs.lemmas.Bool.{and_parts, eqb-true, ne_eqb, false≢true}
use Rattle.wire_varint.specs.Varint.{redundant}
use Rattle.wire_varint.proofs.Lengths.{length-redundant}
use Rattle.trace_model.specs.Images.{Fragment, Chunk, Patch, with_bytes, patched_last}
use Rattle.trace_model.specs.Fragments.{drop_mark}
use Rattle.trace_model.specs.Pages.{Page, framed, laid, chunk_of, fragments_from, patches_of}
use Rattle.trace_model.specs.Sequences.{Cursor}
use Rattle.trace_model.specs.Row.{Piece, Chain, Whole, Marked, IntoLost, CutOff, Open, Link, Joined, Gap, Stop, joined_to, with_piece, place, is_last, is_part, place_behind, chunk_links, row_of, chain_of, Unpatched}
use Rattle.trace_model.specs.Written.{settled_fragments, settled_chunk, written_slots, written_row, chains_in, chains_of}
use Rattle.trace_model.specs.Cut.{IsWellFormedPage, is_marked_fate}
use Rattle.trace_model.proofs.PageLemmas.{settled_long, fragments_long}

-- Counting

abbrev pub is_first_of_chunk : Piece → Bool
is_first_of_chunk piece = piece.at.passed == 0

-- how many of the pieces begin a chunk
abbrev pub firsts : List Piece → ℕ
firsts [] = 0
firsts (piece ∷ pieces) = cond (is_first_of_chunk piece) 1 0 + firsts pieces

abbrev pub chains_firsts : List Chain → ℕ
chains_firsts [] = 0
chains_firsts (chain ∷ chains) = firsts chain.pieces + chains_firsts chains

abbrev row_firsts : List Link → ℕ
row_firsts links = chains_firsts (chains_in links)

firsts_append : (pieces others : List Piece) → firsts (pieces ++ others) ≡ firsts pieces + firsts others
firsts_append [] others = omega arith
firsts_append (piece ∷ pieces) others = let rest = firsts_append pieces others in omega (arith, rest)

joined_firsts : (chain : Chain) (links : List Link) → row_firsts (joined_to chain links) ≡ firsts chain.pieces + row_firsts links
joined_firsts chain [] = refl
joined_firsts chain (Joined rest ∷ links) = step rest.headless
  where
    step : (b : Bool) → row_firsts (cond b
        (Joined (record chain { next = rest.next; pieces = chain.pieces ++ rest.pieces; awaits = chain.awaits || rest.awaits; fate = rest.fate }) ∷ links)
        (Joined (record chain { fate = CutOff }) ∷ Joined rest ∷ links)) ≡ firsts chain.pieces + (firsts rest.pieces + row_firsts links)
    step true = let both = firsts_append chain.pieces rest.pieces in omega (arith, both)
    step false = refl
joined_firsts chain (Gap at next lost ∷ links) = refl
joined_firsts chain (Stop at why may ∷ links) = refl

piece_firsts : (piece : Piece) (next : Cursor) (headless awaits : Bool) (links : List Link)
    → row_firsts (with_piece piece next headless awaits links) ≡ cond (is_first_of_chunk piece) 1 0 + row_firsts links
piece_firsts piece next headless awaits links = step (piece.runs_on && not piece.fragment.dropped)
  where
    step : (b : Bool) → row_firsts (cond b (joined_to (chain_of piece next headless awaits) links) (Joined (chain_of piece next headless awaits) ∷ links))
        ≡ cond (is_first_of_chunk piece) 1 0 + row_firsts links
    step true = let all = joined_firsts (chain_of piece next headless awaits) links in omega (arith, all)
    step false = omega arith

-- Chunks of which nothing is awaited

abbrev piece_in : ℕ → Chunk → ℕ → Fragment → List Fragment → Piece
piece_in chunk_id chunk passed fragment others = record { at = place chunk_id passed; fragment = fragment; runs_on = chunk.runs_on && is_last others }

-- the chunk's links where it awaits nothing
abbrev open_links : ℕ → Chunk → ℕ → Fragment → List Fragment → List Link → List Link
open_links chunk_id chunk passed fragment others rest =
    with_piece (piece_in chunk_id chunk passed fragment others) (place_behind (is_part false chunk) chunk_id passed (is_last others)) (chunk.continues && (passed == 0))
    (chunk.awaits && is_last others) (chunk_links false chunk_id chunk (suc passed) others rest)

links_open : (chunk_id : ℕ) (chunk : Chunk) (passed : ℕ) (fragment : Fragment) (others : List Fragment) (rest : List Link) → chunk.awaits ≡ false
    → chunk_links false chunk_id chunk passed (fragment ∷ others) rest ≡ open_links chunk_id chunk passed fragment others rest
links_open chunk_id chunk passed fragment others rest e =
    ap (λ (b : Bool). cond ((b && is_last others) && true) (Stop (place chunk_id passed) Unpatched (chunk.continues && (passed == 0)) ∷ []) (open_links chunk_id chunk passed fragment others rest)) e

later_firsts : (fragments : List Fragment) (chunk_id passed : ℕ) (chunk : Chunk) (rest : List Link) → chunk.awaits ≡ false
    → row_firsts (chunk_links false chunk_id chunk (suc passed) fragments rest) ≡ row_firsts rest
later_firsts [] chunk_id passed chunk rest e = refl
later_firsts (fragment ∷ others) chunk_id passed chunk rest e =
    let opened = ap row_firsts (links_open chunk_id chunk (suc passed) fragment others rest e) in
    let one = piece_firsts (piece_in chunk_id chunk (suc passed) fragment others) (place_behind (is_part false chunk) chunk_id (suc passed) (is_last others))
    (chunk.continues && (suc passed == 0)) (chunk.awaits && is_last others) (chunk_links false chunk_id chunk (suc (suc passed)) others rest) in
    let none : cond {A = ℕ} (suc passed == 0) 1 0 ≡ 0 = ap (λ (b : Bool). cond {A = ℕ} b 1 0) (ne_eqb (suc passed) 0 (λ same. absurd (omega (arith, same)))) in
    let later = later_firsts others chunk_id (suc passed) chunk rest e in
    omega (arith, opened, one, none, later)

chunk_firsts : (fragments : List Fragment) (chunk_id : ℕ) (chunk : Chunk) (rest : List Link) → chunk.awaits ≡ false → 1 ≤ length fragments
    → row_firsts (chunk_links false chunk_id chunk 0 fragments rest) ≡ suc (row_firsts rest)
chunk_firsts [] chunk_id chunk rest e some = absurd (omega (arith, some))
chunk_firsts (fragment ∷ others) chunk_id chunk rest e some =
    let opened = ap row_firsts (links_open chunk_id chunk 0 fragment others rest e) in
    let one : row_firsts (open_links chunk_id chunk 0 fragment others rest) ≡ 1 + row_firsts (chunk_links false chunk_id chunk 1 others rest) =
    piece_firsts (piece_in chunk_id chunk 0 fragment others) (place_behind (is_part false chunk) chunk_id 0 (is_last others))
    (chunk.continues && (0 == 0)) (chunk.awaits && is_last others) (chunk_links false chunk_id chunk 1 others rest) in
    let later = later_firsts others chunk_id 0 chunk rest e in
    omega (arith, opened, one, later)

-- Shapes

-- A piece that begins a chunk has its bytes behind the size of the first fragment; one with the drop mark ends its payload.
pub record IsInPlace (size : ℕ) (piece : Piece) : Type 0 where
  pub first : piece.at.passed ≡ 0 → piece.fragment.offset ≡ 4
  pub marked : piece.fragment.dropped ≡ true → size ≤ piece.fragment.offset + length piece.fragment.bytes

-- all pieces but the last run on, and all but the first begin a chunk; the last one of a marked chain ends its payload
abbrev pub AreShaped : ℕ → Bool → List Piece → Type 0
AreShaped size marked [] = ⊥
AreShaped size marked (piece ∷ []) = IsInPlace size piece × (marked ≡ true → size ≤ piece.fragment.offset + length piece.fragment.bytes)
AreShaped size marked (piece ∷ next ∷ pieces) =
    IsInPlace size piece × ((piece.runs_on ≡ true) × ((next.at.passed ≡ 0) × AreShaped size marked (next ∷ pieces)))

abbrev pub EachShaped : ℕ → List Chain → Type 0
EachShaped size [] = Unit {0}
EachShaped size (chain ∷ chains) = AreShaped size (is_marked_fate chain.fate) chain.pieces × EachShaped size chains

-- the pieces of a chain without its start begin with one that begins a chunk
abbrev HeadBegins : List Piece → Type 0
HeadBegins [] = Unit {0}
HeadBegins (piece ∷ pieces) = piece.at.passed ≡ 0

abbrev RowShaped : ℕ → List Link → Type 0
RowShaped size [] = Unit {0}
RowShaped size (Joined chain ∷ links) =
    (AreShaped size (is_marked_fate chain.fate) chain.pieces × (chain.headless ≡ true → HeadBegins chain.pieces)) × RowShaped size links
RowShaped size (Gap at next lost ∷ links) = RowShaped size links
RowShaped size (Stop at why may ∷ links) = RowShaped size links

row_each : (size : ℕ) (links : List Link) → RowShaped size links → EachShaped size (chains_in links)
row_each size [] h = tt
row_each size (Joined chain ∷ links) h = (h.0.0, row_each size links h.1)
row_each size (Gap at next lost ∷ links) h = row_each size links h
row_each size (Stop at why may ∷ links) h = row_each size links h

shaped_more : (size : ℕ) (marked : Bool) (piece : Piece) (pieces : List Piece) → IsInPlace size piece → piece.runs_on ≡ true → HeadBegins pieces
    → AreShaped size marked pieces → AreShaped size marked (piece ∷ pieces)
shaped_more size marked piece [] is runs head h = absurd h
shaped_more size marked piece (next ∷ pieces) is runs head h = (is, (runs, (head, h)))

joined_shaped : (size : ℕ) (piece : Piece) (next : Cursor) (headless awaits : Bool) (links : List Link) → IsInPlace size piece → piece.runs_on ≡ true
    → (headless ≡ true → piece.at.passed ≡ 0) → RowShaped size links → RowShaped size (joined_to (chain_of piece next headless awaits) links)
joined_shaped size piece next headless awaits [] is runs head h = (((is, λ m. absurd (false≢true m)), head), tt)
joined_shaped size piece next headless awaits (Joined rest ∷ links) is runs head h = step rest.headless refl
  where
    chain : Chain
    chain = chain_of piece next headless awaits

    step : (b : Bool) → rest.headless ≡ b → RowShaped size (cond b
        (Joined (record chain { next = rest.next; pieces = chain.pieces ++ rest.pieces; awaits = chain.awaits || rest.awaits; fate = rest.fate }) ∷ links)
        (Joined (record chain { fate = CutOff }) ∷ Joined rest ∷ links))
    step true e = ((shaped_more size (is_marked_fate rest.fate) piece rest.pieces is runs (h.0.1 e) h.0.0, head), h.1)
    step false e = (((is, λ m. absurd (false≢true m)), head), h)
joined_shaped size piece next headless awaits (Gap at behind lost ∷ links) is runs head h = step lost
  where
    step : (b : Bool) → RowShaped size (Joined (record (chain_of piece next headless awaits) { fate = cond b IntoLost CutOff }) ∷ Gap at behind lost ∷ links)
    step true = (((is, λ m. absurd (false≢true m)), head), h)
    step false = (((is, λ m. absurd (false≢true m)), head), h)
joined_shaped size piece next headless awaits (Stop at why may ∷ links) is runs head h = step may
  where
    step : (b : Bool) → RowShaped size (Joined (record (chain_of piece next headless awaits) { fate = cond b Open CutOff }) ∷ Stop at why may ∷ links)
    step true = (((is, λ m. absurd (false≢true m)), head), h)
    step false = (((is, λ m. absurd (false≢true m)), head), h)

piece_shaped : (size : ℕ) (piece : Piece) (next : Cursor) (headless awaits : Bool) (links : List Link) → IsInPlace size piece
    → (headless ≡ true → piece.at.passed ≡ 0) → RowShaped size links → RowShaped size (with_piece piece next headless awaits links)
piece_shaped size piece next headless awaits links is head h = step (piece.runs_on && not piece.fragment.dropped) refl
  where
    alone : (b : Bool) → piece.fragment.dropped ≡ b → is_marked_fate (cond b Marked Whole) ≡ true → size ≤ piece.fragment.offset + length piece.fragment.bytes
    alone true e m = is.marked e
    alone false e m = absurd (false≢true m)

    step : (b : Bool) → (piece.runs_on && not piece.fragment.dropped) ≡ b
        → RowShaped size (cond b (joined_to (chain_of piece next headless awaits) links) (Joined (chain_of piece next headless awaits) ∷ links))
    step true e = joined_shaped size piece next headless awaits links is (and_parts piece.runs_on (not piece.fragment.dropped) e).0 head h
    step false e = (((is, alone piece.fragment.dropped refl), head), h)

-- fragments from this number on
abbrev AreInPlace : ℕ → ℕ → List Fragment → Type 0
AreInPlace size passed [] = Unit {0}
AreInPlace size passed (fragment ∷ others) =
    ((passed ≡ 0 → fragment.offset ≡ 4) × (fragment.dropped ≡ true → size ≤ fragment.offset + length fragment.bytes)) × AreInPlace size (suc passed) others

chunk_shaped : (size : ℕ) (fragments : List Fragment) (chunk_id passed : ℕ) (chunk : Chunk) (rest : List Link) → chunk.awaits ≡ false
    → AreInPlace size passed fragments → RowShaped size rest → RowShaped size (chunk_links false chunk_id chunk passed fragments rest)
chunk_shaped size [] chunk_id passed chunk rest e are h = h
chunk_shaped size (fragment ∷ others) chunk_id passed chunk rest e are h =
    subst (RowShaped size) (sym (links_open chunk_id chunk passed fragment others rest e))
    (piece_shaped size (piece_in chunk_id chunk passed fragment others) (place_behind (is_part false chunk) chunk_id passed (is_last others))
    (chunk.continues && (passed == 0)) (chunk.awaits && is_last others) (chunk_links false chunk_id chunk (suc passed) others rest)
    (record { first = are.0.0; marked = are.0.1 })
    (λ m. eqb-true passed 0 (and_parts chunk.continues (passed == 0) m).1)
    (chunk_shaped size others chunk_id (suc passed) chunk rest e are.1 h))

-- Patches make no fragment shorter.

with_long : (old : List ℕ) (at : ℕ) (bytes : List ℕ) → length old ≤ length (with_bytes old at bytes)
with_long old at bytes =
    let whole = length-append (take at old ++ bytes) (drop (at + length bytes) old) in
    let front = length-append (take at old) bytes in
    let before = length-take at old in
    let behind = length-drop (at + length bytes) old in
    omega (arith, whole, front, before, behind)

in_place_patched : (size passed : ℕ) (fragments : List Fragment) (patch : Patch) → AreInPlace size passed fragments → AreInPlace size passed (patched_last patch fragments)
in_place_patched size passed [] patch h = h
in_place_patched size passed (fragment ∷ []) patch h =
    ((h.0.0, λ m. let full = h.0.1 m in let longer = with_long fragment.bytes (patch.offset - fragment.offset) patch.bytes in omega (arith, full, longer)), tt)
in_place_patched size passed (fragment ∷ next ∷ others) patch h = (h.0, in_place_patched size (suc passed) (next ∷ others) patch h.1)

in_place_settled : (size : ℕ) (patches : List Patch) (chunk_id : ℕ) (fragments : List Fragment) → AreInPlace size 0 fragments → AreInPlace size 0 (settled_fragments patches chunk_id fragments)
in_place_settled size [] chunk_id fragments h = h
in_place_settled size (patch ∷ others) chunk_id fragments h =
    in_place_settled size others chunk_id (cond (patch.chunk_id == chunk_id) (patched_last patch fragments) fragments) (step (patch.chunk_id == chunk_id))
  where
    step : (b : Bool) → AreInPlace size 0 (cond b (patched_last patch fragments) fragments)
    step true = in_place_patched size 0 fragments patch h
    step false = h

-- Pages

laid_in_place : (size at passed : ℕ) (fragments : List (List ℕ)) (rest : List ℕ) (dropped : Bool) → (passed ≡ 0 → at ≡ 4) → (dropped ≡ true → rest ≡ [])
    → at + length (laid dropped fragments rest) ≡ size + 4 → AreInPlace size passed (fragments_from at dropped fragments)
laid_in_place size at passed [] rest dropped first nothing whole = tt
laid_in_place size at passed (bytes ∷ []) rest true first nothing whole =
    let ends : length rest ≡ 0 = ap (λ (xs : List ℕ). length xs) (nothing refl) in
    let long = length-append (drop_mark ++ bytes) rest in
    let front = length-append drop_mark bytes in
    let four : length drop_mark ≡ 4 = refl in
    ((first, λ m. omega (arith, ends, long, front, four, whole)), tt)
laid_in_place size at passed (bytes ∷ []) rest false first nothing whole = ((first, λ m. absurd (false≢true m)), tt)
laid_in_place size at passed (bytes ∷ next ∷ others) rest dropped first nothing whole =
    let long = length-append (framed bytes) (laid dropped (next ∷ others) rest) in
    let front = length-append (redundant (length bytes)) bytes in
    let four = length-redundant (length bytes) in (
      (first, λ m. absurd (false≢true m)),
      laid_in_place size (at + length bytes + 4) (suc passed) (next ∷ others) rest dropped (λ none. absurd (omega (arith, none))) nothing
          (omega (arith, long, front, four, whole)),
    )

page_in_place : (size : ℕ) (page : Page) → IsWellFormedPage size page → AreInPlace size 0 (fragments_from 4 page.dropped page.fragments)
page_in_place size page full =
    let whole = full.whole in
    laid_in_place size 4 0 page.fragments page.rest page.dropped (λ none. refl) (λ m. (full.dropped m).1) (omega (arith, whole))

pages_firsts : (size : ℕ) (patches : List Patch) (first : ℕ) (pages : List Page) → All (IsWellFormedPage size) pages
    → row_firsts (row_of false first 0 (written_slots patches first pages)) ≡ length pages
pages_firsts size patches first [] full = refl
pages_firsts size patches first (page ∷ pages) full =
    let some = (All-head (IsWellFormedPage size) page pages full).some in
    let chunk : Chunk = settled_chunk patches first (chunk_of page) in
    let long : length chunk.fragments ≡ length page.fragments =
    settled_long patches first (chunk_of page).fragments ∙ fragments_long 4 page.dropped page.fragments in
    chunk_firsts chunk.fragments first chunk (row_of false (suc first) 0 (written_slots patches (suc first) pages)) refl (omega (arith, some, long))
    ∙ ap suc (pages_firsts size patches (suc first) pages (All-tail (IsWellFormedPage size) page pages full))

pages_shaped : (size : ℕ) (patches : List Patch) (first : ℕ) (pages : List Page) → All (IsWellFormedPage size) pages
    → RowShaped size (row_of false first 0 (written_slots patches first pages))
pages_shaped size patches first [] full = tt
pages_shaped size patches first (page ∷ pages) full =
    let chunk : Chunk = settled_chunk patches first (chunk_of page) in
    chunk_shaped size chunk.fragments first 0 chunk (row_of false (suc first) 0 (written_slots patches (suc first) pages)) refl
    (in_place_settled size patches first (chunk_of page).fragments (page_in_place size page (All-head (IsWellFormedPage size) page pages full)))
    (pages_shaped size patches (suc first) pages (All-tail (IsWellFormedPage size) page pages full))

-- The newest first

firsts_chains_append : (chains others : List Chain) → chains_firsts (chains ++ others) ≡ chains_firsts chains + chains_firsts others
firsts_chains_append [] others = omega arith
firsts_chains_append (chain ∷ chains) others = let rest = firsts_chains_append chains others in omega (arith, rest)

firsts_reversed : (chains : List Chain) → chains_firsts (reverse chains) ≡ chains_firsts chains
firsts_reversed [] = refl
firsts_reversed (chain ∷ chains) =
    let turned = ap chains_firsts (reverse-append (chain ∷ []) chains) in
    let both = firsts_chains_append (reverse chains) (chain ∷ []) in
    let rest = firsts_reversed chains in
    omega (arith, turned, both, rest)

each_append : (size : ℕ) (chains others : List Chain) → EachShaped size chains → EachShaped size others → EachShaped size (chains ++ others)
each_append size [] others h k = k
each_append size (chain ∷ chains) others h k = (h.0, each_append size chains others h.1 k)

each_reversed : (size : ℕ) (chains : List Chain) → EachShaped size chains → EachShaped size (reverse chains)
each_reversed size [] h = tt
each_reversed size (chain ∷ chains) h =
    subst (EachShaped size) (sym (reverse-append (chain ∷ []) chains)) (each_append size (reverse chains) (chain ∷ []) (each_reversed size chains h.1) (h.0, tt))

-- each page begins with one piece of one chain
pub chains_counted : (size : ℕ) (pages : List Page) → All (IsWellFormedPage size) pages → chains_firsts (chains_of pages) ≡ length pages
chains_counted size pages full = firsts_reversed (chains_in (written_row pages)) ∙ pages_firsts size (patches_of pages) 0 pages full

pub chains_shaped : (size : ℕ) (pages : List Page) → All (IsWellFormedPage size) pages → EachShaped size (chains_of pages)
chains_shaped size pages full =
    each_reversed size (chains_in (written_row pages)) (row_each size (written_row pages) (pages_shaped size (patches_of pages) 0 pages full))
