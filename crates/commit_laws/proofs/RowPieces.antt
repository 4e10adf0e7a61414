-- The pieces of the chains that a writer wrote: each is a fragment of its page, and none lies before its chain's first chunk.
use Rattle.std.proofs.Common.{◌≡◌, ◌∙◌, ℕ, suc, ◌+◌, ◌-◌, ◌<◌, ◌≤◌, Bool, true, false, not, ◌&&◌, ◌||◌, List, [], ◌∷◌, ◌++◌, length, Some, refl, sym, ap, subst, arith, length-append, append_assoc}
use Rattle.std.specs.Prelude.{cond, ◌==◌, nat_lt, slice_get}
use Rattle.std.proofs.lemmas.Bool.{ltb-true, ltb-false}
use Rattle.trace_model.specs.Images.{Chunk, Fragment, Patch}
use Rattle.trace_model.specs.Pages.{Page, chunk_of, patches_of}
use Rattle.trace_model.specs.Row.{Piece, Chain, CutOff, Link, Joined, Gap, Stop, Unpatched, bytes_of, joined_to, with_piece, chain_of, place, place_behind, is_last, is_part, chunk_links, row_of}
use Rattle.trace_model.specs.Sent.{chunk_at, offset_at}
use Rattle.trace_model.specs.Sequences.{Cursor}
use Rattle.trace_model.specs.Written.{settled_fragments, settled_chunk, written_slots, written_row, chains_in}
use Rattle.trace_model.proofs.CursorLemmas.{Each, each-then}

-- Which piece a byte lies in

pub record IsInPiece (P : Piece → Type 0) (pieces : List Piece) (at : ℕ) : Type 0 where
  pub piece : Piece
  pub holds : P piece
  pub chunk : chunk_at pieces at ≡ piece.at.chunk_id
  pub off : ℕ
  pub offset : offset_at pieces at ≡ piece.fragment.offset + off
  pub inside : off < length piece.fragment.bytes
  pub front : List ℕ
  pub behind : List ℕ
  pub bytes : bytes_of pieces ≡ front ++ (piece.fragment.bytes ++ behind)
  pub place : length front + off ≡ at

pub piece_at : (P : Piece → Type 0) (pieces : List Piece) (at : ℕ) → Each P pieces → at < length (bytes_of pieces) → IsInPiece P pieces at
piece_at P [] at each low = absurd (omega (arith, low))
piece_at P (piece ∷ pieces) at each low = by_first (nat_lt at (length piece.fragment.bytes)) refl (piece_at P pieces (at - length piece.fragment.bytes) each.1)
  where
    by_first : (b : Bool) → nat_lt at (length piece.fragment.bytes) ≡ b
        → (at - length piece.fragment.bytes < length (bytes_of pieces) → IsInPiece P pieces (at - length piece.fragment.bytes)) → IsInPiece P (piece ∷ pieces) at
    by_first true e rest = record {
      piece = piece;
      holds = each.0;
      chunk = ap (λ (b : Bool). cond b piece.at.chunk_id (chunk_at pieces (at - length piece.fragment.bytes))) e;
      off = at;
      offset = ap (λ (b : Bool). cond b (piece.fragment.offset + at) (offset_at pieces (at - length piece.fragment.bytes))) e;
      inside = ltb-true at (length piece.fragment.bytes) e;
      front = [];
      behind = bytes_of pieces;
      bytes = refl;
      place = omega arith;
    }
    by_first false e rest =
        let high = ltb-false at (length piece.fragment.bytes) e in
        let long = length-append piece.fragment.bytes (bytes_of pieces) in
        let is = rest (omega (arith, low, long, high)) in
        let whole = length-append piece.fragment.bytes is.front in
        let at_is = is.place in
        record {
          piece = is.piece;
          holds = is.holds;
          chunk = ap (λ (b : Bool). cond b piece.at.chunk_id (chunk_at pieces (at - length piece.fragment.bytes))) e ∙ is.chunk;
          off = is.off;
          offset = ap (λ (b : Bool). cond b (piece.fragment.offset + at) (offset_at pieces (at - length piece.fragment.bytes))) e ∙ is.offset;
          inside = is.inside;
          front = piece.fragment.bytes ++ is.front;
          behind = is.behind;
          bytes = ap (λ (xs : List ℕ). piece.fragment.bytes ++ xs) is.bytes ∙ sym (append_assoc piece.fragment.bytes is.front (is.piece.fragment.bytes ++ is.behind));
          place = omega (arith, whole, at_is, high);
        }

-- behind the chain's end `chunk_at` gives 0
pub chunk_inside : (pieces : List Piece) (at : ℕ) → 1 ≤ chunk_at pieces at → at < length (bytes_of pieces)
chunk_inside [] at some = absurd (omega (arith, some))
chunk_inside (piece ∷ pieces) at some = by_first (nat_lt at (length piece.fragment.bytes)) refl some (chunk_inside pieces (at - length piece.fragment.bytes))
  where
    long : length (bytes_of (piece ∷ pieces)) ≡ length piece.fragment.bytes + length (bytes_of pieces)
    long = length-append piece.fragment.bytes (bytes_of pieces)

    by_first : (b : Bool) → nat_lt at (length piece.fragment.bytes) ≡ b → 1 ≤ cond b piece.at.chunk_id (chunk_at pieces (at - length piece.fragment.bytes))
        → (1 ≤ chunk_at pieces (at - length piece.fragment.bytes) → at - length piece.fragment.bytes < length (bytes_of pieces)) → at < length (bytes_of (piece ∷ pieces))
    by_first true e some rest = let low = ltb-true at (length piece.fragment.bytes) e in let l = long in omega (arith, low, l)
    by_first false e some rest =
        let low = rest some in
        let high = ltb-false at (length piece.fragment.bytes) e in
        let l = long in
        omega (arith, low, high, l)

-- Rows

module _ (Is : ℕ → ℕ → Fragment → Type 0) where
  -- the piece is what stands at its place, and doesn't lie before this chunk
  abbrev pub IsFrom : ℕ → Piece → Type 0
  IsFrom least piece = Is piece.at.chunk_id piece.at.passed piece.fragment × (least ≤ piece.at.chunk_id)

  abbrev pub IsChainFrom : Chain → Type 0
  IsChainFrom chain = Each (IsFrom chain.at.chunk_id) chain.pieces

  -- each chain of the row lies from its first chunk on, and none before this one
  abbrev RowFrom : ℕ → List Link → Type 0
  RowFrom least [] = Unit {0}
  RowFrom least (Joined chain ∷ links) = (IsChainFrom chain × (least ≤ chain.at.chunk_id)) × RowFrom least links
  RowFrom least (Gap at next lost ∷ links) = RowFrom least links
  RowFrom least (Stop at why may ∷ links) = RowFrom least links

  from_less : (less least : ℕ) → less ≤ least → (links : List Link) → RowFrom least links → RowFrom less links
  from_less less least low [] h = tt
  from_less less least low (Joined chain ∷ links) h = ((h.0.0, let high = h.0.1 in omega (arith, low, high)), from_less less least low links h.1)
  from_less less least low (Gap at next lost ∷ links) h = from_less less least low links h
  from_less less least low (Stop at why may ∷ links) h = from_less less least low links h

  piece_from : (piece : Piece) (next : Cursor) (headless awaits : Bool) (links : List Link) → Is piece.at.chunk_id piece.at.passed piece.fragment
      → RowFrom piece.at.chunk_id links → RowFrom piece.at.chunk_id (with_piece piece next headless awaits links)
  piece_from piece next headless awaits links is h = step (piece.runs_on && not piece.fragment.dropped)
    where
      alone : IsFrom piece.at.chunk_id piece
      alone = (is, omega arith)

      joined : (links : List Link) → RowFrom piece.at.chunk_id links → RowFrom piece.at.chunk_id (joined_to (chain_of piece next headless awaits) links)
      joined [] h = (((alone, tt), omega arith), tt)
      joined (Gap at to lost ∷ links) h = (((alone, tt), omega arith), h)
      joined (Stop at why may ∷ links) h = (((alone, tt), omega arith), h)
      joined (Joined rest ∷ links) h = by_head rest.headless
        where
          from_here : Each (IsFrom piece.at.chunk_id) rest.pieces
          from_here = let low = h.0.1 in each-then (IsFrom rest.at.chunk_id) (IsFrom piece.at.chunk_id) (λ p k. (k.0, let high = k.1 in omega (arith, low, high))) rest.pieces h.0.0

          by_head : (b : Bool) → RowFrom piece.at.chunk_id (cond b
              (Joined (record (chain_of piece next headless awaits) { next = rest.next; pieces = (piece ∷ []) ++ rest.pieces; awaits = awaits || rest.awaits; fate = rest.fate }) ∷ links)
              (Joined (record (chain_of piece next headless awaits) { fate = CutOff }) ∷ Joined rest ∷ links))
          by_head true = (((alone, from_here), omega arith), h.1)
          by_head false = (((alone, tt), omega arith), h)

      step : (b : Bool) → RowFrom piece.at.chunk_id (cond b (joined_to (chain_of piece next headless awaits) links) (Joined (chain_of piece next headless awaits) ∷ links))
      step true = joined links h
      step false = (((alone, tt), omega arith), h)

  -- fragments from this number on
  abbrev AreThere : ℕ → ℕ → List Fragment → Type 0
  AreThere chunk_id passed [] = Unit {0}
  AreThere chunk_id passed (fragment ∷ others) = Is chunk_id passed fragment × AreThere chunk_id (suc passed) others

  chunk_from : (fragments : List Fragment) (chunk_id passed : ℕ) (chunk : Chunk) (rest : List Link) → AreThere chunk_id passed fragments → RowFrom chunk_id rest
      → RowFrom chunk_id (chunk_links false chunk_id chunk passed fragments rest)
  chunk_from [] chunk_id passed chunk rest are h = h
  chunk_from (fragment ∷ others) chunk_id passed chunk rest are h =
      by_stop ((chunk.awaits && is_last others) && not false) (chunk_from others chunk_id (suc passed) chunk rest are.1 h)
    where
      by_stop : (b : Bool) → RowFrom chunk_id (chunk_links false chunk_id chunk (suc passed) others rest)
          → RowFrom chunk_id (cond b (Stop (place chunk_id passed) Unpatched (chunk.continues && (passed == 0)) ∷ [])
          (with_piece (record { at = place chunk_id passed; fragment = fragment; runs_on = chunk.runs_on && is_last others }) (place_behind (is_part false chunk) chunk_id passed (is_last others))
          (chunk.continues && (passed == 0)) (chunk.awaits && is_last others) (chunk_links false chunk_id chunk (suc passed) others rest)))
      by_stop true k = tt
      by_stop false k =
          piece_from (record { at = place chunk_id passed; fragment = fragment; runs_on = chunk.runs_on && is_last others }) (place_behind (is_part false chunk) chunk_id passed (is_last others))
          (chunk.continues && (passed == 0)) (chunk.awaits && is_last others) (chunk_links false chunk_id chunk (suc passed) others rest) are.0 k

  pages_from : (patches : List Patch) (pages : List Page) (first : ℕ)
      → ((i : ℕ) (page : Page) → slice_get pages i ≡ Some page → AreThere (first + i) 0 (settled_fragments patches (first + i) (chunk_of page).fragments))
      → RowFrom first (row_of false first 0 (written_slots patches first pages))
  pages_from patches [] first there = tt
  pages_from patches (page ∷ pages) first there =
      let at : first + 0 ≡ first = omega arith in
      chunk_from (settled_fragments patches first (chunk_of page).fragments) first 0 (settled_chunk patches first (chunk_of page))
      (row_of false (suc first) 0 (written_slots patches (suc first) pages))
      (subst (λ (n : ℕ). AreThere n 0 (settled_fragments patches n (chunk_of page).fragments)) at (there 0 page refl))
      (from_less first (suc first) (omega arith) (row_of false (suc first) 0 (written_slots patches (suc first) pages))
      (pages_from patches pages (suc first) (λ i other get.
      let behind : first + suc i ≡ suc first + i = omega arith in
      subst (λ (n : ℕ). AreThere n 0 (settled_fragments patches n (chunk_of other).fragments)) behind (there (suc i) other get))))

  chains_from : (links : List Link) (least : ℕ) → RowFrom least links → Each IsChainFrom (chains_in links)
  chains_from [] least h = tt
  chains_from (Joined chain ∷ links) least h = (h.0.0, chains_from links least h.1)
  chains_from (Gap at next lost ∷ links) least h = chains_from links least h
  chains_from (Stop at why may ∷ links) least h = chains_from links least h

-- what stands at a place of the pages once their patches are put in
pub record IsInPage (pages : List Page) (chunk_id passed : ℕ) (fragment : Fragment) : Type 0 where
  pub page : Page
  pub get : slice_get pages chunk_id ≡ Some page
  pub there : slice_get (settled_fragments (patches_of pages) chunk_id (chunk_of page).fragments) passed ≡ Some fragment

pub written_from : (pages : List Page) → Each (IsChainFrom (IsInPage pages)) (chains_in (written_row pages))
written_from pages =
    chains_from (IsInPage pages) (written_row pages) 0
    (pages_from (IsInPage pages) (patches_of pages) pages 0 (λ i page get.
    let at : 0 + i ≡ i = omega arith in
    subst (λ (n : ℕ). AreThere (IsInPage pages) n 0 (settled_fragments (patches_of pages) n (chunk_of page).fragments)) (sym at)
    (all_there i page get (settled_fragments (patches_of pages) i (chunk_of page).fragments) 0 (λ k fragment there.
    let behind : 0 + k ≡ k = omega arith in
    subst (λ (n : ℕ). IsInPage pages i n fragment) (sym behind) (record { page = page; get = get; there = there })))))
  where
    all_there : (i : ℕ) (page : Page) → slice_get pages i ≡ Some page → (fragments : List Fragment) (passed : ℕ)
        → ((k : ℕ) (fragment : Fragment) → slice_get fragments k ≡ Some fragment → IsInPage pages i (passed + k) fragment) → AreThere (IsInPage pages) i passed fragments
    all_there i page get [] passed there = tt
    all_there i page get (fragment ∷ others) passed there =
        let at : passed + 0 ≡ passed = omega arith in (
          subst (λ (n : ℕ). IsInPage pages i n fragment) at (there 0 fragment refl),
          all_there i page get others (suc passed) (λ k other found.
              let behind : passed + suc k ≡ suc passed + k = omega arith in
              subst (λ (n : ℕ). IsInPage pages i n other) behind (there (suc k) other found)),
        )
