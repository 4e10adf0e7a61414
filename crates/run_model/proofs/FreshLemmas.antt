-- Packets that begin chunks have pages of their own.
use Rattle.std.proofs.Common.{◌≡◌, ◌∙◌, ℕ, suc, ◌+◌, ◌≤◌, max, Bool, true, false, not, ◌&&◌, ◌||◌, List, [], ◌∷◌, ◌++◌, reverse, length, drop, map, refl, sym, ap, subst, arith}
use Rattle.std.specs.Prelude.{cond, ◌==◌, filter, is_some}
use Rattle.std.specs.List.{AllZip}
use Rattle.std.proofs.lemmas.List.{reverse-append}
use Rattle.std.proofs.lemmas.Bool.{and_parts, false≢true}
use Rattle.std.proofs.Math.Bool.{or-true}
use Rattle.trace_model.specs.Images.{Fragment, Chunk}
use Rattle.trace_model.specs.Pages.{Page, patches_of}
use Rattle.trace_model.specs.Packets.{Packet, is_lost, kept_of, lost_count}
use Rattle.trace_model.specs.Sequences.{Cursor}
use Rattle.trace_model.specs.Row.{Slot, Here, Gone, Never, Piece, Chain, Link, Joined, Gap, Stop, CutOff, Partial, Unpatched, joined_to, with_piece, chain_of, place, is_last, is_part, place_behind, chunk_links, row_of}
use Rattle.trace_model.specs.Written.{chains_in, chains_of, written_row, written_slots}
use Rattle.trace_model.specs.Cut.{CutsInto, IsChainOf, begins_chunk, is_same, is_end, newest_piece, all_begin_well}
use Rattle.model_laws.proofs.WrittenShapes.{firsts, chains_firsts, chains_counted}

-- ---- each chain begins at its first piece

abbrev StartsAt : Cursor → List Piece → Type 0
StartsAt at [] = ⊥
StartsAt at (piece ∷ pieces) = piece.at ≡ at

abbrev AllStart : List Chain → Type 0
AllStart [] = Unit {0}
AllStart (chain ∷ chains) = StartsAt chain.at chain.pieces × AllStart chains

starts_more : (at : Cursor) (pieces more : List Piece) → StartsAt at pieces → StartsAt at (pieces ++ more)
starts_more at [] more starts = absurd starts
starts_more at (piece ∷ pieces) more starts = starts

starts_joined : (chain : Chain) (links : List Link) → StartsAt chain.at chain.pieces → AllStart (chains_in links) → AllStart (chains_in (joined_to chain links))
starts_joined chain [] starts all = (starts, tt)
starts_joined chain (Joined rest ∷ links) starts all = step rest.headless
  where
    step : (b : Bool) → AllStart (chains_in (cond b
        (Joined (record chain { next = rest.next; pieces = chain.pieces ++ rest.pieces; awaits = chain.awaits || rest.awaits; fate = rest.fate }) ∷ links)
        (Joined (record chain { fate = CutOff }) ∷ Joined rest ∷ links)))
    step true = (starts_more chain.at chain.pieces rest.pieces starts, all.1)
    step false = (starts, all)
starts_joined chain (Gap at next lost ∷ links) starts all = (starts, all)
starts_joined chain (Stop at why may ∷ links) starts all = (starts, all)

starts_piece : (piece : Piece) (next : Cursor) (headless awaits : Bool) (links : List Link) → AllStart (chains_in links)
    → AllStart (chains_in (with_piece piece next headless awaits links))
starts_piece piece next headless awaits links all = step (piece.runs_on && not piece.fragment.dropped)
  where
    step : (b : Bool) → AllStart (chains_in (cond b (joined_to (chain_of piece next headless awaits) links) (Joined (chain_of piece next headless awaits) ∷ links)))
    step true = starts_joined (chain_of piece next headless awaits) links refl all
    step false = (refl, all)

starts_chunk : (fragments : List Fragment) (chunk_id passed : ℕ) (chunk : Chunk) (rest : List Link) → AllStart (chains_in rest)
    → AllStart (chains_in (chunk_links false chunk_id chunk passed fragments rest))
starts_chunk [] chunk_id passed chunk rest all = all
starts_chunk (fragment ∷ others) chunk_id passed chunk rest all = step ((chunk.awaits && is_last others) && not false) (starts_chunk others chunk_id (suc passed) chunk rest all)
  where
    step : (b : Bool) → AllStart (chains_in (chunk_links false chunk_id chunk (suc passed) others rest))
        → AllStart (chains_in (cond b
        (Stop (place chunk_id passed) Unpatched (chunk.continues && (passed == 0)) ∷ [])
        (with_piece (record { at = place chunk_id passed; fragment = fragment; runs_on = chunk.runs_on && is_last others })
        (place_behind (is_part false chunk) chunk_id passed (is_last others)) (chunk.continues && (passed == 0)) (chunk.awaits && is_last others)
        (chunk_links false chunk_id chunk (suc passed) others rest))))
    step true later = tt
    step false later = starts_piece (record { at = place chunk_id passed; fragment = fragment; runs_on = chunk.runs_on && is_last others })
        (place_behind (is_part false chunk) chunk_id passed (is_last others)) (chunk.continues && (passed == 0)) (chunk.awaits && is_last others)
        (chunk_links false chunk_id chunk (suc passed) others rest) later

starts_row : (slots : List Slot) (chunk_id passed : ℕ) → AllStart (chains_in (row_of false chunk_id passed slots))
starts_row [] chunk_id passed = tt
starts_row (Here chunk ∷ slots) chunk_id passed =
    starts_chunk (drop passed chunk.fragments) chunk_id passed chunk
    (cond (is_part false chunk) (Stop (place chunk_id (max passed (length chunk.fragments))) Partial false ∷ []) (row_of false (suc chunk_id) 0 slots))
    (step (is_part false chunk) (starts_row slots (suc chunk_id) 0))
  where
    step : (b : Bool) → AllStart (chains_in (row_of false (suc chunk_id) 0 slots))
        → AllStart (chains_in (cond b (Stop (place chunk_id (max passed (length chunk.fragments))) Partial false ∷ []) (row_of false (suc chunk_id) 0 slots)))
    step true rest = tt
    step false rest = rest
starts_row (Gone ∷ slots) chunk_id passed = starts_row slots (suc chunk_id) 0
starts_row (Never ∷ slots) chunk_id passed = tt

starts_both : (chains others : List Chain) → AllStart chains → AllStart others → AllStart (chains ++ others)
starts_both [] others all more = more
starts_both (chain ∷ chains) others all more = (all.0, starts_both chains others all.1 more)

starts_reversed : (chains : List Chain) → AllStart chains → AllStart (reverse chains)
starts_reversed [] all = tt
starts_reversed (chain ∷ chains) all =
    subst AllStart (sym (reverse-append (chain ∷ []) chains)) (starts_both (reverse chains) (chain ∷ []) (starts_reversed chains all.1) (all.0, tt))

chains_start : (pages : List Page) → AllStart (chains_of pages)
chains_start pages = starts_reversed (chains_in (written_row pages)) (starts_row (written_slots (patches_of pages) 0 pages) 0 0)

-- a chain that begins a chunk has a piece that does
one_first : (at : Cursor) (pieces : List Piece) → StartsAt at pieces → (at.passed == 0) ≡ true → 1 ≤ firsts pieces
one_first at [] starts begins = absurd starts
one_first at (piece ∷ pieces) starts begins =
    let is : (piece.at.passed == 0) ≡ true = ap (λ (c : Cursor). c.passed == 0) starts ∙ begins in
    let first : firsts (piece ∷ pieces) ≡ 1 + firsts pieces = ap (λ (b : Bool). cond b 1 0 + firsts pieces) is in
    omega (arith, first)

-- ---- what isn't lost is kept

none_lost : (packet : Packet) (older : List Packet) → lost_count (packet ∷ older) ≡ 0 → (is_lost packet ≡ false) × (lost_count older ≡ 0)
none_lost packet older none = step (is_lost packet) refl
  where
    step : (b : Bool) → is_lost packet ≡ b → (is_lost packet ≡ false) × (lost_count older ≡ 0)
    step true lost =
        let some : suc (lost_count older) ≡ 0 = sym (ap (λ (b : Bool). length (cond b (packet ∷ filter is_lost older) (filter is_lost older))) lost) ∙ none in
        absurd (omega (arith, some))
    step false kept = (kept, sym (ap (λ (b : Bool). length (cond b (packet ∷ filter is_lost older) (filter is_lost older))) kept) ∙ none)

kept_whole : (packet : Packet) → is_lost packet ≡ false → packet.kept ≡ true
kept_whole packet whole = step packet.kept refl
  where
    step : (b : Bool) → packet.kept ≡ b → packet.kept ≡ true
    step true is = is
    step false is = absurd (let lost : true ≡ is_lost packet = ap (λ (b : Bool). not b || is_some packet.given_up) (sym is) in false≢true (sym whole ∙ sym lost))

same_true : (b : Bool) → is_same b true ≡ true → b ≡ true
same_true true same = refl
same_true false same = absurd (false≢true same)

-- ---- so many pages

-- a kept packet has a page
pub one_page : (size : ℕ) (packet : Packet) (older : List Packet) (pages : List Page) → lost_count (packet ∷ older) ≡ 0 → CutsInto size (packet ∷ older) pages → 1 ≤ length pages
one_page size packet older (page ∷ pages) none cut = omega arith
one_page size packet older [] none cut =
    let kept = kept_whole packet (none_lost packet older none).0 in
    absurd (subst (λ (packets : List Packet). AllZip (IsChainOf size) packets []) (ap (λ (b : Bool). cond b (packet ∷ kept_of older) (kept_of older)) kept) cut.chains)

-- packets that were begun, the newest first, each but the oldest behind a flush
abbrev pub AreFresh : List Packet → Type 0
AreFresh [] = Unit {0}
AreFresh (packet ∷ []) = packet.kept ≡ true
AreFresh (packet ∷ other ∷ older) = (packet.kept ≡ true) × (packet.follows_flush ≡ true) × AreFresh (other ∷ older)

-- each of their chains begins a chunk
fresh_firsts : (size : ℕ) (packets : List Packet) (chains : List Chain) → AreFresh packets → AllZip (IsChainOf size) packets chains
    → all_begin_well size packets chains ≡ true → AllStart chains → length packets ≤ chains_firsts chains
fresh_firsts size [] chains fresh zip begins starts = omega arith
fresh_firsts size (packet ∷ []) [] fresh zip begins starts = absurd zip
fresh_firsts size (packet ∷ []) (chain ∷ other ∷ chains) fresh zip begins starts = absurd zip.1
fresh_firsts size (packet ∷ []) (chain ∷ []) kept zip begins starts =
    let is : all_begin_well size (packet ∷ []) (chain ∷ []) ≡ (is_same (begins_chunk chain) true && true) =
    ap (λ (b : Bool). cond b (is_same (begins_chunk chain) true) true && true) kept in
    let both = and_parts (is_same (begins_chunk chain) true) true (sym is ∙ begins) in
    let one = one_first chain.at chain.pieces starts.0 (same_true (begins_chunk chain) both.0) in
    omega (arith, one)
fresh_firsts size (packet ∷ other ∷ older) [] fresh zip begins starts = absurd zip
fresh_firsts size (packet ∷ other ∷ older) (chain ∷ chains) fresh zip begins starts =
    let end : Bool = is_end size (newest_piece chains) in
    let rest : Bool = all_begin_well size (other ∷ older) chains in
    let is : all_begin_well size (packet ∷ other ∷ older) (chain ∷ chains) ≡ (is_same (begins_chunk chain) true && rest) =
    ap (λ (b : Bool). cond b (is_same (begins_chunk chain) (is_lost other || (packet.follows_flush || end)))
    (is_lost other || (packet.follows_flush || is_end size (newest_piece (chain ∷ chains))))
    && all_begin_well size (other ∷ older) (cond b chains (chain ∷ chains))) fresh.0
    ∙ ap (λ (b : Bool). is_same (begins_chunk chain) (is_lost other || (b || end)) && rest) fresh.1
    ∙ ap (λ (b : Bool). is_same (begins_chunk chain) b && rest) (or-true (is_lost other)) in
    let both = and_parts (is_same (begins_chunk chain) true) rest (sym is ∙ begins) in
    let one = one_first chain.at chain.pieces starts.0 (same_true (begins_chunk chain) both.0) in
    let others = fresh_firsts size (other ∷ older) chains fresh.2 zip.1 both.1 starts.1 in
    omega (arith, one, others)

fresh_kept : (packets : List Packet) → AreFresh packets → kept_of packets ≡ packets
fresh_kept [] fresh = refl
fresh_kept (packet ∷ []) kept = ap (λ (b : Bool). cond b (packet ∷ []) []) kept
fresh_kept (packet ∷ other ∷ older) fresh =
    ap (λ (b : Bool). cond b (packet ∷ kept_of (other ∷ older)) (kept_of (other ∷ older))) fresh.0
    ∙ ap (λ (packets : List Packet). packet ∷ packets) (fresh_kept (other ∷ older) fresh.2)

-- so they have as many pages, whatever was lost of them later
pub fresh_pages : (size : ℕ) (packets : List Packet) (pages : List Page) → AreFresh packets → CutsInto size packets pages → length packets ≤ length pages
fresh_pages size packets pages fresh cut =
    let zip = subst (λ (kept : List Packet). AllZip (IsChainOf size) kept (chains_of pages)) (fresh_kept packets fresh) cut.chains in
    let firsts_are = chains_counted size pages cut.full in
    let many = fresh_firsts size packets (chains_of pages) fresh zip cut.begins (chains_start pages) in
    omega (arith, firsts_are, many)

abbrev pub AllSet : List Bool → Type 0
AllSet [] = Unit {0}
AllSet (flag ∷ flags) = (flag ≡ true) × AllSet flags

-- Packets none of which is lost, and of which each but the oldest follows a flush, were all begun so.
pub whole_fresh : (packets : List Packet) (flags : List Bool) → map (λ (packet : Packet). packet.follows_flush) packets ≡ flags ++ false ∷ []
    → AllSet flags → lost_count packets ≡ 0 → AreFresh packets
whole_fresh [] [] is all none = tt
whole_fresh [] (flag ∷ flags) is all none = tt
whole_fresh (packet ∷ []) flags is all none = kept_whole packet (none_lost packet [] none).0
whole_fresh (packet ∷ other ∷ older) [] is all none = absurd (let long = ap (λ (bs : List Bool). length bs) is in omega (arith, long))
whole_fresh (packet ∷ other ∷ older) (flag ∷ flags) is all none =
    let here = none_lost packet (other ∷ older) none in (
      kept_whole packet here.0,
      head is ∙ all.0,
      whole_fresh (other ∷ older) flags (rest is) all.1 here.1,
    )
  where
    head : packet.follows_flush ∷ map (λ (one : Packet). one.follows_flush) (other ∷ older) ≡ flag ∷ (flags ++ false ∷ []) → packet.follows_flush ≡ flag
    head same = cc

    rest : packet.follows_flush ∷ map (λ (one : Packet). one.follows_flush) (other ∷ older) ≡ flag ∷ (flags ++ false ∷ [])
        → map (λ (one : Packet). one.follows_flush) (other ∷ older) ≡ flags ++ false ∷ []
    rest same = cc

-- where no packet was begun in a chunk there are no pages
pub none_kept : (size : ℕ) (packets : List Packet) (pages : List Page) → kept_of packets ≡ [] → CutsInto size packets pages → length pages ≡ 0
none_kept size packets pages none cut =
    sym (chains_counted size pages cut.full)
    ∙ no_chains (chains_of pages) (subst (λ (kept : List Packet). AllZip (IsChainOf size) kept (chains_of pages)) none cut.chains)
  where
    no_chains : (chains : List Chain) → AllZip (IsChainOf size) [] chains → chains_firsts chains ≡ 0
    no_chains [] zip = refl
    no_chains (chain ∷ chains) zip = absurd zip
