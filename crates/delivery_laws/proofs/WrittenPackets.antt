-- The packets that stand in a writer's sheets are the chains of its pages, in order.
use Rattle.std.proofs.Common.{◌≡◌, ◌∙◌, ℕ, suc, ◌+◌, ◌<◌, Bool, true, false, not, ◌&&◌, ◌||◌, All, List, [], ◌∷◌, ◌++◌, length, reverse, refl, sym, ap, subst, arith, append-nil}
use Rattle.std.specs.Prelude.{cond, ◌==◌}
use Rattle.std.specs.List.{AllZip}
use Rattle.std.proofs.lemmas.Bool.{false≢true, and_parts}
use Rattle.std.proofs.lemmas.List.{reverse-append}
use Rattle.std.proofs.Math.Bool.{and-true, and-false}
use Rattle.trace_base.proofs.Choices.{more_isnt_none}
use Rattle.trace_model.specs.Images.{Chunk, Fragment, Patch, patched_last}
use Rattle.trace_model.specs.Sequences.{Cursor}
use Rattle.trace_model.specs.Pages.{Page, chunk_of, fragments_from, patches_of}
use Rattle.trace_model.specs.Row.{Piece, Chain, Whole, Marked, CutOff, Open, Link, Joined, Gap, Stop, Unpatched, bytes_of, joined_to, with_piece, chain_of, place, place_behind, is_last, is_part, chunk_links, row_of}
use Rattle.trace_model.specs.Written.{settled_fragments, settled_chunk, written_slots, written_row, chains_in}
use Rattle.trace_model.specs.Cut.{IsWellFormedPage, FlagsAgree, is_marked_fate}
use Rattle.trace_model.proofs.CursorLemmas.{Each}
use Rattle.trace_model.proofs.PageLemmas.{fragments_long, settled_long}
use Rattle.delivery_laws.specs.Sheets.{Part, WrittenPacket, SheetsAgree, parts_from, all_parts, tail_bytes, ends_whole, packets_in}
use Rattle.delivery_laws.specs.WriterSheets.{sheets_from, sheets_of}
use Rattle.delivery_laws.proofs.Walks.{Follows}
use Rattle.delivery_laws.proofs.PieceLemmas.{no_tail, ends_here}

-- The chain is what was written of the packet that begins, or goes on, with the part `first`; behind it a packet begins.
record IsCovered (chain : Chain) (first : Part) (parts next : List Part) : Type 0 where
  starts : first.starts ≡ not chain.headless
  after : packets_in parts ≡ packets_in next
  bytes : first.bytes ++ tail_bytes parts ≡ bytes_of chain.pieces
  marked : ends_whole first parts ≡ true → is_marked_fate chain.fate ≡ false
  follows : Follows true next

-- the links of a row of which nothing is lost cover all parts
abbrev Covers : List Link → List Part → Type 0
Covers [] parts = ⊥
Covers (Stop at why may ∷ links) parts = (parts ≡ []) × (links ≡ [])
Covers (Gap at next lost ∷ links) parts = ⊥
Covers (Joined chain ∷ links) [] = ⊥
Covers (Joined chain ∷ links) (first ∷ parts) = (next : List Part) × IsCovered chain first parts next × Covers links next

-- the fragment is the part
record IsWritten (piece : Piece) (headless : Bool) (first : Part) (parts : List Part) : Type 0 where
  starts : first.starts ≡ not headless
  dropped : piece.fragment.dropped ≡ first.dropped
  bytes : first.bytes ≡ piece.fragment.bytes
  follows : Follows (not piece.runs_on) parts
  ends : piece.fragment.dropped ≡ true → piece.runs_on ≡ false

unmarked_fate : (dropped : Bool) → dropped ≡ false → is_marked_fate (cond dropped Marked Whole) ≡ false
unmarked_fate true e = absurd (false≢true (sym e))
unmarked_fate false e = refl

covers_joined : (piece : Piece) (next : Cursor) (headless : Bool) (first : Part) (links : List Link) (parts : List Part)
    → IsWritten piece headless first parts → piece.runs_on ≡ true → Covers links parts → Covers (joined_to (chain_of piece next headless false) links) (first ∷ parts)
covers_joined piece next headless first [] parts is runs c = absurd c
covers_joined piece next headless first (Gap at to lost ∷ links) parts is runs c = absurd c
covers_joined piece next headless first (Stop at why may ∷ links) parts is runs c = (
  [],
  record {
    starts = is.starts;
    after = ap packets_in c.0;
    bytes = ap (λ (ps : List Part). first.bytes ++ tail_bytes ps) c.0 ∙ ap (λ (xs : List ℕ). xs ++ []) is.bytes;
    marked = λ h. by_may may;
    follows = tt;
  },
  (refl, c.1),
)
  where
    by_may : (b : Bool) → is_marked_fate (cond b Open CutOff) ≡ false
    by_may true = refl
    by_may false = refl
covers_joined piece next headless first (Joined other ∷ links) [] is runs c = absurd c
covers_joined piece next headless first (Joined other ∷ links) (second ∷ parts) is runs c = by_head other.headless refl
  where
    no_start : second.starts ≡ false
    no_start = is.follows ∙ ap not runs

    by_head : (b : Bool) → other.headless ≡ b → Covers (cond b
        (Joined (record (chain_of piece next headless false) { next = other.next; pieces = (piece ∷ []) ++ other.pieces; awaits = false || other.awaits; fate = other.fate }) ∷ links)
        (Joined (record (chain_of piece next headless false) { fate = CutOff }) ∷ Joined other ∷ links)) (first ∷ second ∷ parts)
    by_head true e = (
      c.0,
      record {
        starts = is.starts;
        after = ap (λ (b : Bool). cond b (record { bytes = second.bytes ++ tail_bytes parts; whole = ends_whole second parts } ∷ packets_in parts) (packets_in parts)) no_start
            ∙ c.1.after;
        bytes = ap (λ (b : Bool). first.bytes ++ cond b [] (second.bytes ++ tail_bytes parts)) no_start
            ∙ ap (λ (xs : List ℕ). xs ++ (second.bytes ++ tail_bytes parts)) is.bytes
            ∙ ap (λ (xs : List ℕ). piece.fragment.bytes ++ xs) c.1.bytes;
        marked = λ h. c.1.marked (sym (ap (λ (b : Bool). cond b (first.ends && not first.dropped) (ends_whole second parts)) no_start) ∙ h);
        follows = c.1.follows;
      },
      c.2,
    )
    by_head false e = absurd (false≢true (sym no_start ∙ c.1.starts ∙ ap not e))

covers_piece : (piece : Piece) (next : Cursor) (headless : Bool) (first : Part) (links : List Link) (parts : List Part)
    → IsWritten piece headless first parts → Covers links parts → Covers (with_piece piece next headless false links) (first ∷ parts)
covers_piece piece next headless first links parts is c = by_runs (piece.runs_on && not piece.fragment.dropped) refl
  where
    stops : (d r : Bool) → (d ≡ true → r ≡ false) → (r && not d) ≡ false → r ≡ false
    stops d false h e = refl
    stops true true h e = h refl
    stops false true h e = absurd (false≢true (sym e))

    by_runs : (b : Bool) → (piece.runs_on && not piece.fragment.dropped) ≡ b
        → Covers (cond b (joined_to (chain_of piece next headless false) links) (Joined (chain_of piece next headless false) ∷ links)) (first ∷ parts)
    by_runs true e = covers_joined piece next headless first links parts is (and_parts piece.runs_on (not piece.fragment.dropped) e).0 c
    by_runs false e =
        let follows : Follows true parts = subst (λ (b : Bool). Follows (not b) parts) (stops piece.fragment.dropped piece.runs_on is.ends e) is.follows in (
          parts,
          record {
            starts = is.starts;
            after = refl;
            bytes = ap (λ (xs : List ℕ). xs ++ tail_bytes parts) is.bytes ∙ ap (λ (xs : List ℕ). piece.fragment.bytes ++ xs) (no_tail parts follows);
            marked = λ h. unmarked_fate piece.fragment.dropped (is.dropped ∙ kept first.ends first.dropped (sym (ends_here first parts follows) ∙ h));
            follows = follows;
          },
          c,
        )
      where
        kept : (a b : Bool) → (a && not b) ≡ true → b ≡ false
        kept true true h = absurd (false≢true h)
        kept true false h = refl
        kept false b h = absurd (false≢true h)

-- Pages

-- a drop mark stands only where the chunk runs on nowhere
abbrev DropsEnd : Bool → List Fragment → Type 0
DropsEnd runs_on [] = Unit {0}
DropsEnd runs_on (f ∷ fs) = (f.dropped ≡ true → runs_on ≡ false) × DropsEnd runs_on fs

covers_fragments : (chunk : Chunk) → chunk.awaits ≡ false → (chunk_id : ℕ) (goes : Bool) (after : List Part) (rest : List Link)
    → Follows (not chunk.runs_on) after → Covers rest after → (fragments : List Fragment) (k : ℕ) (continues : Bool) → continues ≡ (chunk.continues && (k == 0)) → DropsEnd chunk.runs_on fragments
    → Covers (chunk_links false chunk_id chunk k fragments rest) (parts_from continues goes fragments ++ after)
covers_fragments chunk settled chunk_id goes after rest follows c [] k continues e drops = c
covers_fragments chunk settled chunk_id goes after rest follows c (f ∷ fs) k continues e drops =
    by_stop ((chunk.awaits && is_last fs) && not false) (ap (λ (b : Bool). (b && is_last fs) && not false) settled)
    (covers_fragments chunk settled chunk_id goes after rest follows c fs (suc k) false (sym (ap (λ (b : Bool). chunk.continues && b) (more_isnt_none k) ∙ and-false chunk.continues)) drops.1)
  where
    onward : (fs : List Fragment) → Follows (not (chunk.runs_on && is_last fs)) (parts_from false goes fs ++ after)
    onward [] = subst (λ (b : Bool). Follows (not b) after) (sym (and-true chunk.runs_on)) follows
    onward (g ∷ gs) = ap not (sym (and-false chunk.runs_on))

    is : IsWritten (record { at = place chunk_id k; fragment = f; runs_on = chunk.runs_on && is_last fs }) (chunk.continues && (k == 0))
        (record { starts = not continues; ends = not (goes && is_last fs); dropped = f.dropped; bytes = f.bytes }) (parts_from false goes fs ++ after)
    is = record {
      starts = ap not e;
      dropped = refl;
      bytes = refl;
      follows = onward fs;
      ends = λ d. ap (λ (b : Bool). b && is_last fs) (drops.0 d);
    }

    by_stop : (b : Bool) → b ≡ false → Covers (chunk_links false chunk_id chunk (suc k) fs rest) (parts_from false goes fs ++ after)
        → Covers (cond b (Stop (place chunk_id k) Unpatched (chunk.continues && (k == 0)) ∷ [])
        (with_piece (record { at = place chunk_id k; fragment = f; runs_on = chunk.runs_on && is_last fs }) (place_behind (is_part false chunk) chunk_id k (is_last fs))
        (chunk.continues && (k == 0)) (chunk.awaits && is_last fs) (chunk_links false chunk_id chunk (suc k) fs rest)))
        (record { starts = not continues; ends = not (goes && is_last fs); dropped = f.dropped; bytes = f.bytes } ∷ (parts_from false goes fs ++ after))
    by_stop true h n = absurd (false≢true (sym h))
    by_stop false h n =
        subst (λ (a : Bool). Covers (with_piece (record { at = place chunk_id k; fragment = f; runs_on = chunk.runs_on && is_last fs }) (place_behind (is_part false chunk) chunk_id k (is_last fs))
        (chunk.continues && (k == 0)) (a && is_last fs) (chunk_links false chunk_id chunk (suc k) fs rest))
        (record { starts = not continues; ends = not (goes && is_last fs); dropped = f.dropped; bytes = f.bytes } ∷ (parts_from false goes fs ++ after)))
        (sym settled)
        (covers_piece (record { at = place chunk_id k; fragment = f; runs_on = chunk.runs_on && is_last fs }) (place_behind (is_part false chunk) chunk_id k (is_last fs))
        (chunk.continues && (k == 0)) (record { starts = not continues; ends = not (goes && is_last fs); dropped = f.dropped; bytes = f.bytes })
        (chunk_links false chunk_id chunk (suc k) fs rest) (parts_from false goes fs ++ after) is n)

-- patches change neither how many fragments there are nor which has the drop mark
drops_patched : (runs_on : Bool) (patch : Patch) (fs : List Fragment) → DropsEnd runs_on fs → DropsEnd runs_on (patched_last patch fs)
drops_patched runs_on patch [] h = h
drops_patched runs_on patch (f ∷ []) h = h
drops_patched runs_on patch (f ∷ g ∷ gs) h = (h.0, drops_patched runs_on patch (g ∷ gs) h.1)

drops_settled : (runs_on : Bool) (patches : List Patch) (chunk_id : ℕ) (fs : List Fragment) → DropsEnd runs_on fs → DropsEnd runs_on (settled_fragments patches chunk_id fs)
drops_settled runs_on [] chunk_id fs h = h
drops_settled runs_on (patch ∷ patches) chunk_id fs h =
    drops_settled runs_on patches chunk_id (cond (patch.chunk_id == chunk_id) (patched_last patch fs) fs) (step (patch.chunk_id == chunk_id))
  where
    step : (b : Bool) → DropsEnd runs_on (cond b (patched_last patch fs) fs)
    step true = drops_patched runs_on patch fs h
    step false = h

drops_page : (runs_on dropped : Bool) → (dropped ≡ true → runs_on ≡ false) → (at : ℕ) (texts : List (List ℕ)) → DropsEnd runs_on (fragments_from at dropped texts)
drops_page runs_on dropped h at [] = tt
drops_page runs_on dropped h at (text ∷ []) = (h, tt)
drops_page runs_on dropped h at (text ∷ next ∷ texts) = ((λ e. absurd (false≢true e)), drops_page runs_on dropped h (at + length text + 4) (next ∷ texts))

-- each page is full, said page by page
abbrev pub AreFull : ℕ → List Page → Type 0
AreFull size [] = Unit {0}
AreFull size (page ∷ pages) = IsWellFormedPage size page × AreFull size pages

pub are_full : (size : ℕ) (pages : List Page) → All (IsWellFormedPage size) pages → AreFull size pages
are_full size [] h = tt
are_full size (page ∷ pages) h = (h 0 page (omega arith), are_full size pages (λ k d low. h (suc k) d (omega (arith, low))))

settled_some : (size : ℕ) (patches : List Patch) (chunk_id : ℕ) (page : Page) → IsWellFormedPage size page → 0 < length (settled_fragments patches chunk_id (chunk_of page).fragments)
settled_some size patches chunk_id page full =
    let some = full.some in
    let long = settled_long patches chunk_id (chunk_of page).fragments in
    let texts = fragments_long 4 page.dropped page.fragments in
    omega (arith, some, long, texts)

follows_page : (size : ℕ) (patches : List Patch) (chunk_id : ℕ) (goes runs_on : Bool) (page : Page) (more : List Page) → page.continues ≡ runs_on → IsWellFormedPage size page
    → Follows (not runs_on) (all_parts (sheets_from patches chunk_id goes (page ∷ more)))
follows_page size patches chunk_id goes runs_on page [] e full =
    begins (settled_fragments patches chunk_id (chunk_of page).fragments) (settled_some size patches chunk_id page full)
  where
    begins : (fs : List Fragment) → 0 < length fs → Follows (not runs_on) (parts_from page.continues goes fs ++ [])
    begins [] some = absurd (omega (arith, some))
    begins (f ∷ fs) some = ap not e
follows_page size patches chunk_id goes runs_on page (next ∷ more) e full =
    begins (settled_fragments patches chunk_id (chunk_of page).fragments) (settled_some size patches chunk_id page full)
  where
    begins : (fs : List Fragment) → 0 < length fs → Follows (not runs_on) (parts_from page.continues page.runs_on fs ++ all_parts (sheets_from patches (suc chunk_id) goes (next ∷ more)))
    begins [] some = absurd (omega (arith, some))
    begins (f ∷ fs) some = ap not e

covers_page : (size : ℕ) (patches : List Patch) (chunk_id : ℕ) (goes : Bool) (page : Page) (after : List Part) (rest : List Link) → IsWellFormedPage size page
    → Follows (not page.runs_on) after → Covers rest after
    → Covers (chunk_links false chunk_id (settled_chunk patches chunk_id (chunk_of page)) 0 (settled_fragments patches chunk_id (chunk_of page).fragments) rest)
    (parts_from page.continues goes (settled_fragments patches chunk_id (chunk_of page).fragments) ++ after)
covers_page size patches chunk_id goes page after rest full follows c =
    covers_fragments (settled_chunk patches chunk_id (chunk_of page)) refl chunk_id goes after rest follows c
    (settled_fragments patches chunk_id (chunk_of page).fragments) 0 page.continues (sym (and-true page.continues))
    (drops_settled page.runs_on patches chunk_id (chunk_of page).fragments (drops_page page.runs_on page.dropped (λ d. (full.dropped d).0) 4 page.fragments))

covers_pages : (size : ℕ) (patches : List Patch) (goes runs_on : Bool) (pages : List Page) (chunk_id : ℕ) → AreFull size pages → FlagsAgree runs_on pages
    → Covers (row_of false chunk_id 0 (written_slots patches chunk_id pages)) (all_parts (sheets_from patches chunk_id goes pages))
covers_pages size patches goes runs_on [] chunk_id full flags = (refl, refl)
covers_pages size patches goes runs_on (page ∷ []) chunk_id full flags =
    covers_page size patches chunk_id goes page [] (row_of false (suc chunk_id) 0 []) full.0 tt (refl, refl)
covers_pages size patches goes runs_on (page ∷ next ∷ pages) chunk_id full flags =
    covers_page size patches chunk_id page.runs_on page (all_parts (sheets_from patches (suc chunk_id) goes (next ∷ pages)))
    (row_of false (suc chunk_id) 0 (written_slots patches (suc chunk_id) (next ∷ pages))) full.0
    (follows_page size patches (suc chunk_id) goes page.runs_on next pages flags.1.0 full.1.0)
    (covers_pages size patches goes page.runs_on (next ∷ pages) (suc chunk_id) full.1 flags.1)

-- Packets

-- what the chain says of the packet
pub record IsToldBy (chain : Chain) (packet : WrittenPacket) : Type 0 where
  pub bytes : packet.bytes ≡ bytes_of chain.pieces
  pub marked : packet.whole ≡ true → is_marked_fate chain.fate ≡ false

covered_told : (links : List Link) (parts : List Part) → Follows true parts → Covers links parts → AllZip IsToldBy (chains_in links) (packets_in parts)
covered_told [] parts follows c = absurd c
covered_told (Stop at why may ∷ links) parts follows c =
    subst (λ (ps : List Part). AllZip IsToldBy (chains_in links) (packets_in ps)) (sym c.0)
    (subst (λ (ls : List Link). AllZip IsToldBy (chains_in ls) []) (sym c.1) tt)
covered_told (Gap at next lost ∷ links) parts follows c = absurd c
covered_told (Joined chain ∷ links) [] follows c = absurd c
covered_told (Joined chain ∷ links) (first ∷ parts) follows c =
    subst (λ (ps : List WrittenPacket). AllZip IsToldBy (chain ∷ chains_in links) ps)
    (sym (ap (λ (b : Bool). cond b (record { bytes = first.bytes ++ tail_bytes parts; whole = ends_whole first parts } ∷ packets_in parts) (packets_in parts)) follows
    ∙ ap (λ (ps : List WrittenPacket). record { bytes = first.bytes ++ tail_bytes parts; whole = ends_whole first parts } ∷ ps) c.1.after))
    (record { bytes = c.1.bytes; marked = c.1.marked }, covered_told links c.0 c.1.follows c.2)

-- and each of the chains has its start
covered_heads : (links : List Link) (parts : List Part) → Follows true parts → Covers links parts → Each (λ (chain : Chain). chain.headless ≡ false) (chains_in links)
covered_heads [] parts follows c = absurd c
covered_heads (Stop at why may ∷ links) parts follows c = subst (λ (ls : List Link). Each (λ (chain : Chain). chain.headless ≡ false) (chains_in ls)) (sym c.1) tt
covered_heads (Gap at next lost ∷ links) parts follows c = absurd c
covered_heads (Joined chain ∷ links) [] follows c = absurd c
covered_heads (Joined chain ∷ links) (first ∷ parts) follows c = (was chain.headless (sym c.1.starts ∙ follows), covered_heads links c.0 c.1.follows c.2)
  where
    was : (b : Bool) → not b ≡ true → b ≡ false
    was true e = absurd (false≢true e)
    was false e = refl

pub zip_append : {A B : Type 0} (R : A → B → Type 0) (xs xs' : List A) (ys ys' : List B) → AllZip R xs ys → AllZip R xs' ys' → AllZip R (xs ++ xs') (ys ++ ys')
zip_append R [] xs' [] ys' h k = k
zip_append R [] xs' (y ∷ ys) ys' h k = absurd h
zip_append R (x ∷ xs) xs' [] ys' h k = absurd h
zip_append R (x ∷ xs) xs' (y ∷ ys) ys' h k = (h.0, zip_append R xs xs' ys ys' h.1 k)

pub zip_reversed : {A B : Type 0} (R : A → B → Type 0) (xs : List A) (ys : List B) → AllZip R xs ys → AllZip R (reverse xs) (reverse ys)
zip_reversed R [] [] h = tt
zip_reversed R [] (y ∷ ys) h = absurd h
zip_reversed R (x ∷ xs) [] h = absurd h
zip_reversed R (x ∷ xs) (y ∷ ys) h =
    subst (λ zs. AllZip R zs (reverse (y ∷ ys))) (sym (reverse-append (x ∷ []) xs))
    (subst (λ zs. AllZip R (reverse xs ++ x ∷ []) zs) (sym (reverse-append (y ∷ []) ys))
    (zip_append R (reverse xs) (x ∷ []) (reverse ys) (y ∷ []) (zip_reversed R xs ys h.1) (h.0, tt)))

begins_first : (size : ℕ) (goes : Bool) (pages : List Page) → AreFull size pages → FlagsAgree false pages → Follows true (all_parts (sheets_of goes pages))
begins_first size goes [] full flags = tt
begins_first size goes (page ∷ more) full flags = follows_page size (patches_of (page ∷ more)) 0 goes false page more flags.0 full.0

-- the chains of the pages, the oldest first, and the packets that stand in the sheets
pub packets_are_chains : (size : ℕ) (goes : Bool) (pages : List Page) → AreFull size pages → FlagsAgree false pages
    → AllZip IsToldBy (chains_in (written_row pages)) (packets_in (all_parts (sheets_of goes pages)))
packets_are_chains size goes pages full flags =
    covered_told (written_row pages) (all_parts (sheets_of goes pages)) (begins_first size goes pages full flags) (covers_pages size (patches_of pages) goes false pages 0 full flags)

pub chains_have_heads : (size : ℕ) (pages : List Page) → AreFull size pages → FlagsAgree false pages → Each (λ (chain : Chain). chain.headless ≡ false) (chains_in (written_row pages))
chains_have_heads size pages full flags =
    covered_heads (written_row pages) (all_parts (sheets_of false pages)) (begins_first size false pages full flags) (covers_pages size (patches_of pages) false false pages 0 full flags)

-- the sheets' flags agree
sheets_agree_from : (size : ℕ) (patches : List Patch) (goes runs_on : Bool) (pages : List Page) (chunk_id : ℕ) → AreFull size pages → FlagsAgree runs_on pages
    → SheetsAgree runs_on (sheets_from patches chunk_id goes pages)
sheets_agree_from size patches goes runs_on [] chunk_id full flags = tt
sheets_agree_from size patches goes runs_on (page ∷ []) chunk_id full flags = (flags.0, settled_some size patches chunk_id page full.0, tt)
sheets_agree_from size patches goes runs_on (page ∷ next ∷ pages) chunk_id full flags = (
  flags.0,
  settled_some size patches chunk_id page full.0,
  sheets_agree_from size patches goes page.runs_on (next ∷ pages) (suc chunk_id) full.1 flags.1,
)

pub sheets_agree : (size : ℕ) (goes : Bool) (pages : List Page) → AreFull size pages → FlagsAgree false pages → SheetsAgree false (sheets_of goes pages)
sheets_agree size goes pages full flags = sheets_agree_from size (patches_of pages) goes false pages 0 full flags

-- The last packet isn't whole where the last chunk goes on

-- the last part doesn't end its packet
abbrev pub LastGoesOn : List Part → Type 0
LastGoesOn [] = Unit {0}
LastGoesOn (part ∷ []) = part.ends ≡ false
LastGoesOn (part ∷ next ∷ parts) = LastGoesOn (next ∷ parts)

goes_fragments : (continues : Bool) (fs : List Fragment) → LastGoesOn (parts_from continues true fs)
goes_fragments continues [] = tt
goes_fragments continues (f ∷ []) = refl
goes_fragments continues (f ∷ g ∷ gs) = goes_fragments false (g ∷ gs)

goes_append : (xs ys : List Part) → LastGoesOn ys → (0 < length ys) → LastGoesOn (xs ++ ys)
goes_append [] ys h some = h
goes_append (x ∷ []) [] h some = absurd (omega (arith, some))
goes_append (x ∷ []) (y ∷ ys) h some = h
goes_append (x ∷ z ∷ xs) ys h some = goes_append (z ∷ xs) ys h some

last_goes_on : (size : ℕ) (patches : List Patch) (pages : List Page) (chunk_id : ℕ) → AreFull size pages → LastGoesOn (all_parts (sheets_from patches chunk_id true pages))
last_goes_on size patches [] chunk_id full = tt
last_goes_on size patches (page ∷ []) chunk_id full =
    subst LastGoesOn (sym (append-nil (parts_from page.continues true (settled_fragments patches chunk_id (chunk_of page).fragments))))
    (goes_fragments page.continues (settled_fragments patches chunk_id (chunk_of page).fragments))
last_goes_on size patches (page ∷ next ∷ pages) chunk_id full =
    goes_append (parts_from page.continues page.runs_on (settled_fragments patches chunk_id (chunk_of page).fragments))
    (all_parts (sheets_from patches (suc chunk_id) true (next ∷ pages)))
    (last_goes_on size patches (next ∷ pages) (suc chunk_id) full.1)
    (some_parts next pages full.1.0)
  where
    long : (continues goes : Bool) (fs : List Fragment) (more : List Part) → 0 < length fs → 0 < length (parts_from continues goes fs ++ more)
    long continues goes [] more h = absurd (omega (arith, h))
    long continues goes (f ∷ fs) more h = omega arith

    some_parts : (page : Page) (more : List Page) → IsWellFormedPage size page → 0 < length (all_parts (sheets_from patches (suc chunk_id) true (page ∷ more)))
    some_parts page [] f = long page.continues true (settled_fragments patches (suc chunk_id) (chunk_of page).fragments) [] (settled_some size patches (suc chunk_id) page f)
    some_parts page (other ∷ more) f = long page.continues page.runs_on (settled_fragments patches (suc chunk_id) (chunk_of page).fragments)
        (all_parts (sheets_from patches (suc (suc chunk_id)) true (other ∷ more))) (settled_some size patches (suc chunk_id) page f)

-- the last packet isn't whole
abbrev pub LastIsOpen : List WrittenPacket → Type 0
LastIsOpen [] = Unit {0}
LastIsOpen (packet ∷ []) = packet.whole ≡ false
LastIsOpen (packet ∷ next ∷ packets) = LastIsOpen (next ∷ packets)

open_last : (parts : List Part) → LastGoesOn parts → LastIsOpen (packets_in parts)
open_last [] h = tt
open_last (part ∷ []) h = by_start part.starts
  where
    by_start : (b : Bool) → LastIsOpen (cond {A = List WrittenPacket} b (record { bytes = part.bytes ++ []; whole = part.ends && not part.dropped } ∷ []) [])
    by_start true = ap (λ (e : Bool). e && not part.dropped) h
    by_start false = tt
open_last (part ∷ next ∷ parts) h = by_start part.starts (open_last (next ∷ parts) h)
  where
    none_whole : (part next : Part) (parts : List Part) → LastGoesOn (next ∷ parts) → packets_in (next ∷ parts) ≡ [] → ends_whole part (next ∷ parts) ≡ false
    none_whole part next [] h e = by_next next.starts refl e
      where
        by_next : (b : Bool) → next.starts ≡ b → cond {A = List WrittenPacket} b (record { bytes = next.bytes ++ []; whole = next.ends && not next.dropped } ∷ []) [] ≡ []
            → cond b (part.ends && not part.dropped) (next.ends && not next.dropped) ≡ false
        by_next true s e = absurd (cc)
        by_next false s e = ap (λ (x : Bool). x && not next.dropped) h
    none_whole part next (third ∷ parts) h e = by_next next.starts e (λ k. none_whole next third parts h k)
      where
        by_next : (b : Bool) → cond {A = List WrittenPacket} b (record { bytes = next.bytes ++ tail_bytes (third ∷ parts); whole = ends_whole next (third ∷ parts) } ∷ packets_in (third ∷ parts)) (packets_in (third ∷ parts)) ≡ []
            → (packets_in (third ∷ parts) ≡ [] → ends_whole next (third ∷ parts) ≡ false)
            → cond b (part.ends && not part.dropped) (ends_whole next (third ∷ parts)) ≡ false
        by_next true e k = absurd (cc)
        by_next false e k = k e

    by_start : (b : Bool) → LastIsOpen (packets_in (next ∷ parts))
        → LastIsOpen (cond {A = List WrittenPacket} b (record { bytes = part.bytes ++ tail_bytes (next ∷ parts); whole = ends_whole part (next ∷ parts) } ∷ packets_in (next ∷ parts)) (packets_in (next ∷ parts)))
    by_start false k = k
    by_start true k = by_rest (packets_in (next ∷ parts)) refl k
      where
        by_rest : (ps : List WrittenPacket) → packets_in (next ∷ parts) ≡ ps → LastIsOpen ps
            → LastIsOpen (record { bytes = part.bytes ++ tail_bytes (next ∷ parts); whole = ends_whole part (next ∷ parts) } ∷ ps)
        by_rest [] e k = none_whole part next parts h e
        by_rest (p ∷ ps) e k = k

pub newest_open : (size : ℕ) (pages : List Page) → AreFull size pages → LastIsOpen (packets_in (all_parts (sheets_of true pages)))
newest_open size pages full = open_last (all_parts (sheets_of true pages)) (last_goes_on size (patches_of pages) pages 0 full)
