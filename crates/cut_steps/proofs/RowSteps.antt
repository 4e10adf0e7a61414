-- The row of a writer's pages, as one more page is put behind them.
use Rattle.std.proofs.Common.{◌≡◌, ◌∙◌, ℕ, suc, ◌+◌, ◌≤◌, ◌==◌, Bool, true, false, ◌&&◌, List, [], ◌∷◌, ◌++◌, reverse, length, All, cond, refl, sym, ap, subst, arith, append_assoc, true≢false, ◌||◌}
use Rattle.std.specs.Prelude.{⊤}
use Rattle.std.proofs.lemmas.List.{reverse-append, append-nil}
use Rattle.std.proofs.lemmas.List.Elements.{All-head, All-tail}
use Rattle.trace_model.specs.Images.{Fragment, Chunk}
use Rattle.trace_model.specs.Sequences.{Cursor}
use Rattle.trace_model.specs.Row.{Slot, Here, Piece, Chain, Whole, Marked, CutOff, Open, Link, Joined, Stop, Missing, place, is_last, chunk_links, joined_to, with_piece, place_behind, row_of}
use Rattle.trace_model.specs.RowLaws.{is_open, continued, AreWhole}
use Rattle.trace_model.specs.Pages.{Page, fragments_from}
use Rattle.trace_model.specs.Written.{written_slots, chains_in}
use Rattle.trace_model.specs.Cut.{IsWellFormedPage, FlagsAgree, last_runs_on}
use Rattle.trace_model.proofs.ContinuedLemmas.{rows_continue}
use Rattle.trace_model.proofs.JoinLemmas.{merged}
use Rattle.cut_steps.specs.RawChains.{fate_of, offset_behind}

-- Links as chains

-- the links of these chains, which stand the newest first, and then others
abbrev pub links_of : List Chain → List Link → List Link
links_of [] links = links
links_of (chain ∷ older) links = links_of older (Joined chain ∷ links)

pub chains_in-links_of : (chains : List Chain) (links : List Link) → reverse (chains_in (links_of chains links)) ≡ reverse (chains_in links) ++ chains
chains_in-links_of [] links = sym (append-nil (reverse (chains_in links)))
chains_in-links_of (chain ∷ older) links =
    chains_in-links_of older (Joined chain ∷ links)
    ∙ ap (λ (xs : List Chain). xs ++ older) (reverse-append (chain ∷ []) (chains_in links))
    ∙ append_assoc (reverse (chains_in links)) (chain ∷ []) older

abbrev pub StartsAt : Cursor → List Piece → Type 0
StartsAt at [] = ⊥
StartsAt at (piece ∷ pieces) = piece.at ≡ at

-- the chain is not open, and begins with its first piece
pub record IsClosed (chain : Chain) : Type 0 where
  pub closed : is_open chain.fate ≡ false
  pub starts : StartsAt chain.at chain.pieces

abbrev pub AllClosed : List Chain → Type 0
AllClosed [] = ⊤
AllClosed (chain ∷ older) = IsClosed chain × AllClosed older

-- the chain runs on into the next page
pub record RunsOnHere (chain : Chain) : Type 0 where
  pub open_end : is_open chain.fate ≡ true
  pub headless : chain.headless ≡ false
  pub awaits : chain.awaits ≡ false
  pub starts : StartsAt chain.at chain.pieces

abbrev pub Ends : Bool → List Chain → Type 0
Ends false chains = AllClosed chains
Ends true [] = ⊥
Ends true (chain ∷ older) = RunsOnHere chain × AllClosed older

-- the first chain of a page behind these, which continues the newest of them or not
abbrev pub entered : Bool → List Chain → Chain → List Chain
entered false chains other = other ∷ chains
entered true [] other = other ∷ []
entered true (chain ∷ older) other = merged chain other ∷ older

abbrev pub stop_at : Cursor → List Link
stop_at at = Stop at Missing true ∷ []

continued-closed : (chains : List Chain) (links rest : List Link) → AllClosed chains → continued (links_of chains links) rest ≡ links_of chains (continued links rest)
continued-closed [] links rest h = refl
continued-closed (chain ∷ older) links rest h =
    continued-closed older (Joined chain ∷ links) rest h.1
    ∙ ap (λ (b : Bool). links_of older (cond b (joined_to chain rest) (Joined chain ∷ continued links rest))) h.0.closed

continued-entered : (runs_on : Bool) (chains : List Chain) (at : Cursor) (other : Chain) (tail : List Link) → Ends runs_on chains → other.headless ≡ runs_on
    → continued (links_of chains (stop_at at)) (Joined other ∷ tail) ≡ links_of (entered runs_on chains other) tail
continued-entered false chains at other tail h e = continued-closed chains (stop_at at) (Joined other ∷ tail) h
continued-entered true [] at other tail h e = absurd h
continued-entered true (chain ∷ older) at other tail h e =
    continued-closed older (Joined chain ∷ stop_at at) (Joined other ∷ tail) h.1
    ∙ ap (λ (b : Bool). links_of older (cond b (joined_to chain (Joined other ∷ tail)) (Joined chain ∷ Joined other ∷ tail))) h.0.open_end
    ∙ ap (λ (b : Bool). links_of older (cond b (Joined (merged chain other) ∷ tail) (Joined (record chain { fate = CutOff }) ∷ Joined other ∷ tail))) e

-- The fragments of a page

abbrev pub piece_at : (chunk_id passed at : ℕ) → List ℕ → Bool → Bool → Piece
piece_at chunk_id passed at bytes runs_on dropped = record {
  at = place chunk_id passed;
  fragment = record { bytes = bytes; dropped = dropped; offset = at };
  runs_on = runs_on;
}

-- a chain of one piece
abbrev pub lone : Bool → Cursor → Piece → Chain
lone headless next piece = record {
  at = piece.at;
  next = next;
  headless = headless;
  pieces = piece ∷ [];
  awaits = false;
  fate = fate_of piece;
}

abbrev pub chunk_with : Bool → Bool → List Fragment → Chunk
chunk_with continues runs_on fragments =
    record { continues = continues; runs_on = runs_on; awaits = false; partial = false; fragments = fragments }

abbrev NonEmpty : List (List ℕ) → Type 0
NonEmpty [] = ⊥
NonEmpty (bytes ∷ others) = ⊤

non_empty-last : (done : List (List ℕ)) (now : List ℕ) → NonEmpty (done ++ now ∷ [])
non_empty-last [] now = tt
non_empty-last (bytes ∷ others) now = tt

is_last-more : (others : List (List ℕ)) (next : List ℕ) (at : ℕ) (dropped : Bool) → is_last (fragments_from at dropped (next ∷ others)) ≡ false
is_last-more [] next at dropped = refl
is_last-more (third ∷ others) next at dropped = refl

links-more : (tail : List (List ℕ)) (chunk_id passed at : ℕ) (continues runs_on dropped : Bool) (all : List Fragment) (bytes : List ℕ) (rest : List Link)
    → NonEmpty tail
    → chunk_links false chunk_id (chunk_with continues runs_on all) passed (fragments_from at dropped (bytes ∷ tail)) rest
    ≡ Joined (lone (continues && (passed == 0)) (place chunk_id (suc passed)) (piece_at chunk_id passed at bytes false false))
    ∷ chunk_links false chunk_id (chunk_with continues runs_on all) (suc passed) (fragments_from (at + length bytes + 4) dropped tail) rest
links-more [] chunk_id passed at continues runs_on dropped all bytes rest h = absurd h
links-more (next ∷ others) chunk_id passed at continues runs_on dropped all bytes rest h =
    let links : List Link = chunk_links false chunk_id (chunk_with continues runs_on all) (suc passed) (fragments_from (at + length bytes + 4) dropped (next ∷ others)) rest in
    let fragment : Fragment = record { bytes = bytes; dropped = false; offset = at } in
    ap (λ (b : Bool). with_piece (record { at = place chunk_id passed; fragment = fragment; runs_on = runs_on && b })
    (place_behind false chunk_id passed b) (continues && (passed == 0)) false links) (is_last-more others next (at + length bytes + 4) dropped)
    ∙ ap (λ (b : Bool). with_piece (record { at = place chunk_id passed; fragment = fragment; runs_on = b })
    (place chunk_id (suc passed)) (continues && (passed == 0)) false links) (and_false runs_on)
  where
    and_false : (b : Bool) → (b && false) ≡ false
    and_false true = refl
    and_false false = refl

-- the last one
links-last : (chunk_id passed at : ℕ) (continues runs_on dropped : Bool) (all : List Fragment) (bytes : List ℕ) (stop : Cursor)
    → (dropped ≡ true → runs_on ≡ false)
    → chunk_links false chunk_id (chunk_with continues runs_on all) passed (fragments_from at dropped (bytes ∷ [])) (stop_at stop)
    ≡ Joined (lone (continues && (passed == 0)) (place (suc chunk_id) 0) (piece_at chunk_id passed at bytes runs_on dropped)) ∷ stop_at stop
links-last chunk_id passed at continues true true all bytes stop h = absurd (true≢false (h refl))
links-last chunk_id passed at continues true false all bytes stop h = refl
links-last chunk_id passed at continues false true all bytes stop h = refl
links-last chunk_id passed at continues false false all bytes stop h = refl

not_first : (continues : Bool) (passed : ℕ) → (continues && (suc passed == 0)) ≡ false
not_first true passed = grind (arith)
not_first false passed = refl

-- the chains of these fragments behind others
abbrev pub behind : ℕ → ℕ → ℕ → List (List ℕ) → List Chain → List Chain
behind chunk_id passed at [] chains = chains
behind chunk_id passed at (bytes ∷ others) chains =
    behind chunk_id (suc passed) (at + length bytes + 4) others
    (lone false (place chunk_id (suc passed)) (piece_at chunk_id passed at bytes false false) ∷ chains)

-- and of the last one behind these
abbrev pub last_behind : ℕ → ℕ → ℕ → List (List ℕ) → List ℕ → Bool → Bool → List Chain → List Chain
last_behind chunk_id passed at done now runs_on dropped chains =
    lone false (place (suc chunk_id) 0) (piece_at chunk_id (passed + length done) (offset_behind at done) now runs_on dropped)
    ∷ behind chunk_id passed at done chains

links-behind : (done : List (List ℕ)) (chunk_id passed at : ℕ) (continues runs_on dropped : Bool) (all : List Fragment) (now : List ℕ) (chains : List Chain) (stop : Cursor)
    → (dropped ≡ true → runs_on ≡ false)
    → links_of chains (chunk_links false chunk_id (chunk_with continues runs_on all) (suc passed) (fragments_from at dropped (done ++ now ∷ [])) (stop_at stop))
    ≡ links_of (last_behind chunk_id (suc passed) at done now runs_on dropped chains) (stop_at stop)
links-behind [] chunk_id passed at continues runs_on dropped all now chains stop h =
    ap (links_of chains) (links-last chunk_id (suc passed) at continues runs_on dropped all now stop h)
    ∙ ap (λ (b : Bool). links_of chains (Joined (lone b (place (suc chunk_id) 0) (piece_at chunk_id (suc passed) at now runs_on dropped)) ∷ stop_at stop)) (not_first continues passed)
    ∙ ap (λ (k : ℕ). links_of chains (Joined (lone false (place (suc chunk_id) 0) (piece_at chunk_id k at now runs_on dropped)) ∷ stop_at stop)) (omega arith)
links-behind (bytes ∷ others) chunk_id passed at continues runs_on dropped all now chains stop h =
    let rest : List Link = chunk_links false chunk_id (chunk_with continues runs_on all) (suc (suc passed)) (fragments_from (at + length bytes + 4) dropped (others ++ now ∷ [])) (stop_at stop) in
    let one : Chain = lone false (place chunk_id (suc (suc passed))) (piece_at chunk_id (suc passed) at bytes false false) in
    ap (links_of chains) (links-more (others ++ now ∷ []) chunk_id (suc passed) at continues runs_on dropped all bytes (stop_at stop) (non_empty-last others now))
    ∙ ap (λ (b : Bool). links_of chains (Joined (lone b (place chunk_id (suc (suc passed))) (piece_at chunk_id (suc passed) at bytes false false)) ∷ rest)) (not_first continues passed)
    ∙ links-behind others chunk_id (suc passed) (at + length bytes + 4) continues runs_on dropped all now (one ∷ chains) stop h
    ∙ ap (λ (k : ℕ). links_of (lone false (place (suc chunk_id) 0) (piece_at chunk_id k (offset_behind (at + length bytes + 4) others) now runs_on dropped)
    ∷ behind chunk_id (suc (suc passed)) (at + length bytes + 4) others (one ∷ chains)) (stop_at stop)) (omega arith)

-- The page

abbrev pub row : List Page → List Link
row pages = row_of false 0 0 (written_slots [] 0 pages)

written_slots-append : (pages more : List Page) (chunk_id : ℕ)
    → written_slots [] chunk_id (pages ++ more) ≡ written_slots [] chunk_id pages ++ written_slots [] (chunk_id + length pages) more
written_slots-append [] more chunk_id = ap (λ (n : ℕ). written_slots [] n more) (omega arith)
written_slots-append (page ∷ pages) more chunk_id =
    ap (λ (slots : List Slot). Here (chunk_with page.continues page.runs_on (fragments_from 4 page.dropped page.fragments)) ∷ slots) (written_slots-append pages more (suc chunk_id))
    ∙ ap (λ (n : ℕ). written_slots [] chunk_id (page ∷ pages) ++ written_slots [] n more) (omega arith)

are_whole : (pages : List Page) (chunk_id : ℕ) → AreWhole (written_slots [] chunk_id pages)
are_whole [] chunk_id = tt
are_whole (page ∷ pages) chunk_id = (refl, refl, are_whole pages (suc chunk_id))

length-written_slots : (pages : List Page) (chunk_id : ℕ) → length (written_slots [] chunk_id pages) ≡ length pages
length-written_slots [] chunk_id = refl
length-written_slots (page ∷ pages) chunk_id = ap suc (length-written_slots pages (suc chunk_id))

-- the links of one page alone
abbrev page_links : ℕ → Page → List Link
page_links chunk_id page =
    chunk_links false chunk_id (chunk_with page.continues page.runs_on (fragments_from 4 page.dropped page.fragments)) 0
    (fragments_from 4 page.dropped page.fragments) (stop_at (place (suc chunk_id) 0))

row-more : (pages : List Page) (page : Page) → row (pages ++ page ∷ []) ≡ continued (row pages) (page_links (length pages) page)
row-more pages page =
    ap (row_of false 0 0) (written_slots-append pages (page ∷ []) 0)
    ∙ rows_continue (written_slots [] 0 pages) (written_slots [] (0 + length pages) (page ∷ [])) 0 (are_whole pages 0)
    ∙ ap (λ (n : ℕ). continued (row pages) (row_of false n 0 (Here (chunk_with page.continues page.runs_on (fragments_from 4 page.dropped page.fragments)) ∷ [])))
    (omega (arith, length-written_slots pages 0))

-- the chains behind a page with these fragments
abbrev pub chains_after : Bool → List Chain → ℕ → List (List ℕ) → List ℕ → Bool → Bool → List Chain
chains_after continues chains chunk_id [] now runs_on dropped =
    entered continues chains (lone continues (place (suc chunk_id) 0) (piece_at chunk_id 0 4 now runs_on dropped))
chains_after continues chains chunk_id (bytes ∷ others) now runs_on dropped =
    last_behind chunk_id 1 (4 + length bytes + 4) others now runs_on dropped
    (entered continues chains (lone continues (place chunk_id 1) (piece_at chunk_id 0 4 bytes false false)))

-- the row of these pages, with these chains, the newest first
pub record IsRow (pages : List Page) (runs_on : Bool) (chains : List Chain) : Type 0 where
  pub at : Cursor
  pub is : row pages ≡ links_of chains (stop_at at)
  pub ends : Ends runs_on chains

first_true : (b : Bool) → (b && (0 == 0)) ≡ b
first_true true = refl
first_true false = refl

links-after : (done : List (List ℕ)) (chunk_id : ℕ) (continues runs_on dropped : Bool) (all : List Fragment) (now : List ℕ) (chains : List Chain) (at stop : Cursor)
    → (dropped ≡ true → runs_on ≡ false) → Ends continues chains
    → continued (links_of chains (stop_at at)) (chunk_links false chunk_id (chunk_with continues runs_on all) 0 (fragments_from 4 dropped (done ++ now ∷ [])) (stop_at stop))
    ≡ links_of (chains_after continues chains chunk_id done now runs_on dropped) (stop_at stop)
links-after [] chunk_id continues runs_on dropped all now chains at stop h ends =
    let one : Chain = lone continues (place (suc chunk_id) 0) (piece_at chunk_id 0 4 now runs_on dropped) in
    ap (continued (links_of chains (stop_at at))) (links-last chunk_id 0 4 continues runs_on dropped all now stop h)
    ∙ ap (λ (b : Bool). continued (links_of chains (stop_at at)) (Joined (lone b (place (suc chunk_id) 0) (piece_at chunk_id 0 4 now runs_on dropped)) ∷ stop_at stop)) (first_true continues)
    ∙ continued-entered continues chains at one (stop_at stop) ends refl
links-after (bytes ∷ others) chunk_id continues runs_on dropped all now chains at stop h ends =
    let one : Chain = lone continues (place chunk_id 1) (piece_at chunk_id 0 4 bytes false false) in
    let rest : List Link = chunk_links false chunk_id (chunk_with continues runs_on all) 1 (fragments_from (4 + length bytes + 4) dropped (others ++ now ∷ [])) (stop_at stop) in
    ap (continued (links_of chains (stop_at at))) (links-more (others ++ now ∷ []) chunk_id 0 4 continues runs_on dropped all bytes (stop_at stop) (non_empty-last others now))
    ∙ ap (λ (b : Bool). continued (links_of chains (stop_at at)) (Joined (lone b (place chunk_id 1) (piece_at chunk_id 0 4 bytes false false)) ∷ rest)) (first_true continues)
    ∙ continued-entered continues chains at one rest ends refl
    ∙ links-behind others chunk_id 0 (4 + length bytes + 4) continues runs_on dropped all now (entered continues chains one) stop h

-- How they end

starts-append : (at : Cursor) (pieces more : List Piece) → StartsAt at pieces → StartsAt at (pieces ++ more)
starts-append at [] more h = absurd h
starts-append at (piece ∷ pieces) more h = h

open_fate : (runs_on dropped : Bool) → (dropped ≡ true → runs_on ≡ false) → is_open (cond dropped Marked (cond runs_on Open Whole)) ≡ runs_on
open_fate true true h = absurd (true≢false (h refl))
open_fate true false h = refl
open_fate false true h = refl
open_fate false false h = refl

ends-cons : (runs_on : Bool) (chain : Chain) (older : List Chain) → is_open chain.fate ≡ runs_on → chain.headless ≡ false → chain.awaits ≡ false → StartsAt chain.at chain.pieces
    → AllClosed older → Ends runs_on (chain ∷ older)
ends-cons true chain older o h a s older_closed = (record { open_end = o; headless = h; awaits = a; starts = s }, older_closed)
ends-cons false chain older o h a s older_closed = (record { closed = o; starts = s }, older_closed)

ends-entered : (continues runs_on : Bool) (chains : List Chain) (other : Chain) → is_open other.fate ≡ runs_on → other.headless ≡ continues → other.awaits ≡ false
    → StartsAt other.at other.pieces → Ends continues chains → Ends runs_on (entered continues chains other)
ends-entered false runs_on chains other o h a s ends = ends-cons runs_on other chains o h a s ends
ends-entered true runs_on [] other o h a s ends = absurd ends
ends-entered true runs_on (chain ∷ older) other o h a s ends =
    ends-cons runs_on (merged chain other) older o ends.0.headless
    (ap (λ (b : Bool). b || other.awaits) ends.0.awaits ∙ a)
    (starts-append chain.at chain.pieces other.pieces ends.0.starts) ends.1

closed-behind : (done : List (List ℕ)) (chunk_id passed at : ℕ) (chains : List Chain) → AllClosed chains → AllClosed (behind chunk_id passed at done chains)
closed-behind [] chunk_id passed at chains h = h
closed-behind (bytes ∷ others) chunk_id passed at chains h =
    closed-behind others chunk_id (suc passed) (at + length bytes + 4)
    (lone false (place chunk_id (suc passed)) (piece_at chunk_id passed at bytes false false) ∷ chains) (record { closed = refl; starts = refl }, h)

ends-after : (done : List (List ℕ)) (chunk_id : ℕ) (continues runs_on dropped : Bool) (now : List ℕ) (chains : List Chain)
    → (dropped ≡ true → runs_on ≡ false) → Ends continues chains → Ends runs_on (chains_after continues chains chunk_id done now runs_on dropped)
ends-after [] chunk_id continues runs_on dropped now chains h ends =
    ends-entered continues runs_on chains (lone continues (place (suc chunk_id) 0) (piece_at chunk_id 0 4 now runs_on dropped))
    (open_fate runs_on dropped h) refl refl refl ends
ends-after (bytes ∷ others) chunk_id continues runs_on dropped now chains h ends =
    let one : Chain = lone continues (place chunk_id 1) (piece_at chunk_id 0 4 bytes false false) in
    ends-cons runs_on (lone false (place (suc chunk_id) 0) (piece_at chunk_id (1 + length others) (offset_behind (4 + length bytes + 4) others) now runs_on dropped))
    (behind chunk_id 1 (4 + length bytes + 4) others (entered continues chains one))
    (open_fate runs_on dropped h) refl refl refl
    (closed-behind others chunk_id 1 (4 + length bytes + 4) (entered continues chains one) (ends-entered continues false chains one refl refl refl refl ends))

pub row-after : (pages : List Page) (page : Page) (done : List (List ℕ)) (now : List ℕ) (chains : List Chain)
    → page.fragments ≡ done ++ now ∷ [] → (page.dropped ≡ true → page.runs_on ≡ false) → IsRow pages page.continues chains
    → IsRow (pages ++ page ∷ []) page.runs_on (chains_after page.continues chains (length pages) done now page.runs_on page.dropped)
row-after pages page done now chains e h k =
    let all : List Fragment = fragments_from 4 page.dropped page.fragments in
    let stop : Cursor = place (suc (length pages)) 0 in
    record {
      at = stop;
      is = row-more pages page
          ∙ ap (λ (links : List Link). continued links (page_links (length pages) page)) k.is
          ∙ ap (λ (xs : List (List ℕ)). continued (links_of chains (stop_at k.at))
          (chunk_links false (length pages) (chunk_with page.continues page.runs_on all) 0 (fragments_from 4 page.dropped xs) (stop_at stop))) e
          ∙ links-after done (length pages) page.continues page.runs_on page.dropped all now chains k.at stop h k.ends;
      ends = ends-after done (length pages) page.continues page.runs_on page.dropped now chains h k.ends;
    }

-- All pages

-- a page as its writer makes it: it has a fragment, and runs on nowhere behind a drop mark
abbrev pub IsMade : Page → Type 0
IsMade page = (1 ≤ length page.fragments) × (page.dropped ≡ true → page.runs_on ≡ false)

abbrev pub AllMade : List Page → Type 0
AllMade [] = ⊤
AllMade (page ∷ pages) = IsMade page × AllMade pages

pub full_made : (size : ℕ) (page : Page) → IsWellFormedPage size page → IsMade page
full_made size page full = (full.some, λ e. (full.dropped e).0)

pub all_made : (size : ℕ) (pages : List Page) → All (IsWellFormedPage size) pages → AllMade pages
all_made size [] full = tt
all_made size (page ∷ pages) full =
    (full_made size page (All-head (IsWellFormedPage size) page pages full), all_made size pages (All-tail (IsWellFormedPage size) page pages full))

-- fragments, of which there is one at least, with the last one apart
pub record Split (fragments : List (List ℕ)) : Type 0 where
  pub done : List (List ℕ)
  pub now : List ℕ
  pub is : fragments ≡ done ++ now ∷ []

pub split-cons : (bytes : List ℕ) (others : List (List ℕ)) → Split (bytes ∷ others)
split-cons bytes [] = record { done = []; now = bytes; is = refl }
split-cons bytes (next ∷ others) =
    let split : Split (next ∷ others) = split-cons next others in
    record { done = bytes ∷ split.done; now = split.now; is = ap (λ (xs : List (List ℕ)). bytes ∷ xs) split.is }

pub split : (fragments : List (List ℕ)) → 1 ≤ length fragments → Split fragments
split [] h = absurd (omega (arith, h))
split (bytes ∷ others) h = split-cons bytes others

pub record HasRow (pages : List Page) (runs_on : Bool) : Type 0 where
  pub chains : List Chain
  pub row : IsRow pages runs_on chains

pub rows-more : (pages before : List Page) (runs_on : Bool) → HasRow before runs_on → FlagsAgree runs_on pages → AllMade pages
    → HasRow (before ++ pages) (last_runs_on runs_on pages)
rows-more [] before runs_on k flags made = subst (λ (ps : List Page). HasRow ps runs_on) (sym (append-nil before)) k
rows-more (page ∷ pages) before runs_on k flags made =
    let parts : Split page.fragments = split page.fragments made.0.0 in
    let here : IsRow before page.continues k.chains = subst (λ (b : Bool). IsRow before b k.chains) (sym flags.0) k.row in
    subst (λ (ps : List Page). HasRow ps (last_runs_on page.runs_on pages)) (append_assoc before (page ∷ []) pages)
    (rows-more pages (before ++ page ∷ []) page.runs_on (record {
      chains = chains_after page.continues k.chains (length before) parts.done parts.now page.runs_on page.dropped;
      row = row-after before page parts.done parts.now k.chains parts.is made.0.1 here;
    }) flags.1 made.1)

pub row_of_pages : (pages : List Page) → FlagsAgree false pages → AllMade pages → HasRow pages (last_runs_on false pages)
row_of_pages pages flags made =
    rows-more pages [] false (record { chains = []; row = record { at = place 0 0; is = refl; ends = tt } }) flags made
