-- The chains of a writer's pages, as fragments and pages are put behind them: only the newest one grows.
use Rattle.std.proofs.Common.{◌≡◌, ◌∙◌, ℕ, suc, ◌+◌, Bool, true, false, List, [], ◌∷◌, ◌++◌, map, reverse, length, All, refl, sym, ap, subst, arith, true≢false, ◌||◌}
use Rattle.std.specs.Prelude.{⊤}
use Rattle.trace_model.specs.Sequences.{Cursor}
use Rattle.trace_model.specs.Row.{Slot, Here, Piece, Chain, Fate, place, row_of}
use Rattle.trace_model.specs.RowLaws.{is_open}
use Rattle.trace_model.specs.Pages.{Page, fragments_from}
use Rattle.trace_model.specs.Written.{written_slots, chains_in}
use Rattle.trace_model.specs.Cut.{IsWellFormedPage, FlagsAgree, last_runs_on, older_chains}
use Rattle.trace_model.proofs.JoinLemmas.{merged}
use Rattle.cut_steps.specs.RawChains.{placeless, raw_chains, page_with, newest_pieces, earlier_pieces, chains_before, offset_behind, piece_behind, fate_of, start_of, chain_to}
use Rattle.cut_steps.proofs.RowSteps.{chains_in-links_of, StartsAt, entered, stop_at, piece_at, lone, chunk_with, behind, chains_after, IsRow, RunsOnHere, row-after, all_made, Split, split-cons, HasRow, row_of_pages}

raw-row : (pages : List Page) (runs_on : Bool) (chains : List Chain) → IsRow pages runs_on chains → raw_chains pages ≡ map placeless chains
raw-row pages runs_on chains k =
    ap (map placeless) (ap (λ links. reverse (chains_in links)) k.is ∙ chains_in-links_of chains (stop_at k.at))

-- the chains of all fragments of a page, where a further one comes
abbrev all_behind : Bool → List Chain → ℕ → List (List ℕ) → List Chain
all_behind continues chains chunk_id [] = chains
all_behind continues chains chunk_id (bytes ∷ others) =
    behind chunk_id 1 (4 + length bytes + 4) others (entered continues chains (lone continues (place chunk_id 1) (piece_at chunk_id 0 4 bytes false false)))

behind-last : (done : List (List ℕ)) (now : List ℕ) (chunk_id passed at : ℕ) (chains : List Chain)
    → behind chunk_id passed at (done ++ now ∷ []) chains
    ≡ lone false (place chunk_id (suc (passed + length done))) (piece_at chunk_id (passed + length done) (offset_behind at done) now false false)
    ∷ behind chunk_id passed at done chains
behind-last [] now chunk_id passed at chains =
    ap (λ (k : ℕ). lone false (place chunk_id (suc k)) (piece_at chunk_id k at now false false) ∷ chains) (omega arith)
behind-last (bytes ∷ others) now chunk_id passed at chains =
    let one : Chain = lone false (place chunk_id (suc passed)) (piece_at chunk_id passed at bytes false false) in
    behind-last others now chunk_id (suc passed) (at + length bytes + 4) (one ∷ chains)
    ∙ ap (λ (k : ℕ). lone false (place chunk_id (suc k)) (piece_at chunk_id k (offset_behind (at + length bytes + 4) others) now false false)
    ∷ behind chunk_id (suc passed) (at + length bytes + 4) others (one ∷ chains)) (omega arith)

-- only the place behind the last one changes
last-same : (done : List (List ℕ)) (now : List ℕ) (continues : Bool) (chains : List Chain) (chunk_id : ℕ)
    → map placeless (chains_after continues chains chunk_id done now false false) ≡ map placeless (all_behind continues chains chunk_id (done ++ now ∷ []))
last-same [] now false chains chunk_id = refl
last-same [] now true [] chunk_id = refl
last-same [] now true (chain ∷ older) chunk_id = refl
last-same (bytes ∷ others) now continues chains chunk_id =
    let before : List Chain = entered continues chains (lone continues (place chunk_id 1) (piece_at chunk_id 0 4 bytes false false)) in
    sym (ap (map placeless) (behind-last others now chunk_id 1 (4 + length bytes + 4) before))

-- the chains of a page so far
raw-before : (pages : List Page) (continues : Bool) (bytes : List ℕ) (others : List (List ℕ)) (chains : List Chain) → IsRow pages continues chains
    → raw_chains (pages ++ page_with continues (bytes ∷ others) ∷ []) ≡ map placeless (all_behind continues chains (length pages) (bytes ∷ others))
raw-before pages continues bytes others chains k =
    let parts : Split (bytes ∷ others) = split-cons bytes others in
    raw-row (pages ++ page_with continues (bytes ∷ others) ∷ []) false (chains_after continues chains (length pages) parts.done parts.now false false)
    (row-after pages (page_with continues (bytes ∷ others)) parts.done parts.now chains parts.is (λ e. refl) k)
    ∙ last-same parts.done parts.now continues chains (length pages)
    ∙ ap (λ (xs : List (List ℕ)). map placeless (all_behind continues chains (length pages) xs)) (sym parts.is)

pub chains_before-more : (pages : List Page) (continues : Bool) (bytes : List ℕ) (others : List (List ℕ))
    → chains_before pages continues (bytes ∷ others) ≡ raw_chains (pages ++ page_with continues (bytes ∷ others) ∷ [])
chains_before-more pages true bytes others = refl
chains_before-more pages false bytes others = refl

pub earlier_pieces-more : (pages : List Page) (continues : Bool) (bytes : List ℕ) (others : List (List ℕ)) → earlier_pieces pages continues (bytes ∷ others) ≡ []
earlier_pieces-more pages true bytes others = refl
earlier_pieces-more pages false bytes others = refl

-- the chain to this piece, behind these pieces
abbrev chain_behind : List Piece → Piece → Chain
chain_behind pieces piece = record {
  at = start_of pieces piece;
  next = start_of pieces piece;
  headless = false;
  pieces = pieces ++ piece ∷ [];
  awaits = false;
  fate = fate_of piece;
}

pub start-is : (at : Cursor) (pieces : List Piece) (piece : Piece) → StartsAt at pieces → start_of pieces piece ≡ at
start-is at [] piece h = absurd h
start-is at (first ∷ others) piece h = h

-- the newest chain runs on into a page
joined-chain : (chain other : Chain) (piece : Piece) → RunsOnHere chain → other.pieces ≡ piece ∷ [] → other.awaits ≡ false → other.fate ≡ fate_of piece
    → placeless (merged chain other) ≡ chain_behind chain.pieces piece
joined-chain chain other piece h p a f =
    let made : Cursor → Bool → List Piece → Bool → Fate → Chain =
    λ at headless pieces awaits fate. record { at = at; next = at; headless = headless; pieces = pieces; awaits = awaits; fate = fate } in
    ap (λ (c : Cursor). made c chain.headless (chain.pieces ++ other.pieces) (chain.awaits || other.awaits) other.fate) (sym (start-is chain.at chain.pieces piece h.starts))
    ∙ ap (λ (b : Bool). made (start_of chain.pieces piece) b (chain.pieces ++ other.pieces) (chain.awaits || other.awaits) other.fate) h.headless
    ∙ ap (λ (ps : List Piece). made (start_of chain.pieces piece) false (chain.pieces ++ ps) (chain.awaits || other.awaits) other.fate) p
    ∙ ap (λ (b : Bool). made (start_of chain.pieces piece) false (chain.pieces ++ piece ∷ []) (b || other.awaits) other.fate) h.awaits
    ∙ ap (λ (b : Bool). made (start_of chain.pieces piece) false (chain.pieces ++ piece ∷ []) b other.fate) a
    ∙ ap (λ (g : Fate). made (start_of chain.pieces piece) false (chain.pieces ++ piece ∷ []) false g) f

-- the chains behind a page's last fragment, from those of its pages
end-chains : (pages : List Page) (continues : Bool) (done : List (List ℕ)) (now : List ℕ) (runs_on dropped : Bool) (chains : List Chain) → IsRow pages continues chains
    → map placeless (chains_after continues chains (length pages) done now runs_on dropped)
    ≡ chain_to pages continues done (piece_behind pages done now runs_on dropped) ∷ chains_before pages continues done
end-chains pages false [] now runs_on dropped chains k =
    ap (λ (cs : List Chain). chain_behind [] (piece_at (length pages) 0 4 now runs_on dropped) ∷ cs) (sym (raw-row pages false chains k))
end-chains pages true [] now runs_on dropped [] k = absurd k.ends
end-chains pages true [] now runs_on dropped (chain ∷ older) k =
    let piece : Piece = piece_at (length pages) 0 4 now runs_on dropped in
    ap (λ (c : Chain). c ∷ map placeless older) (joined-chain chain (lone true (place (suc (length pages)) 0) piece) piece k.ends.0 refl refl refl)
    ∙ ap (λ (cs : List Chain). chain_behind (newest_pieces cs) piece ∷ older_chains cs) (sym (raw-row pages true (chain ∷ older) k))
end-chains pages continues (bytes ∷ others) now runs_on dropped chains k =
    let made : ℕ → Piece = λ passed. piece_at (length pages) passed (offset_behind (4 + length bytes + 4) others) now runs_on dropped in
    let older : List Chain = map placeless (all_behind continues chains (length pages) (bytes ∷ others)) in
    ap (λ (n : ℕ). chain_behind [] (made n) ∷ older) (omega arith)
    ∙ ap (λ (ps : List Piece). chain_behind ps (made (suc (length others))) ∷ older) (sym (earlier_pieces-more pages continues bytes others))
    ∙ ap (λ (cs : List Chain). chain_to pages continues (bytes ∷ others) (made (suc (length others))) ∷ cs)
    (sym (chains_before-more pages continues bytes others ∙ raw-before pages continues bytes others chains k))

-- The chains of these pages end in one that has the last fragment; those before it, and the pieces before that fragment, do
-- not depend on what stands in it.
pub chains_end : (size : ℕ) (pages : List Page) (page : Page) (done : List (List ℕ)) (now : List ℕ)
    → All (IsWellFormedPage size) pages → FlagsAgree false pages
    → page.fragments ≡ done ++ now ∷ [] → page.continues ≡ last_runs_on false pages → (page.dropped ≡ true → page.runs_on ≡ false)
    → raw_chains (pages ++ page ∷ [])
    ≡ chain_to pages page.continues done (piece_behind pages done now page.runs_on page.dropped) ∷ chains_before pages page.continues done
chains_end size pages page done now full flags e c h =
    let k : HasRow pages (last_runs_on false pages) = row_of_pages pages flags (all_made size pages full) in
    let here : IsRow pages page.continues k.chains = subst (λ (b : Bool). IsRow pages b k.chains) (sym c) k.row in
    raw-row (pages ++ page ∷ []) page.runs_on (chains_after page.continues k.chains (length pages) done now page.runs_on page.dropped)
    (row-after pages page done now k.chains e h here)
    ∙ end-chains pages page.continues done now page.runs_on page.dropped k.chains here

-- A further fragment in the same page

-- A new page behind one that runs on

pub earlier_pieces-run_on : (size : ℕ) (pages : List Page) (page : Page) (done : List (List ℕ)) (now : List ℕ)
    → All (IsWellFormedPage size) pages → FlagsAgree false pages
    → page.fragments ≡ done ++ now ∷ [] → page.continues ≡ last_runs_on false pages → page.runs_on ≡ true → page.dropped ≡ false
    → earlier_pieces (pages ++ page ∷ []) true [] ≡ earlier_pieces pages page.continues done ++ piece_behind pages done now true false ∷ []
earlier_pieces-run_on size pages page done now full flags e c r d =
    ap newest_pieces (chains_end size pages page done now full flags e c (λ h. absurd (true≢false (sym h ∙ d))))
    ∙ ap (λ (b : Bool). earlier_pieces pages page.continues done ++ piece_behind pages done now b page.dropped ∷ []) r
    ∙ ap (λ (b : Bool). earlier_pieces pages page.continues done ++ piece_behind pages done now true b ∷ []) d

pub chains_before-run_on : (size : ℕ) (pages : List Page) (page : Page) (done : List (List ℕ)) (now : List ℕ)
    → All (IsWellFormedPage size) pages → FlagsAgree false pages
    → page.fragments ≡ done ++ now ∷ [] → page.continues ≡ last_runs_on false pages → (page.dropped ≡ true → page.runs_on ≡ false)
    → chains_before (pages ++ page ∷ []) true [] ≡ chains_before pages page.continues done
chains_before-run_on size pages page done now full flags e c h = ap older_chains (chains_end size pages page done now full flags e c h)

-- A new page behind one that does not

-- All chains

-- the pages have the same fragments, joined in the same way
abbrev pub SameFragments : List Page → List Page → Type 0
SameFragments [] [] = ⊤
SameFragments [] (other ∷ others) = ⊥
SameFragments (page ∷ pages) [] = ⊥
SameFragments (page ∷ pages) (other ∷ others) =
    (page.continues ≡ other.continues) × (page.runs_on ≡ other.runs_on) × (page.dropped ≡ other.dropped) × (page.fragments ≡ other.fragments)
    × SameFragments pages others

same_slots : (pages others : List Page) (chunk_id : ℕ) → SameFragments pages others → written_slots [] chunk_id pages ≡ written_slots [] chunk_id others
same_slots [] [] chunk_id h = refl
same_slots [] (other ∷ others) chunk_id h = absurd h
same_slots (page ∷ pages) [] chunk_id h = absurd h
same_slots (page ∷ pages) (other ∷ others) chunk_id h =
    let made : Bool → Bool → Bool → List (List ℕ) → List Slot → List Slot =
    λ continues runs_on dropped fragments slots. Here (chunk_with continues runs_on (fragments_from 4 dropped fragments)) ∷ slots in
    ap (λ (b : Bool). made b page.runs_on page.dropped page.fragments (written_slots [] (suc chunk_id) pages)) h.0
    ∙ ap (λ (b : Bool). made other.continues b page.dropped page.fragments (written_slots [] (suc chunk_id) pages)) h.1
    ∙ ap (λ (b : Bool). made other.continues other.runs_on b page.fragments (written_slots [] (suc chunk_id) pages)) h.2
    ∙ ap (λ (xs : List (List ℕ)). made other.continues other.runs_on other.dropped xs (written_slots [] (suc chunk_id) pages)) h.3
    ∙ ap (made other.continues other.runs_on other.dropped other.fragments) (same_slots pages others (suc chunk_id) h.4)

-- the flag 4, the unused bytes and the patches of a page change no chain
pub raw_chains-same : (pages others : List Page) → SameFragments pages others → raw_chains pages ≡ raw_chains others
raw_chains-same pages others h =
    ap (λ (slots : List Slot). map placeless (reverse (chains_in (row_of false 0 0 slots)))) (same_slots pages others 0 h)

SameFragments-one : (pages : List Page) (a b : Page) → SameFragments (a ∷ []) (b ∷ []) → SameFragments (pages ++ a ∷ []) (pages ++ b ∷ [])
SameFragments-one [] a b h = h
SameFragments-one (page ∷ pages) a b h = (refl, refl, refl, refl, SameFragments-one pages a b h)

-- the newest page may change otherwise
pub raw_chains-one : (pages : List Page) (a b : Page) → a.continues ≡ b.continues → a.runs_on ≡ b.runs_on → a.dropped ≡ b.dropped → a.fragments ≡ b.fragments
    → raw_chains (pages ++ a ∷ []) ≡ raw_chains (pages ++ b ∷ [])
raw_chains-one pages a b c r d e = raw_chains-same (pages ++ a ∷ []) (pages ++ b ∷ []) (SameFragments-one pages a b (c, r, d, e, tt))

-- The newest chain runs on out of the pages.
pub record RunsOnOut (pages : List Page) : Type 0 where
  pub chain : Chain
  pub raw : raw_chains pages ≡ record chain { pieces = earlier_pieces pages true [] } ∷ chains_before pages true []
  pub open_end : is_open chain.fate ≡ true
  pub starts : StartsAt chain.at (earlier_pieces pages true [])

runs_on_row : (pages : List Page) (chains : List Chain) → IsRow pages true chains → RunsOnOut pages
runs_on_row pages [] k = absurd k.ends
runs_on_row pages (chain ∷ older) k =
    let raw : raw_chains pages ≡ placeless chain ∷ map placeless older = raw-row pages true (chain ∷ older) k in
    record {
      chain = placeless chain;
      raw = raw
          ∙ ap (λ (pieces : List Piece). record (placeless chain) { pieces = pieces } ∷ map placeless older) (sym (ap newest_pieces raw))
          ∙ ap (λ (cs : List Chain). record (placeless chain) { pieces = earlier_pieces pages true [] } ∷ cs) (sym (ap older_chains raw));
      open_end = k.ends.0.open_end;
      starts = subst (StartsAt chain.at) (sym (ap newest_pieces raw)) k.ends.0.starts;
    }

pub runs_on_out : (size : ℕ) (pages : List Page) → All (IsWellFormedPage size) pages → FlagsAgree false pages → true ≡ last_runs_on false pages → RunsOnOut pages
runs_on_out size pages full flags e =
    let k : HasRow pages (last_runs_on false pages) = row_of_pages pages flags (all_made size pages full) in
    runs_on_row pages k.chains (subst (λ (b : Bool). IsRow pages b k.chains) (sym e) k.row)
