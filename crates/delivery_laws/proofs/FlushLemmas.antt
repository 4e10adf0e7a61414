-- Behind a flush whose chunks came and were read, the outcome of each packet before it is fixed, and stays.
use Rattle.std.proofs.Common.{◌≡◌, ◌∙◌, ℕ, zero, suc, ◌+◌, ◌<◌, ◌≤◌, ◌⊎◌, Bool, true, false, not, ◌&&◌, ◌||◌, List, [], ◌∷◌, ◌++◌, length, map, drop, Option, Some, None, refl, sym, ap, subst, arith, inl, inr, append_assoc, append-nil, length-append}
use Rattle.std.specs.Prelude.{cond, ◌==◌, slice_get, is_some}
use Rattle.std.proofs.lemmas.Bool.{false≢true, eq-eqb, cases_lt}
use Rattle.std.proofs.lemmas.List.{length-map}
use Rattle.std.proofs.lemmas.Option.{slice_get_within, same_Some, none-some}
use Rattle.trace_base.specs.declared.policy.FullPolicy.{FullPolicy}
use Rattle.trace_base.proofs.Lists.{get_more}
use Rattle.trace_model.specs.Calls.{Call, Flushed}
use Rattle.trace_model.specs.Images.{Chunk, Fragment, Patch}
use Rattle.trace_model.specs.Packets.{Packet, packets_of, kept_of, emissions_of, AreCalls}
use Rattle.trace_model.specs.Pages.{Page, chunk_of, patches_of}
use Rattle.trace_model.specs.Sent.{LastsAre, open_chunks}
use Rattle.trace_model.specs.Cut.{IsChainOf, last_runs_on, newest_goes_on}
use Rattle.trace_model.specs.Sequences.{Sequence, Cursor, sequence_in, is_known}
use Rattle.trace_model.specs.Buffers.{Buffer, empty_buffer}
use Rattle.trace_model.specs.Row.{Chain, CutOff, Link, Joined, Gap, Stop, Unpatched, joined_to, with_piece, chain_of, place, place_behind, is_last, is_part, chunk_links, row_of}
use Rattle.trace_model.specs.RowLaws.{Before}
use Rattle.trace_model.specs.Written.{settled_fragments, settled_chunk, written_slots, written_row, chains_in, chains_of}
use Rattle.trace_model.specs.Reads.{Dropped, delivered_by}
use Rattle.trace_model.specs.History.{Event, event_sequence, Read, buffer_after, state_after, delivered_at, delivered_to}
use Rattle.trace_model.specs.Causes.{Outcome, Absent, Fixed, is_same_place, fixed_by, fixed_after, outcome_at}
use Rattle.trace_model.proofs.CursorLemmas.{Each}
use Rattle.trace_model.proofs.PageLemmas.{fragments_long, settled_long}
use Rattle.delivery_laws.specs.Sheets.{Sheet, SheetsAgree, sheet_patches}
use Rattle.delivery_laws.specs.WriterSheets.{sheet_of, sheets_from, sheets_of}
use Rattle.delivery_laws.specs.DeliveryLaws.{IsAccountOf}
use Rattle.delivery_laws.specs.FlushLaws.{fates_of, IsFlushed, AreSettled, EveryFlushIsSettled}
use Rattle.delivery_laws.proofs.Walks.{Inside}
use Rattle.delivery_laws.proofs.RowWalks.{inside_first}
use Rattle.delivery_laws.proofs.HistoryLemmas.{fresh_known}
use Rattle.delivery_laws.proofs.WrittenPackets.{AreFull, are_full, sheets_agree, chains_have_heads}
use Rattle.delivery_laws.proofs.EmissionLemmas.{record_bytes}
use Rattle.delivery_laws.proofs.LimitLemmas.{read_further}
use Rattle.delivery_laws.proofs.CompleteLemmas.{lasts_from, IsSheetOf, sheet_at, EachCompletes, each_completes}
use Rattle.delivery_laws.proofs.OrderLemmas.{every_writer_is_told}
use Rattle.delivery_laws.proofs.EnoughLemmas.{tells_few, emissions_few, zip_long}
use Rattle.delivery_laws.proofs.WholeLemmas.{awaited_are_sent, each_reversed}
use Rattle.delivery_laws.proofs.StartRows.{IsFixed}
use Rattle.delivery_laws.proofs.SettledLemmas.{IsBegun}
use Rattle.delivery_laws.proofs.SettledHistory.{AreSent, IsState, settles}
use Rattle.delivery_laws.proofs.FlushCalls.{newest_ends, closed_before, none_goes_on_behind}

-- ---- pages

get_there : (pages : List Page) (i : ℕ) → i < length pages → (page : Page) × (slice_get pages i ≡ Some page)
get_there [] i low = absurd (omega (arith, low))
get_there (page ∷ pages) zero low = (page, refl)
get_there (page ∷ pages) (suc i) low = get_there pages i (omega (arith, low))

patches_first : (pages : List Page) (i : ℕ) (page : Page) → slice_get pages i ≡ Some page → patches_of (drop i pages) ≡ page.patches ++ patches_of (drop (suc i) pages)
patches_first [] i page e = absurd (cc)
patches_first (first ∷ pages) zero page e = let same : first ≡ page = cc in ap (λ (p : Page). p.patches ++ patches_of pages) same
patches_first (first ∷ pages) (suc i) page e = patches_first pages i page e

none_behind : (pages : List Page) → patches_of (drop (length pages) pages) ≡ []
none_behind [] = refl
none_behind (page ∷ pages) = none_behind pages

last_page : (runs_on : Bool) (pages : List Page) (i : ℕ) (page : Page) → slice_get pages i ≡ Some page → suc i ≡ length pages → page.runs_on ≡ last_runs_on runs_on pages
last_page runs_on [] i page e l = absurd (cc)
last_page runs_on (first ∷ []) zero page e l = let same : first ≡ page = cc in ap (λ (p : Page). p.runs_on) (sym same)
last_page runs_on (first ∷ next ∷ pages) zero page e l = absurd (omega (arith, l))
last_page runs_on (first ∷ pages) (suc i) page e l = last_page first.runs_on pages i page e (omega (arith, l))

sheet_there : (patches : List Patch) (goes : Bool) (pages : List Page) (first i : ℕ) → i < length pages → (sheet : Sheet) × (slice_get (sheets_from patches first goes pages) i ≡ Some sheet)
sheet_there patches goes [] first i low = absurd (omega (arith, low))
sheet_there patches goes (page ∷ []) first zero low = (sheet_of patches first goes page, refl)
sheet_there patches goes (page ∷ []) first (suc i) low = absurd (omega (arith, low))
sheet_there patches goes (page ∷ next ∷ pages) first zero low = (sheet_of patches first page.runs_on page, refl)
sheet_there patches goes (page ∷ next ∷ pages) first (suc i) low = sheet_there patches goes (next ∷ pages) (suc first) i (omega (arith, low))

last_sheet : (patches : List Patch) (goes : Bool) (pages : List Page) (first i : ℕ) (sheet : Sheet) → slice_get (sheets_from patches first goes pages) i ≡ Some sheet
    → suc i ≡ length pages → sheet.chunk.runs_on ≡ goes
last_sheet patches goes [] first i sheet e l = absurd (cc)
last_sheet patches goes (page ∷ []) first zero sheet e l = here goes e
  where
    here : (runs_on : Bool) → Some (sheet_of patches first runs_on page) ≡ Some sheet → sheet.chunk.runs_on ≡ runs_on
    here runs_on e = ap (λ (s : Sheet). s.chunk.runs_on) (sym (same_Some (sheet_of patches first runs_on page) sheet e))
last_sheet patches goes (page ∷ []) first (suc i) sheet e l = absurd (omega (arith, l))
last_sheet patches goes (page ∷ next ∷ pages) first zero sheet e l = absurd (omega (arith, l))
last_sheet patches goes (page ∷ next ∷ pages) first (suc i) sheet e l = last_sheet patches goes (next ∷ pages) (suc first) i sheet e (omega (arith, l))

-- ---- where chains begin

module _ (P : Cursor → Type 0) where
  abbrev Starts : Chain → Type 0
  Starts chain = chain.headless ≡ false → P chain.at

  starts_joined : (chain : Chain) (links : List Link) → Starts chain → Each Starts (chains_in links) → Each Starts (chains_in (joined_to chain links))
  starts_joined chain [] p h = (p, tt)
  starts_joined chain (Gap at next lost ∷ links) p h = (p, h)
  starts_joined chain (Stop at why may ∷ links) p h = (p, h)
  starts_joined chain (Joined other ∷ links) p h = by_head other.headless
    where
      by_head : (b : Bool) → Each Starts (chains_in (cond b
          (Joined (record chain { next = other.next; pieces = chain.pieces ++ other.pieces; awaits = chain.awaits || other.awaits; fate = other.fate }) ∷ links)
          (Joined (record chain { fate = CutOff }) ∷ Joined other ∷ links)))
      by_head true = (p, h.1)
      by_head false = (p, h)

  starts_fragments : (chunk : Chunk) (chunk_id : ℕ) (rest : List Link) → Each Starts (chains_in rest) → (fragments : List Fragment) (passed : ℕ)
      → ((k : ℕ) → k < passed + length fragments → (chunk.continues && (k == 0)) ≡ false → P (place chunk_id k))
      → Each Starts (chains_in (chunk_links false chunk_id chunk passed fragments rest))
  starts_fragments chunk chunk_id rest h [] passed p = h
  starts_fragments chunk chunk_id rest h (fragment ∷ others) passed p =
      by_stop ((chunk.awaits && is_last others) && not false) (starts_fragments chunk chunk_id rest h others (suc passed) (λ k low. p k (omega (arith, low))))
    where
      by_runs : (b : Bool) (chain : Chain) (links : List Link) → Starts chain → Each Starts (chains_in links) → Each Starts (chains_in (cond b (joined_to chain links) (Joined chain ∷ links)))
      by_runs true chain links s n = starts_joined chain links s n
      by_runs false chain links s n = (s, n)

      by_stop : (b : Bool) → Each Starts (chains_in (chunk_links false chunk_id chunk (suc passed) others rest))
          → Each Starts (chains_in (cond b (Stop (place chunk_id passed) Unpatched (chunk.continues && (passed == 0)) ∷ [])
          (with_piece (record { at = place chunk_id passed; fragment = fragment; runs_on = chunk.runs_on && is_last others }) (place_behind (is_part false chunk) chunk_id passed (is_last others))
          (chunk.continues && (passed == 0)) (chunk.awaits && is_last others) (chunk_links false chunk_id chunk (suc passed) others rest))))
      by_stop true n = tt
      by_stop false n = by_runs ((chunk.runs_on && is_last others) && not fragment.dropped)
          (chain_of (record { at = place chunk_id passed; fragment = fragment; runs_on = chunk.runs_on && is_last others }) (place_behind (is_part false chunk) chunk_id passed (is_last others)) (chunk.continues && (passed == 0)) (chunk.awaits && is_last others))
          (chunk_links false chunk_id chunk (suc passed) others rest) (λ begins. p passed (omega arith) begins) n

  starts_pages : (patches : List Patch) (pages : List Page) (first : ℕ)
      → ((d k : ℕ) (page : Page) → slice_get pages d ≡ Some page → k < length page.fragments → (page.continues && (k == 0)) ≡ false → P (place (first + d) k))
      → Each Starts (chains_in (row_of false first 0 (written_slots patches first pages)))
  starts_pages patches [] first p = tt
  starts_pages patches (page ∷ pages) first p =
      starts_fragments (settled_chunk patches first (chunk_of page)) first (row_of false (suc first) 0 (written_slots patches (suc first) pages))
      (starts_pages patches pages (suc first) (λ d k one get low begins. let at : first + suc d ≡ suc first + d = omega arith in subst (λ (i : ℕ). P (place i k)) at (p (suc d) k one get low begins)))
      (settled_fragments patches first (chunk_of page).fragments) 0
      (λ k low begins.
      let long = settled_long patches first (chunk_of page).fragments in
      let texts = fragments_long 4 page.dropped page.fragments in
      let at : first + 0 ≡ first = omega arith in
      subst (λ (i : ℕ). P (place i k)) at (p 0 k page refl (omega (arith, low, long, texts)) begins))

headed : (P : Cursor → Type 0) (chains : List Chain) → Each (Starts P) chains → Each (λ (chain : Chain). chain.headless ≡ false) chains → Each (λ (chain : Chain). P chain.at) chains
headed P [] s h = tt
headed P (chain ∷ chains) s h = (s.0 h.0, headed P chains s.1 h.1)

-- ---- outcomes

abbrev FixedChain : List Fixed → Chain → Type 0
FixedChain fixed chain = IsFixed chain.at fixed

settled_by : (fixed : List Fixed) (packets : List Packet) (chains : List Chain) → Each (FixedChain fixed) chains → AreSettled fixed packets chains
settled_by fixed [] chains h = record { outcomes = []; fates = refl }
settled_by fixed (packet ∷ packets) [] h =
    let rest = settled_by fixed packets [] h in
    record { outcomes = Absent Dropped ∷ rest.outcomes; fates = ap (λ (os : List (Option Outcome)). Some (Absent Dropped) ∷ os) rest.fates }
settled_by fixed (packet ∷ packets) (chain ∷ chains) h =
    by_kept packet.kept refl (settled_by fixed packets chains h.1) (settled_by fixed packets (chain ∷ chains) h) (outcome_at chain.at fixed) refl h.0
  where
    by_kept : (kept : Bool) → packet.kept ≡ kept → AreSettled fixed packets chains → AreSettled fixed packets (chain ∷ chains)
        → (o : Option Outcome) → outcome_at chain.at fixed ≡ o → is_some o ≡ true → AreSettled fixed (packet ∷ packets) (chain ∷ chains)
    by_kept true k rest same (Some outcome) e some = record {
      outcomes = outcome ∷ rest.outcomes;
      fates = ap (λ (b : Bool). cond b (outcome_at chain.at fixed ∷ fates_of fixed packets chains) (Some (Absent Dropped) ∷ fates_of fixed packets (chain ∷ chains))) k
          ∙ ap (λ (o : Option Outcome). o ∷ fates_of fixed packets chains) e ∙ ap (λ (os : List (Option Outcome)). Some outcome ∷ os) rest.fates;
    }
    by_kept true k rest same None e some = absurd (false≢true some)
    by_kept false k rest same o e some = record {
      outcomes = Absent Dropped ∷ same.outcomes;
      fates = ap (λ (b : Bool). cond b (outcome_at chain.at fixed ∷ fates_of fixed packets chains) (Some (Absent Dropped) ∷ fates_of fixed packets (chain ∷ chains))) k
          ∙ ap (λ (os : List (Option Outcome)). Some (Absent Dropped) ∷ os) same.fates;
    }

-- what is fixed later changes no outcome
kept_outcome : (at : Cursor) (fixed more : List Fixed) (outcome : Outcome) → outcome_at at fixed ≡ Some outcome → outcome_at at (fixed ++ more) ≡ Some outcome
kept_outcome at [] more outcome e = absurd (none-some outcome e)
kept_outcome at (one ∷ fixed) more outcome e = step (is_same_place one.at at) e (kept_outcome at fixed more outcome)
  where
    step : (b : Bool) → cond b (Some one.outcome) (outcome_at at fixed) ≡ Some outcome → (outcome_at at fixed ≡ Some outcome → outcome_at at (fixed ++ more) ≡ Some outcome)
        → cond b (Some one.outcome) (outcome_at at (fixed ++ more)) ≡ Some outcome
    step true h k = h
    step false h k = k h

pub kept_fates : (fixed more : List Fixed) (packets : List Packet) (chains : List Chain) (outcomes : List Outcome) → fates_of fixed packets chains ≡ map Some outcomes
    → fates_of (fixed ++ more) packets chains ≡ map Some outcomes
kept_fates fixed more [] chains outcomes e = e
kept_fates fixed more (packet ∷ packets) chains [] e = absurd (some chains e)
  where
    some : (chains : List Chain) → fates_of fixed (packet ∷ packets) chains ≡ [] → ⊥
    some [] e = cc
    some (chain ∷ chains) e = by_kept packet.kept e
      where
        by_kept : (b : Bool) → cond b (outcome_at chain.at fixed ∷ fates_of fixed packets chains) (Some (Absent Dropped) ∷ fates_of fixed packets (chain ∷ chains)) ≡ [] → ⊥
        by_kept true e = cc
        by_kept false e = cc
kept_fates fixed more (packet ∷ packets) [] (outcome ∷ outcomes) e =
    let first : Some (Absent Dropped) ≡ Some outcome = cc in
    let rest : fates_of fixed packets [] ≡ map Some outcomes = cc in
    ap (λ (o : Option Outcome). o ∷ fates_of (fixed ++ more) packets []) first ∙ ap (λ (os : List (Option Outcome)). Some outcome ∷ os) (kept_fates fixed more packets [] outcomes rest)
kept_fates fixed more (packet ∷ packets) (chain ∷ chains) (outcome ∷ outcomes) e =
    by_kept packet.kept e (λ f. kept_fates fixed more packets chains outcomes f) (λ f. kept_fates fixed more packets (chain ∷ chains) outcomes f)
  where
    by_kept : (b : Bool)
        → cond b (outcome_at chain.at fixed ∷ fates_of fixed packets chains) (Some (Absent Dropped) ∷ fates_of fixed packets (chain ∷ chains)) ≡ Some outcome ∷ map Some outcomes
        → (fates_of fixed packets chains ≡ map Some outcomes → fates_of (fixed ++ more) packets chains ≡ map Some outcomes)
        → (fates_of fixed packets (chain ∷ chains) ≡ map Some outcomes → fates_of (fixed ++ more) packets (chain ∷ chains) ≡ map Some outcomes)
        → cond b (outcome_at chain.at (fixed ++ more) ∷ fates_of (fixed ++ more) packets chains) (Some (Absent Dropped) ∷ fates_of (fixed ++ more) packets (chain ∷ chains))
        ≡ Some outcome ∷ map Some outcomes
    by_kept true e k n =
        let first : outcome_at chain.at fixed ≡ Some outcome = cc in
        let rest : fates_of fixed packets chains ≡ map Some outcomes = cc in
        ap (λ (o : Option Outcome). o ∷ fates_of (fixed ++ more) packets chains) (kept_outcome chain.at fixed more outcome first) ∙ ap (λ (os : List (Option Outcome)). Some outcome ∷ os) (k rest)
    by_kept false e k n =
        let first : Some (Absent Dropped) ≡ Some outcome = cc in
        let rest : fates_of fixed packets (chain ∷ chains) ≡ map Some outcomes = cc in
        ap (λ (o : Option Outcome). o ∷ fates_of (fixed ++ more) packets (chain ∷ chains)) first ∙ ap (λ (os : List (Option Outcome)). Some outcome ∷ os) (n rest)

pub settled_still : (fixed more : List Fixed) (packets : List Packet) (chains : List Chain) → AreSettled fixed packets chains → AreSettled (fixed ++ more) packets chains
settled_still fixed more packets chains settled = record { outcomes = settled.outcomes; fates = kept_fates fixed more packets chains settled.outcomes settled.fates }

-- what a history fixes, in two parts
pub fixed_parts : (q : ℕ) (b : Buffer) (xs ys : List Event) → fixed_after q b (xs ++ ys) ≡ fixed_after q b xs ++ fixed_after q (state_after b xs) ys
fixed_parts q b [] ys = refl
fixed_parts q b (event ∷ xs) ys =
    ap (λ (fs : List Fixed). cond (is_known b.sequences (event_sequence event)) (fixed_by b (sequence_in b.sequences q) event) [] ++ fs) (fixed_parts q (buffer_after b event) xs ys)
    ∙ sym (append_assoc (cond (is_known b.sequences (event_sequence event)) (fixed_by b (sequence_in b.sequences q) event) []) (fixed_after q (buffer_after b event) xs)
    (fixed_after q (state_after (buffer_after b event) xs) ys))

-- ---- how many a read delivers

-- what the last read delivers is part of all that was
last_few : (q n : ℕ) (early : List Event) (b : Buffer) → length (delivered_by (state_after b early) q n) ≤ length (delivered_to q b (early ++ Read q n ∷ []))
last_few q n [] b =
    let own = eq-eqb q q refl in
    let long = length-append (cond (q == q) (delivered_by b q n) []) [] in
    let here : length (cond (q == q) (delivered_by b q n) []) ≡ length (delivered_by b q n) = ap (λ (x : Bool). length (cond x (delivered_by b q n) [])) own in
    omega (arith, long, here)
last_few q n (event ∷ early) b =
    let rest = last_few q n early (buffer_after b event) in
    let long = length-append (delivered_at q b event) (delivered_to q (buffer_after b event) (early ++ Read q n ∷ [])) in
    omega (arith, rest, long)

-- ---- the account

none_more : (pages : List Page) → length pages ≡ 0 → pages ≡ []
none_more [] e = refl
none_more (page ∷ pages) e = absurd (omega (arith, e))

module _ (size : ℕ) (calls : List Call) (pages : List Page) (sequences : List Sequence) (q record_size : ℕ) (events : List Event)
    (account : IsAccountOf size calls pages sequences q record_size events) (before : List Call) (flushed : List Page) (is : IsFlushed size calls pages before flushed) where
  abbrev goes : Bool
  goes = newest_goes_on (packets_of calls)

  abbrev sheets : List Sheet
  sheets = sheets_of (newest_goes_on (packets_of calls)) pages

  abbrev front : ℕ → List Patch
  front i = patches_of (drop i flushed)

  pub possible : AreCalls (before ++ Flushed ∷ is.behind)
  possible = subst AreCalls is.calls_are account.possible

  longer : length pages ≡ length flushed + length is.more
  longer = ap (λ (ps : List Page). length ps) is.pages_are ∙ length-append flushed is.more

  -- a page that was there at the flush
  page_then : (i : ℕ) (page : Page) → i < length flushed → slice_get pages i ≡ Some page → slice_get flushed i ≡ Some page
  page_then i page low get =
      let there = get_there flushed i low in
      there.1 ∙ ap (λ (p : Page). Some p) (same_Some there.0 page
      (sym (get_more flushed is.more i there.0 there.1) ∙ sym (ap (λ (ps : List Page). slice_get ps i) is.pages_are) ∙ get))

  sheet_of_page : (i : ℕ) (sheet : Sheet) → slice_get sheets i ≡ Some sheet → IsSheetOf (patches_of pages) pages 0 i sheet
  sheet_of_page i sheet get = sheet_at (patches_of pages) goes pages 0 i sheet get

  ends_then : last_runs_on false flushed ≡ false
  ends_then = by_last (last_runs_on false flushed) refl
    where
      by_last : (b : Bool) → last_runs_on false flushed ≡ b → b ≡ false
      by_last true e = absurd (false≢true (sym (newest_ends before is.behind possible) ∙ is.cut.last e))
      by_last false e = refl

  -- where no page came behind the flush, no packet was kept behind it
  goes_nowhere : length is.more ≡ 0 → goes ≡ false
  goes_nowhere none =
      let same : pages ≡ flushed = is.pages_are ∙ ap (λ (ps : List Page). flushed ++ ps) (none_more is.more none) ∙ append-nil flushed in
      let all = zip_long (IsChainOf size) (kept_of (packets_of calls)) (chains_of pages) account.cut.chains in
      let then = zip_long (IsChainOf size) (kept_of (packets_of before)) (chains_of flushed) is.cut.chains in
      let chains = ap (λ (ps : List Page). length (chains_of ps)) same in
      let kept = ap (λ (cs : List Call). length (kept_of (packets_of cs))) is.calls_are in
      ap (λ (cs : List Call). newest_goes_on (packets_of cs)) is.calls_are ∙ none_goes_on_behind before is.behind possible (omega (arith, all, then, chains, kept))

  are_sent : AreSent sheets (length flushed) front
  are_sent = record {
    next = λ i sheet low get.
        let of = sheet_of_page i sheet get in
        patches_first flushed i of.page (page_then i of.page low of.get) ∙ ap (λ (ps : List Patch). ps ++ front (suc i)) (sym of.brings);
    end = none_behind flushed;
    sent = λ i sheet low get awaits.
        let of = sheet_of_page i sheet get in
        awaited_are_sent size (packets_of before) flushed is.cut (closed_before before is.behind possible (chains_of flushed)) i of.page (page_then i of.page low of.get) (sym of.awaits ∙ awaits);
    lasts = λ i. lasts_from [] flushed i (subst (λ (ns : List ℕ). LastsAre ns (patches_of flushed)) (closed_before before is.behind possible (chains_of flushed)) is.cut.patches.lasts);
    last = λ sheet i get at. by_place sheet i get at (cases_lt (suc i) (length pages));
  }
    where
      by_place : (sheet : Sheet) (i : ℕ) → slice_get sheets i ≡ Some sheet → suc i ≡ length flushed → ((suc i < length pages) ⊎ (length pages ≤ suc i)) → sheet.chunk.runs_on ≡ false
      by_place sheet i get at (inl low) =
          let of = sheet_of_page i sheet get in
          of.runs low ∙ last_page false flushed i of.page (page_then i of.page (omega (arith, at)) of.get) at ∙ ends_then
      by_place sheet i get at (inr high) =
          let long = longer in
          last_sheet (patches_of pages) goes pages 0 i sheet get (omega (arith, long, at, high)) ∙ goes_nowhere (omega (arith, long, at, high))

  full : AreFull size pages
  full = are_full size pages account.cut.full

  agree : SheetsAgree false sheets
  agree = sheets_agree size goes pages full account.cut.flags

  completes : EachCompletes sheets
  completes = each_completes size goes pages (open_chunks (kept_of (packets_of calls)) (chains_of pages)) full account.cut.patches.behind account.cut.patches.lasts account.cut.patches.placed

  -- a packet that had been begun at the flush, in its chunk
  abbrev IsThen : Cursor → Type 0
  IsThen at = (at.chunk_id < length flushed) × IsBegun sheets at.chunk_id at.passed

  begun_then : (d k : ℕ) (page : Page) → slice_get flushed d ≡ Some page → k < length page.fragments → (page.continues && (k == 0)) ≡ false → IsThen (place (0 + d) k)
  begun_then d k page get within begins =
      let low = slice_get_within flushed d page get in
      let long = longer in
      let there = sheet_there (patches_of pages) goes pages 0 d (omega (arith, low, long)) in
      let of = sheet_of_page d there.0 there.1 in
      let same : of.page ≡ page = same_Some of.page page (sym (page_then d of.page low of.get) ∙ get) in
      let settled = settled_long (patches_of pages) (0 + d) (chunk_of of.page).fragments in
      let texts = fragments_long 4 of.page.dropped of.page.fragments in
      let written = ap (λ (fs : List Fragment). length fs) of.written in
      let fragments = ap (λ (p : Page). length p.fragments) same in
      let at : d ≡ 0 + d = omega arith in
      subst (λ (i : ℕ). IsThen (place i k)) at (
        low,
        record {
          sheet = there.0;
          there = there.1;
          inside = omega (arith, within, settled, texts, written, fragments);
          begins = ap (λ (c : Bool). c && (k == 0)) (of.continues ∙ ap (λ (p : Page). p.continues) same) ∙ begins;
        },
      )

  chains_then : Each (λ (chain : Chain). IsThen chain.at) (chains_of flushed)
  chains_then =
      each_reversed (λ (chain : Chain). IsThen chain.at) (chains_in (written_row flushed))
      (headed IsThen (chains_in (written_row flushed)) (starts_pages IsThen (patches_of flushed) flushed 0 begun_then)
      (chains_have_heads size flushed (are_full size flushed is.cut.full) is.cut.flags))

  first_state : (room : ℕ) (policy : FullPolicy) → IsState sheets agree completes q (length flushed) front are_sent 0 false [] [] (empty_buffer room policy sequences)
  first_state room policy = record {
    known = fresh_known sheets q record_size room policy sequences (sheet_patches sheets) account.known account.start;
    inside = λ o. subst (λ (s : Sequence). Inside sheets s.cursor.chunk_id s.cursor.passed) (sym account.start) (inside_first sheets false 0 agree);
    settled = record {
      before = λ i k begun counted at. absurd (nothing_before i k (subst (λ (s : Sequence). Before (place i k) s.cursor) account.start at));
      gone = λ i k begun low none. absurd (omega (arith, low));
    };
    waits = λ low. tt;
    lasts = λ low. are_sent.lasts 0;
    quiet = λ high. tt;
  }
    where
      nothing_before : (i k : ℕ) → Before (place i k) (place 0 0) → ⊥
      nothing_before i k (inl h) = omega (arith, h)
      nothing_before i k (inr h) = let low = h.1 in omega (arith, low)

pub every_flush_is_settled : EveryFlushIsSettled
every_flush_is_settled size calls pages room policy sequences q record_size early later limit before flushed account is come few =
    settled_by (fixed_after q (empty_buffer room policy sequences) (early ++ Read q limit ∷ [])) (packets_of before) (chains_of flushed)
    (all_fixed (chains_of flushed) (chains_then size calls pages sequences q record_size (early ++ Read q limit ∷ later) account before flushed is))
  where
    delivers_few : length (delivered_by (state_after (empty_buffer room policy sequences) early) q (suc limit)) ≤ limit
    delivers_few =
        let short : IsAccountOf size calls pages sequences q record_size (early ++ Read q (suc limit) ∷ []) =
        record {
          possible = account.possible;
          cut = account.cut;
          known = account.known;
          start = account.start;
          order = read_further (sheets_of (newest_goes_on (packets_of calls)) pages) q q limit (suc limit) later early 0 false [] account.order;
        } in
        let told = tells_few (emissions_of calls) q true 0 (map (record_bytes q) (delivered_to q (empty_buffer room policy sequences) (early ++ Read q (suc limit) ∷ [])))
        (every_writer_is_told size calls pages room policy sequences q record_size (early ++ Read q (suc limit) ∷ []) short) (omega arith) in
        let mapped = length-map (delivered_to q (empty_buffer room policy sequences) (early ++ Read q (suc limit) ∷ [])) (record_bytes q) in
        let emitted = emissions_few calls in
        let last = last_few q (suc limit) early (empty_buffer room policy sequences) in
        omega (arith, told, mapped, emitted, last, few)

    all_fixed : (chains : List Chain)
        → Each (λ (chain : Chain). (chain.at.chunk_id < length flushed) × IsBegun (sheets_of (newest_goes_on (packets_of calls)) pages) chain.at.chunk_id chain.at.passed) chains
        → Each (FixedChain (fixed_after q (empty_buffer room policy sequences) (early ++ Read q limit ∷ []))) chains
    all_fixed [] h = tt
    all_fixed (chain ∷ chains) h = (
      settles (sheets_of (newest_goes_on (packets_of calls)) pages)
          (agree size calls pages sequences q record_size (early ++ Read q limit ∷ later) account before flushed is)
          (completes size calls pages sequences q record_size (early ++ Read q limit ∷ later) account before flushed is)
          q (length flushed) (λ i. patches_of (drop i flushed))
          (are_sent size calls pages sequences q record_size (early ++ Read q limit ∷ later) account before flushed is)
          limit early 0 false [] [] (empty_buffer room policy sequences) later
          (first_state size calls pages sequences q record_size (early ++ Read q limit ∷ later) account before flushed is room policy)
          account.order (omega (arith, come)) delivers_few chain.at.chunk_id chain.at.passed h.0.0 h.0.1,
      all_fixed chains h.1,
    )
