-- A packet that was finished and never dropped was written whole: what stands in a writer's pages says so.
use Rattle.std.proofs.Common.{◌≡◌, ◌∙◌, ℕ, suc, ◌+◌, ◌<◌, ◌≤◌, ◌⊎◌, Bool, true, false, not, ◌||◌, List, [], ◌∷◌, ◌++◌, length, reverse, Some, refl, sym, ap, subst, arith, inl, inr, append-nil}
use Rattle.std.specs.Prelude.{cond, ◌==◌, is_some, slice_get}
use Rattle.std.specs.List.{AllZip}
use Rattle.std.proofs.lemmas.Bool.{false≢true, and_parts}
use Rattle.std.proofs.lemmas.List.{reverse-append, reverse-reverse}
use Rattle.std.proofs.lemmas.List.Elements.{filter-append}
use Rattle.trace_model.specs.Calls.{Call}
use Rattle.trace_model.specs.Cut.{IsChainOf, IsWellFormedPage, is_marked_fate, newest_goes_on}
use Rattle.trace_model.specs.Images.{Fragment, Patch, patched_last}
use Rattle.trace_model.specs.Packets.{Packet, is_lost, kept_of, packets_of}
use Rattle.trace_model.specs.Pages.{Page, chunk_of, fragments_from, patches_of}
use Rattle.trace_model.specs.Row.{Chain, Fate, Whole, Marked, IntoLost, CutOff, Open, Link, Joined, Gap, Stop}
use Rattle.trace_model.specs.Written.{chains_in, chains_of, settled_fragments, written_row, written_slots}
use Rattle.trace_model.proofs.CursorLemmas.{Each}
use Rattle.delivery_laws.specs.Sheets.{Sheet, Part, SheetsAgree, WrittenPacket, all_parts, ends_whole, packets_in, tail_bytes}
use Rattle.delivery_laws.specs.WriterSheets.{sheet_of}
use Rattle.delivery_laws.proofs.CompleteLemmas.{full_at}
use Rattle.delivery_laws.proofs.RowWalks.{all_at_start, inside_first}
use Rattle.delivery_laws.proofs.Walks.{parts_at}
use Rattle.delivery_laws.proofs.WrittenPackets.{IsToldBy, LastGoesOn, chains_have_heads, packets_are_chains, zip_reversed}
use Rattle.commit_laws.specs.Streams.{IsCompletedCut}
use Rattle.commit_laws.proofs.CutSheets.{cut_agrees, cut_full, cut_last, cut_sheet, cut_sheets}
use Rattle.commit_laws.proofs.FullRows.{FullSlots, Holds, IsFateOf, row_holds}
use Rattle.commit_laws.proofs.LastParts.{goes_runs}
use Rattle.commit_laws.proofs.PageCompletes.{shows_itself}
use Rattle.commit_laws.proofs.StreamCommits.{sheets_long}
use Rattle.commit_laws.proofs.TellsWholes.{IsExactOf}

-- Drop marks

abbrev MarksEnd : Bool → List Fragment → Type 0
MarksEnd runs_on fs = Each (λ (fragment : Fragment). fragment.dropped ≡ true → runs_on ≡ false) fs

marks_patched : (runs_on : Bool) (patch : Patch) (fs : List Fragment) → MarksEnd runs_on fs → MarksEnd runs_on (patched_last patch fs)
marks_patched runs_on patch [] h = h
marks_patched runs_on patch (f ∷ []) h = h
marks_patched runs_on patch (f ∷ g ∷ gs) h = (h.0, marks_patched runs_on patch (g ∷ gs) h.1)

marks_settled : (runs_on : Bool) (patches : List Patch) (chunk_id : ℕ) (fs : List Fragment) → MarksEnd runs_on fs → MarksEnd runs_on (settled_fragments patches chunk_id fs)
marks_settled runs_on [] chunk_id fs h = h
marks_settled runs_on (patch ∷ patches) chunk_id fs h =
    marks_settled runs_on patches chunk_id (cond (patch.chunk_id == chunk_id) (patched_last patch fs) fs) (step (patch.chunk_id == chunk_id))
  where
    step : (b : Bool) → MarksEnd runs_on (cond b (patched_last patch fs) fs)
    step true = marks_patched runs_on patch fs h
    step false = h

marks_page : (runs_on dropped : Bool) → (dropped ≡ true → runs_on ≡ false) → (at : ℕ) (texts : List (List ℕ)) → MarksEnd runs_on (fragments_from at dropped texts)
marks_page runs_on dropped h at [] = tt
marks_page runs_on dropped h at (text ∷ []) = (h, tt)
marks_page runs_on dropped h at (text ∷ next ∷ texts) = ((λ e. absurd (false≢true e)), marks_page runs_on dropped h (at + length text + 4) (next ∷ texts))

-- in what a well formed page holds a drop mark stands only where the page runs on nowhere
pub page_marks : (size : ℕ) (patches : List Patch) (chunk_id : ℕ) (page : Page) → IsWellFormedPage size page → MarksEnd page.runs_on (settled_fragments patches chunk_id (chunk_of page).fragments)
page_marks size patches chunk_id page well =
    marks_settled page.runs_on patches chunk_id (chunk_of page).fragments (marks_page page.runs_on page.dropped (λ d. (well.dropped d).0) 4 page.fragments)

-- The newest packet

-- the last of these packets isn't finished
abbrev LastUnfinished : List Packet → Type 0
LastUnfinished [] = Unit {0}
LastUnfinished (packet ∷ []) = packet.finished ≡ false
LastUnfinished (packet ∷ next ∷ packets) = LastUnfinished (next ∷ packets)

last_unfinished : (packets : List Packet) (packet : Packet) → packet.finished ≡ false → LastUnfinished (packets ++ packet ∷ [])
last_unfinished [] packet e = e
last_unfinished (p ∷ []) packet e = e
last_unfinished (p ∷ r ∷ packets) packet e = last_unfinished (r ∷ packets) packet e

newest_unfinished : (packets : List Packet) → newest_goes_on packets ≡ true → LastUnfinished (reverse (kept_of packets))
newest_unfinished [] e = tt
newest_unfinished (packet ∷ older) e =
    subst (λ (b : Bool). LastUnfinished (reverse (cond b (packet ∷ kept_of older) (kept_of older)))) (sym (kept packet.kept (is_some packet.given_up) parts.0))
    (subst LastUnfinished (sym (reverse-append (packet ∷ []) (kept_of older))) (last_unfinished (reverse (kept_of older)) packet (was packet.finished parts.1)))
  where
    parts : (not (is_lost packet) ≡ true) × (not packet.finished ≡ true)
    parts = and_parts (not (is_lost packet)) (not packet.finished) e

    kept : (k g : Bool) → not (not k || g) ≡ true → k ≡ true
    kept true g h = refl
    kept false g h = absurd (false≢true h)

    was : (b : Bool) → not b ≡ true → b ≡ false
    was true h = absurd (false≢true h)
    was false h = refl

kept_reversed : (packets : List Packet) → kept_of (reverse packets) ≡ reverse (kept_of packets)
kept_reversed [] = refl
kept_reversed (packet ∷ packets) =
    ap kept_of (reverse-append (packet ∷ []) packets)
    ∙ filter-append (λ p. p.kept) (reverse packets) (packet ∷ [])
    ∙ ap (λ (ps : List Packet). ps ++ kept_of (packet ∷ [])) (kept_reversed packets)
    ∙ step packet.kept
  where
    step : (b : Bool) → reverse (kept_of packets) ++ cond b (packet ∷ []) [] ≡ reverse (cond b (packet ∷ kept_of packets) (kept_of packets))
    step true = sym (reverse-append (packet ∷ []) (kept_of packets))
    step false = append-nil (reverse (kept_of packets))

module _ (goes : Bool) where
  -- A chain that ends in no drop mark is a packet that was written whole, or the last one while the writer goes on in it.
  abbrev AreExact : List Chain → List WrittenPacket → Type 0
  AreExact [] told = Unit {0}
  AreExact (chain ∷ chains) [] = ⊥
  AreExact (chain ∷ chains) (one ∷ told) = (is_marked_fate chain.fate ≡ false → (one.whole ≡ true) ⊎ ((goes ≡ true) × (chains ≡ []))) × AreExact chains told

  exact_of : (size : ℕ) (packets : List Packet) (chains : List Chain) (told : List WrittenPacket) → AllZip (IsChainOf size) packets chains → AreExact chains told
      → length told ≤ length chains → (goes ≡ true → LastUnfinished packets) → AllZip IsExactOf packets told
  exact_of size [] [] [] of are few last = tt
  exact_of size [] [] (t ∷ ts) of are few last = absurd (omega (arith, few))
  exact_of size [] (c ∷ cs) told of are few last = absurd of
  exact_of size (p ∷ ps) [] told of are few last = absurd of
  exact_of size (p ∷ ps) (c ∷ cs) [] of are few last = absurd are
  exact_of size (p ∷ ps) (c ∷ cs) (t ∷ ts) of are few last =
      ((λ f g. by_end (are.0 (of.0.marked ∙ g)) ps of.1 last f), exact_of size ps cs ts of.1 are.1 (omega (arith, few)) (λ e. onward ps (last e)))
    where
      onward : (ps : List Packet) → LastUnfinished (p ∷ ps) → LastUnfinished ps
      onward [] h = tt
      onward (r ∷ ps) h = h

      by_end : (t.whole ≡ true) ⊎ ((goes ≡ true) × (cs ≡ [])) → (ps : List Packet) → AllZip (IsChainOf size) ps cs → (goes ≡ true → LastUnfinished (p ∷ ps)) → p.finished ≡ true → t.whole ≡ true
      by_end (inl w) ps of last f = w
      by_end (inr h) [] of last f = absurd (false≢true (sym (last h.0) ∙ f))
      by_end (inr h) (r ∷ ps) of last f = absurd (subst (AllZip (IsChainOf size) (r ∷ ps)) h.1 of)

-- The row of what was written

module _ (size : ℕ) (calls : List Call) (pages : List Page) (cut : IsCompletedCut size calls pages) where
  abbrev goes : Bool
  goes = newest_goes_on (packets_of calls)

  abbrev sheets : List Sheet
  sheets = cut_sheets calls pages

  agree : SheetsAgree false sheets
  agree = cut_agrees size calls pages cut

  last_goes : (chunk_id passed : ℕ) (first : Part) (parts : List Part) → parts_at sheets chunk_id passed ≡ first ∷ parts → LastGoesOn (first ∷ parts) → goes ≡ true
  last_goes chunk_id passed first parts e h =
      sym (cut_last size calls pages cut)
      ∙ goes_runs sheets false false chunk_id passed agree (subst (λ (ps : List Part). 0 < length ps) (sym e) (omega arith)) (subst LastGoesOn (sym e) h)

  slots_full : (more : List Page) (first : ℕ) → ((i : ℕ) (page : Page) → slice_get more i ≡ Some page → slice_get pages (first + i) ≡ Some page)
      → length sheets ≤ first + length more
      → FullSlots sheets false true (λ c. refl) agree first (written_slots (patches_of pages) first more)
  slots_full [] first there low = λ e. omega (arith, low)
  slots_full (page ∷ more) first there low = (
    record {
      sheet = sheet_of (patches_of pages) first page.runs_on page;
      there = cut_sheet size calls pages cut first page get;
      whole = refl;
      continues = refl;
      runs_on = refl;
      shows = shows_itself false (settled_fragments (patches_of pages) first (chunk_of page).fragments);
      drops = page_marks size (patches_of pages) first page (full_at size pages first page (cut_full size calls pages cut) get);
      goes_on = λ a. absurd (false≢true a);
      stays = λ a. absurd (false≢true a);
      unended = λ a. absurd (false≢true a);
    },
    slots_full more (suc first)
        (λ i other e. let behind : suc first + i ≡ first + suc i = omega arith in ap (slice_get pages) behind ∙ there (suc i) other e)
        (omega (arith, low)),
  )
    where
      get : slice_get pages first ≡ Some page
      get = let at : first ≡ first + 0 = omega arith in ap (slice_get pages) at ∙ there 0 page refl

  exact_row : (links : List Link) (parts : List Part) → Holds sheets false true links parts → Each (λ (chain : Chain). chain.headless ≡ false) (chains_in links)
      → AreExact goes (chains_in links) (packets_in parts)
  exact_row [] parts h heads = absurd h
  exact_row (Stop at why may ∷ links) parts h heads = subst (λ (ls : List Link). AreExact goes (chains_in ls) (packets_in parts)) (sym h.none) tt
  exact_row (Gap at next lost ∷ links) parts h heads = absurd h
  exact_row (Joined chain ∷ links) [] h heads = absurd h
  exact_row (Joined chain ∷ links) (first ∷ parts) h heads =
      subst (AreExact goes (chain ∷ chains_in links))
      (sym (ap (λ (b : Bool). cond b (record { bytes = first.bytes ++ tail_bytes parts; whole = ends_whole first parts } ∷ packets_in parts) (packets_in parts)) (h.1.starts ∙ ap not heads.0)
      ∙ ap (λ (ps : List WrittenPacket). record { bytes = first.bytes ++ tail_bytes parts; whole = ends_whole first parts } ∷ ps) h.1.after))
      (by_fate chain.fate chain.awaits h.1.awaits h.1.fate h.1.last, exact_row links h.0 h.2 heads.1)
    where
      by_fate : (fate : Fate) (awaits : Bool) → (awaits ≡ true → false ≡ true) → IsFateOf sheets false true fate awaits (ends_whole first parts) (first ∷ parts) → (fate ≡ Open → chains_in links ≡ [])
          → is_marked_fate fate ≡ false → (ends_whole first parts ≡ true) ⊎ ((goes ≡ true) × (chains_in links ≡ []))
      by_fate Whole true late is last m = absurd (false≢true (late refl))
      by_fate Whole false late is last m = inl is
      by_fate Marked awaits late is last m = absurd (false≢true (sym m))
      by_fate IntoLost awaits late is last m = absurd is
      by_fate CutOff awaits late is last m = absurd (false≢true is.0)
      by_fate Open awaits late is last m = inr (last_goes chain.at.chunk_id chain.at.passed first parts h.1.here.0 (is.1 refl), last refl)

  -- the row of the pages is that of the sheets' parts
  pub written_held : Holds sheets false true (written_row pages) (all_parts sheets)
  written_held =
      subst (Holds sheets false true (written_row pages)) (all_at_start sheets)
      (row_holds sheets false true (λ c. refl) agree (written_slots (patches_of pages) 0 pages) 0 0
      (slots_full pages 0 (λ i page e. let at : 0 + i ≡ i = omega arith in ap (slice_get pages) at ∙ e)
      (let long = sheets_long (patches_of pages) goes pages 0 in omega (arith, long)))
      (inside_first sheets false 0 agree))

  pub exact_chains : AllZip IsExactOf (kept_of (reverse (packets_of calls))) (packets_in (all_parts sheets))
  exact_chains =
      subst (λ (ps : List Packet). AllZip IsExactOf ps (packets_in (all_parts sheets))) (sym (kept_reversed (packets_of calls)))
      (exact_of goes size (reverse (kept_of (packets_of calls))) (chains_in (written_row pages)) (packets_in (all_parts sheets))
      (subst (AllZip (IsChainOf size) (reverse (kept_of (packets_of calls)))) (reverse-reverse (chains_in (written_row pages)))
      (zip_reversed (IsChainOf size) (kept_of (packets_of calls)) (chains_of pages) cut.cut.chains))
      (exact_row (written_row pages) (all_parts sheets) written_held (chains_have_heads size pages (cut_full size calls pages cut) cut.cut.flags))
      (as_many (chains_in (written_row pages)) (packets_in (all_parts sheets)) (packets_are_chains size goes pages (cut_full size calls pages cut) cut.cut.flags))
      (newest_unfinished (packets_of calls)))
    where
      as_many : (chains : List Chain) (told : List WrittenPacket) → AllZip IsToldBy chains told → length told ≤ length chains
      as_many [] [] h = omega arith
      as_many [] (t ∷ ts) h = absurd h
      as_many (c ∷ cs) [] h = omega arith
      as_many (c ∷ cs) (t ∷ ts) h = let rest = as_many cs ts h.1 in omega (arith, rest)
