-- A stream's commits agree with the sheets of its pages: each brings its page, which the patches that are still to come complete.
use Rattle.std.proofs.Common.{◌≡◌, ◌∙◌, ℕ, suc, ◌+◌, ◌<◌, ◌≤◌, ◌⊎◌, Bool, true, false, ◌&&◌, ◌||◌, List, [], ◌∷◌, ◌++◌, length, Some, refl, sym, ap, subst, arith, inl, inr}
use Rattle.std.specs.Prelude.{cond, ◌==◌, nat_le, nat_lt, slice_get, MatchBool}
use Rattle.std.specs.List.{list_all, list_any}
use Rattle.std.proofs.lemmas.Bool.{false≢true, and_parts, eqb-true}
use Rattle.std.proofs.lemmas.List.Folds.{list_any-append}
use Rattle.trace_model.specs.Calls.{Call}
use Rattle.trace_model.specs.Cut.{newest_goes_on}
use Rattle.trace_model.specs.History.{Event, Arrives, ArrivesInPart, Patched, Committed, Closed, Read}
use Rattle.trace_model.specs.Images.{Chunk, Fragment, Image, Patch, whole_chunk}
use Rattle.trace_model.specs.Packets.{Packet, kept_of, packets_of}
use Rattle.trace_model.specs.Pages.{Page, chunk_of, flags_of, patches_of}
use Rattle.trace_model.specs.Reading.{reading_of}
use Rattle.trace_model.specs.Sent.{chunks_of, is_placed}
use Rattle.trace_model.specs.Sequences.{is_among, with_number}
use Rattle.trace_model.specs.Written.{chains_in, chains_of, settled_fragments, written_row}
use Rattle.trace_model.proofs.CursorLemmas.{Each, each-filter}
use Rattle.trace_model.proofs.PageLemmas.{fragments_long}
use Rattle.delivery_laws.specs.Histories.{Completes}
use Rattle.delivery_laws.specs.Sheets.{Sheet}
use Rattle.delivery_laws.specs.WriterSheets.{sheet_of, sheets_from}
use Rattle.delivery_laws.proofs.CompleteLemmas.{full_at}
use Rattle.delivery_laws.proofs.WholeLemmas.{each_reversed}
use Rattle.world_model.proofs.OwnLemmas.{flag_2, flag_4, page_continues, page_reads}
use Rattle.commit_laws.specs.CommitHistories.{AreCommitted, IsImageOf, patches_to}
use Rattle.commit_laws.specs.Commits.{ComesByCommits, Commit, LastsComeLast, commits_in}
use Rattle.commit_laws.specs.Streams.{IsCompletedCut}
use Rattle.commit_laws.proofs.CommitMembers.{IsOfPage, each_behind, times}
use Rattle.commit_laws.proofs.CutSheets.{cut_full, cut_sheet, cut_sheets}
use Rattle.commit_laws.proofs.LastFragments.{EndsIn, ends_in}
use Rattle.commit_laws.proofs.LeftCommits.{IsLeft, first_left}
use Rattle.commit_laws.proofs.PageCompletes.{completes_any}
use Rattle.commit_laws.proofs.PatchOrder.{AllStandIn, StandsIn, gives}
use Rattle.commit_laws.proofs.RowPieces.{IsChainFrom, IsInPage, written_from}
use Rattle.commit_laws.proofs.SentStands.{all_lie, all_stand, held_at, placed_at, settled_bytes}
use Rattle.commit_laws.proofs.TextLengths.{HasAllLengths, have_lengths}

-- Behind a close nothing of the sequence comes.
pub none_behind : (q : ℕ) (events : List Event) → ComesByCommits q true events → commits_in q events ≡ []
none_behind q [] only = refl
none_behind q (Arrives other id chunk ∷ events) only = none_behind q events only.1
none_behind q (ArrivesInPart other id chunk ∷ events) only = none_behind q events only.1
none_behind q (Patched other patches ∷ events) only = none_behind q events only.1
none_behind q (Committed image patches ∷ events) only = by_own (image.sequence == q) only.0 (none_behind q events only.1)
  where
    by_own : (x : Bool) → (x ≡ true → true ≡ false) → commits_in q events ≡ [] → cond x (record { image = image; patches = patches } ∷ commits_in q events) (commits_in q events) ≡ []
    by_own true h rest = absurd (false≢true (sym (h refl)))
    by_own false h rest = rest
none_behind q (Closed other ∷ events) only = none_behind q events only
none_behind q (Read other limit ∷ events) only = none_behind q events only

pub sheets_long : (patches : List Patch) (goes : Bool) (pages : List Page) (first : ℕ) → length (sheets_from patches first goes pages) ≡ length pages
sheets_long patches goes [] first = refl
sheets_long patches goes (page ∷ []) first = refl
sheets_long patches goes (page ∷ next ∷ pages) first = ap suc (sheets_long patches goes (next ∷ pages) (suc first))

kept_lengths : (packets : List Packet) → Each HasAllLengths packets → Each HasAllLengths (kept_of packets)
kept_lengths packets h = each-filter HasAllLengths (λ packet. packet.kept) packets h

module _ (size : ℕ) (calls : List Call) (pages : List Page) (cut : IsCompletedCut size calls pages) where
  abbrev sheets : List Sheet
  sheets = cut_sheets calls pages

  pub all_placed : Each (λ (patch : Patch). is_placed pages patch ≡ true) (patches_of pages)
  all_placed = from_list (patches_of pages) cut.cut.patches.placed
    where
      from_list : (patches : List Patch) → list_all (is_placed pages) patches ≡ true → Each (λ (patch : Patch). is_placed pages patch ≡ true) patches
      from_list [] h = tt
      from_list (patch ∷ patches) h =
          let parts = and_parts (is_placed pages patch) (list_all (is_placed pages) patches) h in
          (parts.0, from_list patches parts.1)

  stand : (chunk_id : ℕ) (page : Page) → slice_get pages chunk_id ≡ Some page → (front : List Fragment) (last : Fragment) → (chunk_of page).fragments ≡ front ++ last ∷ []
      → AllStandIn chunk_id last.offset (settled_bytes pages chunk_id last) (patches_of pages)
  stand =
      all_stand pages size (kept_of (packets_of calls)) (chains_of pages) cut.cut.chains
      (kept_lengths (packets_of calls) (have_lengths calls))
      (each_reversed (IsChainFrom (IsInPage pages)) (chains_in (written_row pages)) (written_from pages))
      cut.cut.patches.sent cut.cut.patches.behind (all_lie pages all_placed)

  -- the chunk of a page as its image says it
  chunk_is : (page : Page) → whole_chunk (flags_of page) (chunk_of page).fragments ≡ chunk_of page
  chunk_is page =
      let fragments : List Fragment = (chunk_of page).fragments in
      ap (λ (b : Bool). record (whole_chunk (flags_of page) fragments) { continues = b }) (page_continues page)
      ∙ ap (λ (b : Bool). record (whole_chunk (flags_of page) fragments) { continues = page.continues; runs_on = b }) (flag_2 page.continues page.runs_on page.awaits)
      ∙ ap (λ (b : Bool). record (whole_chunk (flags_of page) fragments) { continues = page.continues; runs_on = page.runs_on; awaits = b }) (flag_4 page.continues page.runs_on page.awaits)

  -- the page's fragments, which aren't none
  parts_of_page : (chunk_id : ℕ) (page : Page) → slice_get pages chunk_id ≡ Some page → EndsIn (chunk_of page).fragments
  parts_of_page chunk_id page get =
      let well = full_at size pages chunk_id page (cut_full size calls pages cut) get in
      let some = well.some in
      let long = fragments_long 4 page.dropped page.fragments in
      ends_in (chunk_of page).fragments (omega (arith, some, long))

  module _ (q : ℕ) (whole : List Patch) (whole_stand : (chunk_id : ℕ) (offset : ℕ) (bytes : List ℕ) → AllStandIn chunk_id offset bytes (patches_of pages) → AllStandIn chunk_id offset bytes whole)
      (whole_any : (test : Patch → Bool) → list_any test whole ≡ list_any test (patches_of pages)) where
    awaited : (chunk_id : ℕ) (page : Page) → slice_get pages chunk_id ≡ Some page → (patches : List Patch) → Each (λ (patch : Patch). is_placed pages patch ≡ true) patches
        → is_among chunk_id (chunks_of patches) ≡ true → page.awaits ≡ true
    awaited chunk_id page get [] placed among = absurd (false≢true among)
    awaited chunk_id page get (patch ∷ patches) placed among = by_first (patch.chunk_id == chunk_id) refl among (awaited chunk_id page get patches placed.1)
      where
        by_first : (b : Bool) → (patch.chunk_id == chunk_id) ≡ b → (b || is_among chunk_id (chunks_of patches)) ≡ true → (is_among chunk_id (chunks_of patches) ≡ true → page.awaits ≡ true)
            → page.awaits ≡ true
        by_first true e among rest = (placed_at pages chunk_id page get patch placed.0 e).0
        by_first false e among rest = rest among

    -- none of the patches that came is for a chunk that didn't
    none_done : (chunk_id offset x : ℕ) (came : List ℕ) (done : List Patch) → is_among chunk_id came ≡ false → Each (λ (patch : Patch). is_among patch.chunk_id came ≡ true) done
        → list_any (gives chunk_id offset x) done ≡ false
    none_done chunk_id offset x came [] absent h = refl
    none_done chunk_id offset x came (patch ∷ done) absent h =
        ap (λ (b : Bool). gives chunk_id offset x patch || b) (none_done chunk_id offset x came done absent h.1) ∙ by_id (patch.chunk_id == chunk_id) refl
      where
        by_id : (b : Bool) → (patch.chunk_id == chunk_id) ≡ b → ((b && (nat_le patch.offset (offset + x) && nat_lt (offset + x) (patch.offset + 4))) || false) ≡ false
        by_id true e = absurd (false≢true (sym absent ∙ ap (λ (n : ℕ). is_among n came) (sym (eqb-true patch.chunk_id chunk_id e)) ∙ h.0))
        by_id false e = refl

    -- a page that hadn't come, and the patches that are still to come
    page_complete : (came : List ℕ) (done later : List Patch) (chunk_id : ℕ) (page : Page) → slice_get pages chunk_id ≡ Some page → is_among chunk_id came ≡ false
        → whole ≡ done ++ later → Each (λ (patch : Patch). is_among patch.chunk_id came ≡ true) done
        → Each (λ (patch : Patch). is_placed pages patch ≡ true) later → LastsComeLast later
        → Completes later chunk_id page.awaits (chunk_of page).fragments (settled_fragments (patches_of pages) chunk_id (chunk_of page).fragments)
    page_complete came done later chunk_id page get absent all done_came placed lasts = by_parts (parts_of_page chunk_id page get)
      where
        by_parts : EndsIn (chunk_of page).fragments → Completes later chunk_id page.awaits (chunk_of page).fragments (settled_fragments (patches_of pages) chunk_id (chunk_of page).fragments)
        by_parts parts =
            subst (λ (fs : List Fragment). Completes later chunk_id page.awaits fs (settled_fragments (patches_of pages) chunk_id fs)) (sym parts.is)
            (completes_any chunk_id parts.front (patches_of pages) later parts.last page.awaits lasts
            (held_at pages chunk_id page get parts.front parts.last parts.is later placed)
            (held_at pages chunk_id page get parts.front parts.last parts.is (patches_of pages) all_placed)
            (awaited chunk_id page get later placed)
            (each_behind (λ (patch : Patch). (patch.chunk_id == chunk_id) ≡ true → StandsIn chunk_id parts.last.offset (settled_bytes pages chunk_id parts.last) patch) done later
            (subst (AllStandIn chunk_id parts.last.offset (settled_bytes pages chunk_id parts.last)) all
            (whole_stand chunk_id parts.last.offset (settled_bytes pages chunk_id parts.last) (stand chunk_id page get parts.front parts.last parts.is))))
            (λ x given.
            let found : list_any (gives chunk_id parts.last.offset x) (done ++ later) ≡ true =
            ap (list_any (gives chunk_id parts.last.offset x)) (sym all) ∙ whole_any (gives chunk_id parts.last.offset x) ∙ given in
            sym (ap (λ (b : Bool). b || list_any (gives chunk_id parts.last.offset x) later) (none_done chunk_id parts.last.offset x came done absent done_came))
            ∙ sym (list_any-append (gives chunk_id parts.last.offset x) done later) ∙ found))

    -- its commit brings the sheet
    image_is : (came : List ℕ) (done later : List Patch) (commit : Commit) → IsOfPage q pages commit → is_among commit.image.chunk_id came ≡ false → whole ≡ done ++ later
        → Each (λ (patch : Patch). is_among patch.chunk_id came ≡ true) done → Each (λ (patch : Patch). is_placed pages patch ≡ true) later → LastsComeLast later
        → IsImageOf sheets later commit.image
    image_is came done later commit of absent all done_came placed lasts =
        let page : Page = of.page in
        let id : ℕ = commit.image.chunk_id in
        let well = full_at size pages id page (cut_full size calls pages cut) of.get in
        let chunk : whole_chunk commit.image.flags (chunk_of page).fragments ≡ chunk_of page =
        ap (λ (i : Image). whole_chunk i.flags (chunk_of page).fragments) of.image ∙ chunk_is page in
        let there = cut_sheet size calls pages cut id page of.get in
        let written = page_complete came done later id page of.get absent all done_came placed lasts in
        let some = well.some in
        let long = fragments_long 4 page.dropped page.fragments in
        record {
          fragments = (chunk_of page).fragments;
          reads = ap (λ (i : Image). reading_of i.count i.payload) of.image ∙ page_reads size page cut.small well;
          complete = record {
            sheet = sheet_of (patches_of pages) id page.runs_on page;
            there = there;
            same = chunk;
            completes = subst (λ (c : Chunk). Completes later id c.awaits c.fragments (settled_fragments (patches_of pages) id (chunk_of page).fragments)) (sym chunk) written;
            some = omega (arith, some, long);
          };
        }

    pub committed : (events : List Event) (came others : List ℕ) (done : List Patch) (closed : Bool) → IsLeft q pages whole came others done (commits_in q events) → ComesByCommits q closed events
        → AreCommitted sheets q came closed events
    committed [] came others done closed is only = tt
    committed (Arrives other id chunk ∷ events) came others done closed is only = (only.0, committed events came others done closed is only.1)
    committed (ArrivesInPart other id chunk ∷ events) came others done closed is only = (only.0, committed events came others done closed is only.1)
    committed (Patched other patches ∷ events) came others done closed is only = (only.0, committed events came others done closed is only.1)
    committed (Read other limit ∷ events) came others done closed is only = committed events came others done closed is only
    committed (Closed other ∷ events) came others done closed is only =
        by_own (other == q) only (λ (c : Bool) (o : ComesByCommits q c events). committed events came others done c is o)
      where
        true_or : (b : Bool) → (b || true) ≡ true
        true_or true = refl
        true_or false = refl

        or_false : (b : Bool) → (b || false) ≡ b
        or_false true = refl
        or_false false = refl

        by_own : (x : Bool) → ComesByCommits q (closed || x) events → ((c : Bool) → ComesByCommits q c events → AreCommitted sheets q came c events)
            → MatchBool x (((i : ℕ) → i < length sheets → is_among i came ≡ true) × AreCommitted sheets q came true events) (AreCommitted sheets q came closed events)
        by_own true only rest =
            let o : ComesByCommits q true events = subst (λ (c : Bool). ComesByCommits q c events) (true_or closed) only in
            ((λ i low. came_all i (is.left i (let long = sheets_long (patches_of pages) (newest_goes_on (packets_of calls)) pages 0 in omega (arith, low, long))) (none_behind q events o)), rest true o)
          where
            came_all : (i : ℕ) → (is_among i came ≡ true) ⊎ (1 ≤ times i (commits_in q events)) → commits_in q events ≡ [] → is_among i came ≡ true
            came_all i (inl h) none = h
            came_all i (inr h) none =
                let zero_times : times i (commits_in q events) ≡ 0 = ap (times i) none in
                absurd (omega (arith, h, zero_times))
        by_own false only rest = rest closed (subst (λ (c : Bool). ComesByCommits q c events) (or_false closed) only)
    committed (Committed image patches ∷ events) came others done closed is only =
        by_own (image.sequence == q) is only.0 (λ (c o : List ℕ) (d : List Patch) (l : IsLeft q pages whole c o d (commits_in q events)). committed events c o d closed l only.1)
      where
        commit : Commit
        commit = record { image = image; patches = patches }

        by_own : (x : Bool) → IsLeft q pages whole came others done (cond x (commit ∷ commits_in q events) (commits_in q events)) → (x ≡ true → closed ≡ false)
            → ((c o : List ℕ) (d : List Patch) → IsLeft q pages whole c o d (commits_in q events) → AreCommitted sheets q c closed events)
            → MatchBool x ((closed ≡ false) × IsImageOf sheets (patches ++ patches_to q events) image × AreCommitted sheets q (with_number image.chunk_id came) closed events)
            (AreCommitted sheets q came closed events)
        by_own false is open_now rest = rest came others done is
        by_own true is open_now rest =
            let first = first_left q pages whole came others done commit (commits_in q events) is in (
              open_now refl,
              image_is came done (patches ++ patches_to q events) commit is.are.0 first.absent is.all is.done_came is.placed is.lasts,
              rest (with_number image.chunk_id came) (image.chunk_id ∷ others) (done ++ patches) first.rest,
            )
