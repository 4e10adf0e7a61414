-- A page that awaits patches runs on, and its last patch is brought, or it stays open. So it is of each page of a stream when its commit comes.
use Rattle.std.proofs.Common.{◌≡◌, ◌∙◌, ℕ, zero, suc, ◌+◌, ◌<◌, ◌⊎◌, Bool, true, false, not, ◌&&◌, ◌||◌, List, [], ◌∷◌, ◌++◌, length, Some, refl, sym, ap, subst, arith, inl, inr}
use Rattle.std.specs.Prelude.{cond, ◌==◌, slice_get}
use Rattle.std.specs.List.{list_any}
use Rattle.std.proofs.lemmas.Bool.{false≢true, and_from, and_parts, eqb-true, or_left, or_right}
use Rattle.std.proofs.lemmas.List.Folds.{list_any-append}
use Rattle.trace_model.specs.Calls.{Call}
use Rattle.trace_model.specs.History.{Event, Arrives, ArrivesInPart, Patched, Committed, Closed, Read}
use Rattle.trace_model.specs.Images.{Image, Patch, has_flag_4}
use Rattle.trace_model.specs.Packets.{kept_of, packets_of}
use Rattle.trace_model.specs.Pages.{Page, patches_of}
use Rattle.trace_model.specs.Sent.{AwaitsAre, LastsAre, all_sent, chunks_of, open_chunks}
use Rattle.trace_model.specs.Sequences.{is_among, with_number}
use Rattle.trace_model.specs.Written.{chains_in, chains_of, written_row}
use Rattle.trace_model.proofs.CursorLemmas.{Each}
use Rattle.delivery_laws.specs.Sheets.{Sheet}
use Rattle.delivery_laws.specs.WriterSheets.{sheet_of}
use Rattle.delivery_laws.proofs.WholeLemmas.{each_reversed}
use Rattle.world_model.proofs.OwnLemmas.{flag_4}
use Rattle.commit_laws.specs.CommitHistories.{patches_to}
use Rattle.commit_laws.specs.Commits.{Commit, commits_in, patches_brought}
use Rattle.commit_laws.specs.Streams.{IsCompletedCut}
use Rattle.commit_laws.proofs.CutSheets.{cut_sheet, cut_sheets}
use Rattle.commit_laws.proofs.FullRows.{StaysOpen}
use Rattle.commit_laws.proofs.FullSteps.{AllSettle, Settles, has_last}
use Rattle.commit_laws.proofs.LeftCommits.{IsLeft, first_left}
use Rattle.commit_laws.proofs.OpenChunks.{open_stays}
use Rattle.commit_laws.proofs.RowPieces.{IsChainFrom, IsInPage, written_from}
use Rattle.commit_laws.proofs.SentBrought.{among_append, ids, sent_brought}

-- what the pages say of one that awaits patches
awaits_is : (crossing : List ℕ) (pages : List Page) (first i : ℕ) (page : Page) → AwaitsAre crossing first pages → slice_get pages i ≡ Some page
    → page.awaits ≡ (page.runs_on && is_among (first + i) crossing)
awaits_is crossing [] first i page are get = absurd (cc)
awaits_is crossing (other ∷ pages) first zero page are get =
    let same : other ≡ page = cc in
    let at : first ≡ first + 0 = omega arith in
    subst (λ (n : ℕ). page.awaits ≡ (page.runs_on && is_among n crossing)) at (subst (λ (p : Page). p.awaits ≡ (p.runs_on && is_among first crossing)) same are.0)
awaits_is crossing (other ∷ pages) first (suc i) page are get =
    let at : suc first + i ≡ first + suc i = omega arith in
    subst (λ (n : ℕ). page.awaits ≡ (page.runs_on && is_among n crossing)) at (awaits_is crossing pages (suc first) i page are.1 get)

-- of the patches for a chunk without open lengths one is the last
last_brought : (open_ones : List ℕ) (i : ℕ) (patches : List Patch) → LastsAre open_ones patches → is_among i open_ones ≡ false → is_among i (chunks_of patches) ≡ true → has_last i patches ≡ true
last_brought open_ones i [] lasts shut among = absurd (false≢true among)
last_brought open_ones i (patch ∷ later) lasts shut among = by_later (is_among i (chunks_of later)) refl among (last_brought open_ones i later lasts.1 shut)
  where
    by_later : (b : Bool) → is_among i (chunks_of later) ≡ b → ((patch.chunk_id == i) || b) ≡ true → (b ≡ true → has_last i later ≡ true) → has_last i (patch ∷ later) ≡ true
    by_later true e among rest = or_right ((patch.chunk_id == i) && patch.last) (has_last i later) (rest refl)
    by_later false e among rest =
        let here : (patch.chunk_id == i) ≡ true = only (patch.chunk_id == i) among in
        let same : patch.chunk_id ≡ i = eqb-true patch.chunk_id i here in
        let last : patch.last ≡ true =
        lasts.0 ∙ ap (λ (n : ℕ). not (is_among n (chunks_of later) || is_among n open_ones)) same
        ∙ ap (λ (b : Bool). not (b || is_among i open_ones)) e ∙ ap not shut in
        or_left ((patch.chunk_id == i) && patch.last) (has_last i later) (and_from (patch.chunk_id == i) patch.last here last)
      where
        only : (b : Bool) → (b || false) ≡ true → b ≡ true
        only true h = refl
        only false h = h

module _ (size : ℕ) (calls : List Call) (pages : List Page) (cut : IsCompletedCut size calls pages) where
  abbrev sheets : List Sheet
  sheets = cut_sheets calls pages

  pub page_settles : (q i : ℕ) (page : Page) → slice_get pages i ≡ Some page → page.awaits ≡ true → Settles sheets q (patches_of pages) i
  page_settles q i page get awaits = (runs, by_open (is_among i (open_chunks (kept_of (packets_of calls)) (chains_of pages))) refl)
    where
      crossing : List ℕ
      crossing = ids (all_sent (kept_of (packets_of calls)) (chains_of pages)) ++ open_chunks (kept_of (packets_of calls)) (chains_of pages)

      both : (page.runs_on ≡ true) × (is_among (0 + i) crossing ≡ true)
      both = and_parts page.runs_on (is_among (0 + i) crossing) (sym (awaits_is crossing pages 0 i page cut.cut.patches.awaits get) ∙ awaits)

      runs : (sheet : Sheet) → slice_get sheets i ≡ Some sheet → sheet.chunk.runs_on ≡ true
      runs sheet there =
          let known = cut_sheet size calls pages cut i page get in
          let same : sheet_of (patches_of pages) i page.runs_on page ≡ sheet = cc in
          sym (ap (λ (s : Sheet). s.chunk.runs_on) same) ∙ both.0

      some : (pages : List Page) (i : ℕ) → slice_get pages i ≡ Some page → 0 < length pages
      some [] i get = absurd (cc)
      some (p ∷ ps) i get = omega arith

      by_open : (b : Bool) → is_among i (open_chunks (kept_of (packets_of calls)) (chains_of pages)) ≡ b → (has_last i (patches_of pages) ≡ true) ⊎ StaysOpen sheets i
      by_open true e = inr (open_stays size calls pages cut i e)
      by_open false e =
          let at : 0 + i ≡ i = omega arith in
          by_sent (among_append i (ids (all_sent (kept_of (packets_of calls)) (chains_of pages))) (open_chunks (kept_of (packets_of calls)) (chains_of pages))
          (ap (λ (n : ℕ). is_among n crossing) (sym at) ∙ both.1))
        where
          by_sent : (is_among i (ids (all_sent (kept_of (packets_of calls)) (chains_of pages))) ≡ true) ⊎ (is_among i (open_chunks (kept_of (packets_of calls)) (chains_of pages)) ≡ true)
              → (has_last i (patches_of pages) ≡ true) ⊎ StaysOpen sheets i
          by_sent (inl h) =
              inl (last_brought (open_chunks (kept_of (packets_of calls)) (chains_of pages)) i (patches_of pages) cut.cut.patches.lasts e
              (sent_brought pages (kept_of (packets_of calls)) (chains_of pages) i (some pages i get)
              (each_reversed (IsChainFrom (IsInPage pages)) (chains_in (written_row pages)) (written_from pages)) cut.cut.patches.sent h))
          by_sent (inr h) = absurd (false≢true (sym e ∙ h))

  -- What comes of a page that awaits patches is all of it that is still to come.
  module _ (q : ℕ) (whole : List Patch) (whole_any : (test : Patch → Bool) → list_any test whole ≡ list_any test (patches_of pages)) where
    none_done : (i : ℕ) (came : List ℕ) (done : List Patch) → is_among i came ≡ false → Each (λ (patch : Patch). is_among patch.chunk_id came ≡ true) done → has_last i done ≡ false
    none_done i came [] absent h = refl
    none_done i came (patch ∷ done) absent h = by_id (patch.chunk_id == i) refl (none_done i came done absent h.1)
      where
        by_id : (b : Bool) → (patch.chunk_id == i) ≡ b → has_last i done ≡ false → ((b && patch.last) || has_last i done) ≡ false
        by_id true e rest = absurd (false≢true (sym absent ∙ ap (λ (n : ℕ). is_among n came) (sym (eqb-true patch.chunk_id i e)) ∙ h.0))
        by_id false e rest = rest

    commit_settles : (came others : List ℕ) (done : List Patch) (commit : Commit) (commits : List Commit) → IsLeft q pages whole came others done (commit ∷ commits)
        → has_flag_4 commit.image.flags ≡ true → Settles sheets q (patches_brought (commit ∷ commits)) commit.image.chunk_id
    commit_settles came others done commit commits is flag =
        let page : Page = is.are.0.page in
        let id : ℕ = commit.image.chunk_id in
        let awaits : page.awaits ≡ true =
        sym (flag_4 page.continues page.runs_on page.awaits) ∙ sym (ap (λ (i : Image). has_flag_4 i.flags) is.are.0.image) ∙ flag in
        let settles = page_settles q id page is.are.0.get awaits in
        (settles.0, by_last settles.1)
      where
        left : has_last commit.image.chunk_id (patches_of pages) ≡ has_last commit.image.chunk_id (patches_brought (commit ∷ commits))
        left =
            sym (whole_any (λ (patch : Patch). (patch.chunk_id == commit.image.chunk_id) && patch.last))
            ∙ ap (has_last commit.image.chunk_id) is.all
            ∙ list_any-append (λ (patch : Patch). (patch.chunk_id == commit.image.chunk_id) && patch.last) done (patches_brought (commit ∷ commits))
            ∙ ap (λ (b : Bool). b || has_last commit.image.chunk_id (patches_brought (commit ∷ commits)))
            (none_done commit.image.chunk_id came done (first_left q pages whole came others done commit commits is).absent is.done_came)

        by_last : (has_last commit.image.chunk_id (patches_of pages) ≡ true) ⊎ StaysOpen sheets commit.image.chunk_id
            → (has_last commit.image.chunk_id (patches_brought (commit ∷ commits)) ≡ true) ⊎ StaysOpen sheets commit.image.chunk_id
        by_last (inl h) = inl (sym left ∙ h)
        by_last (inr h) = inr h

    pub stream_settles : (events : List Event) (came others : List ℕ) (done : List Patch) → IsLeft q pages whole came others done (commits_in q events) → AllSettle sheets q events
    stream_settles [] came others done is = tt
    stream_settles (Arrives other id chunk ∷ events) came others done is = stream_settles events came others done is
    stream_settles (ArrivesInPart other id chunk ∷ events) came others done is = stream_settles events came others done is
    stream_settles (Patched other patches ∷ events) came others done is = stream_settles events came others done is
    stream_settles (Read other limit ∷ events) came others done is = stream_settles events came others done is
    stream_settles (Closed other ∷ events) came others done is = stream_settles events came others done is
    stream_settles (Committed image patches ∷ events) came others done is =
        by_own (image.sequence == q) is (λ (c o : List ℕ) (d : List Patch) (l : IsLeft q pages whole c o d (commits_in q events)). stream_settles events c o d l)
      where
        commit : Commit
        commit = record { image = image; patches = patches }

        by_own : (x : Bool) → IsLeft q pages whole came others done (cond x (commit ∷ commits_in q events) (commits_in q events))
            → ((c o : List ℕ) (d : List Patch) → IsLeft q pages whole c o d (commits_in q events) → AllSettle sheets q events)
            → (x ≡ true → has_flag_4 image.flags ≡ true → Settles sheets q (patches ++ patches_to q events) image.chunk_id) × AllSettle sheets q events
        by_own false is rest = ((λ e. absurd (false≢true e)), rest came others done is)
        by_own true is rest = (
          (λ e flag. commit_settles came others done commit (commits_in q events) is flag),
          rest (with_number image.chunk_id came) (image.chunk_id ∷ others) (done ++ patches) (first_left q pages whole came others done commit (commits_in q events) is).rest,
        )
