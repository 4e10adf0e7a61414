-- The sheets of completed pages that are a cut of a writer's packets.
use Rattle.std.proofs.Common.{◌≡◌, ◌∙◌, ℕ, ◌+◌, false, List, [], ◌∷◌, Some, ap, arith}
use Rattle.std.specs.Prelude.{slice_get}
use Rattle.trace_model.specs.Calls.{Call}
use Rattle.trace_model.specs.Cut.{last_runs_on, newest_goes_on}
use Rattle.trace_model.specs.Packets.{packets_of}
use Rattle.trace_model.specs.Pages.{Page, patches_of}
use Rattle.delivery_laws.specs.Sheets.{Sheet, SheetsAgree}
use Rattle.delivery_laws.specs.WriterSheets.{sheet_of, sheets_from, sheets_of}
use Rattle.delivery_laws.proofs.WrittenPackets.{AreFull, are_full, sheets_agree}
use Rattle.world_model.proofs.OwnLemmas.{sheet_there}
use Rattle.commit_laws.specs.Streams.{IsCompletedCut}
use Rattle.commit_laws.proofs.LastParts.{last_chunk_runs, last_is}

-- The last one goes on exactly where the newest packet does.
abbrev pub cut_sheets : List Call → List Page → List Sheet
cut_sheets calls pages = sheets_of (newest_goes_on (packets_of calls)) pages

module _ (size : ℕ) (calls : List Call) (pages : List Page) (cut : IsCompletedCut size calls pages) where
  pub cut_full : AreFull size pages
  cut_full = are_full size pages cut.cut.full

  pub cut_agrees : SheetsAgree false (cut_sheets calls pages)
  cut_agrees = sheets_agree size (newest_goes_on (packets_of calls)) pages cut_full cut.cut.flags

  -- the sheet of a page
  pub cut_sheet : (i : ℕ) (page : Page) → slice_get pages i ≡ Some page → slice_get (cut_sheets calls pages) i ≡ Some (sheet_of (patches_of pages) i page.runs_on page)
  cut_sheet i page get =
      let at : 0 + i ≡ i = omega arith in
      sheet_there (patches_of pages) (newest_goes_on (packets_of calls)) pages 0 i page get (λ e. cut.ends) ∙ ap (λ (n : ℕ). Some (sheet_of (patches_of pages) n page.runs_on page)) at

  pub cut_last : last_chunk_runs false (cut_sheets calls pages) ≡ newest_goes_on (packets_of calls)
  cut_last = by_pages pages cut.ends
    where
      by_pages : (ps : List Page) → last_runs_on false ps ≡ newest_goes_on (packets_of calls)
          → last_chunk_runs false (sheets_from (patches_of pages) 0 (newest_goes_on (packets_of calls)) ps) ≡ newest_goes_on (packets_of calls)
      by_pages [] e = e
      by_pages (page ∷ ps) e = last_is (patches_of pages) (newest_goes_on (packets_of calls)) false page ps 0
