-- What a writer wrote, from its pages.
use Rattle.std.specs.Prelude.{ℕ, suc, Bool, List, [], ◌∷◌}
use Rattle.trace_model.specs.Images.{Patch}
use Rattle.trace_model.specs.Pages.{Page, chunk_of, patches_of}
use Rattle.trace_model.specs.Written.{settled_fragments}
use Rattle.delivery_laws.specs.Sheets.{Sheet}

-- the page at this position, which runs on or not, once these patches are put in
abbrev pub sheet_of : List Patch → ℕ → Bool → Page → Sheet
sheet_of patches chunk_id runs_on page = record {
  chunk = record (chunk_of page) { runs_on = runs_on };
  patches = page.patches;
  written = settled_fragments patches chunk_id (chunk_of page).fragments;
}

-- Pages from this position on. Whether the last one runs on is given: a page whose chunk is still held has no flag 2 yet,
-- while the newest packet goes on behind it.
abbrev pub sheets_from : List Patch → ℕ → Bool → List Page → List Sheet
sheets_from patches chunk_id goes_on [] = []
sheets_from patches chunk_id goes_on (page ∷ []) = sheet_of patches chunk_id goes_on page ∷ []
sheets_from patches chunk_id goes_on (page ∷ next ∷ pages) =
    sheet_of patches chunk_id page.runs_on page ∷ sheets_from patches (suc chunk_id) goes_on (next ∷ pages)

-- the pages of a writer as sheets, of which the last one goes on or not
abbrev pub sheets_of : Bool → List Page → List Sheet
sheets_of goes_on pages = sheets_from (patches_of pages) 0 goes_on pages
