-- The fragments that are read step by step are those that the payload reads as.
use Rattle.std.specs.Prelude.{◌≡◌, ℕ, ◌<◌, List, length, All}
use Rattle.trace_model.specs.Images.{Fragment}
use Rattle.trace_model.specs.Fragments.{ReadsAs, drop_size}
use Rattle.trace_model.specs.Pages.{Page, laid, chunk_of}
use Rattle.trace_model.specs.Cut.{IsWellFormedPage}
use Rattle.trace_model.specs.Reading.{Fragments, reading_of}

-- what is read is a reading of the payload, with so many fragments
pub record ReadingIsExact : Type 0 where
  pub sound : (count : ℕ) (payload : List ℕ) (fragments : List Fragment) → All (λ byte. byte < 256) payload
      → reading_of count payload ≡ Fragments fragments → ReadsAs payload fragments × (length fragments ≡ count)
  pub complete : (payload : List ℕ) (fragments : List Fragment) → ReadsAs payload fragments
      → reading_of (length fragments) payload ≡ Fragments fragments

-- a writer's image reads as the fragments that it wrote
abbrev pub PagesReadAsWritten : Type 0
PagesReadAsWritten = (size : ℕ) (page : Page) → size < drop_size → IsWellFormedPage size page
    → ReadsAs (laid page.dropped page.fragments page.rest) (chunk_of page).fragments
