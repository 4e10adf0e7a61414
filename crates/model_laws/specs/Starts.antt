-- Where packets begin in what a writer wrote, and histories whose arrivals are of it.
use Rattle.std.specs.Prelude.{◌≡◌, ℕ, ◌≤◌, Bool, IsTrue, List, [], ◌∷◌, length, Some, slice_get, ⊤}
use Rattle.std.specs.List.{list_any}
use Rattle.trace_model.specs.Images.{Fragment, Chunk, whole_chunk}
use Rattle.trace_model.specs.Pages.{Page}
use Rattle.trace_model.specs.Reading.{Fragments, reading_of}
use Rattle.trace_model.specs.Sequences.{Cursor}
use Rattle.trace_model.specs.Row.{Chain}
use Rattle.trace_model.specs.History.{Event, Arrives, ArrivesInPart, Patched, Committed, Closed, Read}
use Rattle.trace_model.specs.Causes.{Fixed, is_same_place}

-- The chunk is what there is of the page at this position, whole or in part: it continues the page before where the page does,
-- and has no more fragments. Nothing is said of its bytes, which patches change.
pub record IsOfPage (pages : List Page) (chunk_id : ℕ) (chunk : Chunk) : Type 0 where
  pub page : Page
  pub there : slice_get pages chunk_id ≡ Some page
  pub continues : chunk.continues ≡ page.continues
  pub no_more : length chunk.fragments ≤ length page.fragments

-- All that arrives of the sequence is of these pages.
abbrev pub ArePagesOf : ℕ → List Page → List Event → Type 0
ArePagesOf sequence pages [] = ⊤
ArePagesOf sequence pages (Arrives other chunk_id chunk ∷ events) =
    (other ≡ sequence → IsOfPage pages chunk_id chunk) × ArePagesOf sequence pages events
ArePagesOf sequence pages (ArrivesInPart other chunk_id chunk ∷ events) =
    (other ≡ sequence → IsOfPage pages chunk_id chunk) × ArePagesOf sequence pages events
ArePagesOf sequence pages (Committed image patches ∷ events) =
    (image.sequence ≡ sequence → (fragments : List Fragment) → reading_of image.count image.payload ≡ Fragments fragments
    → IsOfPage pages image.chunk_id (whole_chunk image.flags fragments))
    × ArePagesOf sequence pages events
ArePagesOf sequence pages (Patched other patches ∷ events) = ArePagesOf sequence pages events
ArePagesOf sequence pages (Closed other ∷ events) = ArePagesOf sequence pages events
ArePagesOf sequence pages (Read other limit ∷ events) = ArePagesOf sequence pages events

-- one of the chains begins at the place
abbrev pub begins_one : List Chain → Cursor → Bool
begins_one chains at = list_any (λ (chain : Chain). is_same_place chain.at at) chains

-- each outcome is that of a packet: it stands at a place where one of the chains begins
abbrev pub AllBegin : List Chain → List Fixed → Type 0
AllBegin chains [] = ⊤
AllBegin chains (fixed ∷ others) = IsTrue (begins_one chains fixed.at) × AllBegin chains others
