-- Page words that show a layout.
use Rattle.std.specs.Prelude.{ℕ, ◌<◌, ◌≤◌, List, length, slice_index_or}
use Rattle.layout_tuner.specs.PageWords.{layout_in}

-- the word has one of the five layouts
pub record IsLaidOut (word : ℕ) : Type 0 where
  pub least : 1 ≤ layout_in word
  pub most : layout_in word ≤ 5

-- and so has each of these
abbrev pub HasLayouts : List ℕ → Type 0
HasLayouts words = (page : ℕ) → page < length words → IsLaidOut (slice_index_or words page 0)
