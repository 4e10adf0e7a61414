-- What a claim over all places does to the view of its user.
use Rattle.std.specs.Prelude.{◌≡◌, ℕ, ◌<◌, ◌++◌, true, false, List, length}
use Rattle.chunk_plain.specs.Views.{At}
use Rattle.layout_tuner.specs.PageWords.{spot, chunks_of, layout_in, is_clear}
use Rattle.layout_tuner.specs.Knows.{Ask, UserView, claims}

-- The user asked for so many places in vain, in rising order from the table's first one on: each was found claimed.
pub record AsksInVain (count : ℕ) (old new : UserView) : Type 0 where
  pub asks : List Ask
  pub many : length asks ≡ count
  pub each : (k : ℕ) (ask : Ask) → At asks k ask → (spot ask.page ask.place ≡ k) × (ask.place < 14) × (is_clear ask.found ask.place ≡ false)
  pub new_is : new ≡ record old { asked = old.asked ++ asks }

-- The user asked for each place before this one in vain, and won this one, which is a chunk of the layout that it found.
pub record ClaimsFirst (page place : ℕ) (old new : UserView) : Type 0 where
  pub between : UserView
  pub vain : AsksInVain (spot page place) old between
  pub found : ℕ
  pub clear : is_clear found place ≡ true
  pub inside : place < chunks_of (layout_in found)
  pub new_is : new ≡ claims between page place found true
