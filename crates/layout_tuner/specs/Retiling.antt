-- What a page that is partitioned anew, or isn't, does to the view of its user.
use Rattle.std.specs.Prelude.{◌≡◌, ◌≢◌, ℕ, ◌+◌, ◌-◌, ◌*◌, ◌<◌, ◌≤◌, ◌++◌, true, false, List, [], ◌∷◌, length, replicate}
use Rattle.chunk_plain.specs.Views.{At}
use Rattle.chunk_plain.specs.Owned.{times}
use Rattle.layout_tuner.specs.declared.table.TheConstants.{LAST_GENERATION}
use Rattle.layout_tuner.specs.declared.table.Shape.{Shape}
use Rattle.layout_tuner.specs.declared.tokens.TunePage.{TunePage}
use Rattle.layout_tuner.specs.declared.tokens.TuneFault.{TuneFault}
use Rattle.layout_tuner.specs.declared.tokens.TuneFault.TheVariants.{Busy, Worn}
use Rattle.layout_tuner.specs.PageWords.{spot, chunks_of, layout_in, generation_in, is_clear}
use Rattle.layout_tuner.specs.Knows.{Ask, UserView, seen_in, first_spots, retiles}

-- a page of the table, and a layout that a page with chunks can have
pub record CanBePartitioned (shape : Shape) (page layout : ℕ) : Type 0 where
  pub inside : page < shape.pages
  pub least : 1 ≤ layout
  pub most : layout ≤ 5

-- The user asked for the first so many places of a page in rising order, each once, and won each. Each word that it found has this layout and
-- generation.
pub record WinsFirst (page count layout generation : ℕ) (old new : UserView) : Type 0 where
  pub asks : List Ask
  pub many : length asks ≡ count
  pub each : (k : ℕ) (ask : Ask) → At asks k ask → (ask.page ≡ page) × (ask.place ≡ k) × (is_clear ask.found k ≡ true)
      × (layout_in ask.found ≡ layout) × (generation_in ask.found ≡ generation)
  pub asked : new.asked ≡ old.asked ++ asks
  pub claimed : new.claimed ≡ old.claimed ++ first_spots page count
  -- it had claimed none of them
  pub fresh : (place : ℕ) → place < count → times (spot page place) old.claimed ≡ 0
  pub held : new.held ≡ old.held
  pub completed : new.completed ≡ old.completed
  pub retiled : new.retiled ≡ old.retiled
  pub seen : 0 < count → seen_in page new.sights ≡ (layout, generation)
  pub elsewhere : (other : ℕ) → other ≢ page → seen_in other new.sights ≡ seen_in other old.sights
  pub sights : new.sights ≡ replicate count (record { page = page; layout = layout; generation = generation }) ++ old.sights

-- All that the user had it has again, and it has nothing else.
pub record GivesBack (old new : UserView) : Type 0 where
  pub claimed : new.claimed ≡ old.claimed
  pub held : new.held ≡ old.held
  pub completed : new.completed ≡ old.completed
  pub retiled : new.retiled ≡ old.retiled

-- The user won all chunks of a page, and partitioned it anew.
pub record Partitions (page layout : ℕ) (old new : UserView) : Type 0 where
  pub old_layout : ℕ
  pub generation : ℕ
  pub between : UserView
  pub wins : WinsFirst page (chunks_of old_layout) old_layout generation old between
  pub some : 0 < chunks_of old_layout
  pub unworn : generation < LAST_GENERATION
  pub new_is : new ≡ retiles between page layout (chunks_of layout) (generation + 1)

-- This page was partitioned anew, and none of its chunks was handed out.
pub record Retiles (page layout : ℕ) (tile : TunePage) (old new : UserView) : Type 0 where
  pub partitions : Partitions page layout old new
  pub page_is : tile.page ≡ page
  pub none_handed : tile.handed ≡ 0
  pub chunks_are : tile.chunks ≡ chunks_of layout

-- The first so many chunks of a page, which were claimed last, were given back.
pub record GivesFirst (page count : ℕ) (old new : UserView) : Type 0 where
  pub claimed : (kept : List ℕ) → old.claimed ≡ kept ++ first_spots page count → ((place : ℕ) → place < count → times (spot page place) kept ≡ 0) → new.claimed ≡ kept
  pub asked : new.asked ≡ old.asked
  pub held : new.held ≡ old.held
  pub completed : new.completed ≡ old.completed
  pub retiled : new.retiled ≡ old.retiled
  pub sights : new.sights ≡ old.sights

-- The user won the first places of a page, and then found one claimed in this word, which is a chunk of the layout in the word. It gave back
-- what it had won.
pub record FindsBusy (page word : ℕ) (old new : UserView) : Type 0 where
  pub place : ℕ
  pub layout : ℕ
  pub generation : ℕ
  pub between : UserView
  pub wins : WinsFirst page place layout generation old between
  pub taken : is_clear word place ≡ false
  pub inside : place < chunks_of (layout_in word)
  pub asked : new.asked ≡ between.asked ++ record { page = page; place = place; found = word } ∷ []
  pub sights : new.sights ≡ between.sights
  pub back : GivesBack old new

-- The user won all chunks of a page, whose generation is the last one. It gave them back.
pub record FindsWorn (page : ℕ) (old new : UserView) : Type 0 where
  pub layout : ℕ
  pub between : UserView
  pub wins : WinsFirst page (chunks_of layout) layout LAST_GENERATION old between
  pub some : 0 < chunks_of layout
  pub asked : new.asked ≡ between.asked
  pub sights : new.sights ≡ between.sights
  pub back : GivesBack old new

-- the cause of a refusal
abbrev pub Refuses : ℕ → TuneFault → UserView → UserView → Type 0
Refuses page (Busy word) old new = FindsBusy page word old new
Refuses page Worn old new = FindsWorn page old new

-- how many steps a refusal takes at most: two for each chunk of the page
abbrev pub most_steps : TuneFault → UserView → UserView → ℕ
most_steps (Busy word) old new = 2 * chunks_of (layout_in word)
most_steps Worn old new = 2 * (length new.asked - length old.asked)
