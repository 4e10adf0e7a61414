-- What the rule of a table says, in the words of page words and of what seats know, between any two steps of any seats.
use Rattle.std.specs.Prelude.{◌≡◌, ℕ, ◌+◌, ◌<◌, ◌≤◌, ◌⊎◌, List, slice_index_or}
use Rattle.std.specs.Int.{bit_at}
use Rattle.atomic_table.specs.Table.{State}
use Rattle.page_geometry.specs.declared.page_word.TheConstants.{CLAIM_BIT}
use Rattle.page_geometry.specs.declared.chunk_state.ChunkState.TheVariants.{Free, BeingWritten, BeingRead, Complete}
use Rattle.page_geometry.specs.PageBits.{HasState}
use Rattle.chunk_plain.specs.Views.{At}
use Rattle.chunk_plain.specs.Owned.{times}
use Rattle.layout_tuner.specs.declared.table.Shape.{Shape}
use Rattle.layout_tuner.specs.PageWords.{spot, line, chunks_of, layout_in, generation_in}
use Rattle.layout_tuner.specs.Knows.{UserView, newcomer, CollectView, Watch, Knows, User, Collector, seen_in}
use Rattle.layout_tuner.specs.Plays.{HasPlace}
use Rattle.layout_tuner.specs.World.{total, IsLaid}
use Rattle.layout_tuner.specs.Rule.{IsTuned}

-- nobody has the place
pub record IsNobodys (users : ℕ → UserView) (collector : CollectView) (at : ℕ) : Type 0 where
  pub claimed : (user : ℕ) → times at (users user).claimed ≡ 0
  pub held : (user : ℕ) → times at (users user).held ≡ 0
  pub reading : times at collector.reading ≡ 0

-- one user has claimed it, once, and nobody else has it
pub record IsClaimedByOne (users : ℕ → UserView) (collector : CollectView) (at : ℕ) : Type 0 where
  pub user : ℕ
  pub once : times at (users user).claimed ≡ 1
  pub others : (other : ℕ) → 0 < times at (users other).claimed → other ≡ user
  pub held : (other : ℕ) → times at (users other).held ≡ 0
  pub reading : times at collector.reading ≡ 0

-- one user holds it, once, and nobody else has it
pub record IsHeldByOne (users : ℕ → UserView) (collector : CollectView) (at : ℕ) : Type 0 where
  pub user : ℕ
  pub once : times at (users user).held ≡ 1
  pub others : (other : ℕ) → 0 < times at (users other).held → other ≡ user
  pub claimed : (other : ℕ) → times at (users other).claimed ≡ 0
  pub reading : times at collector.reading ≡ 0

-- the collector has it, once, and no user has it
pub record IsReadOnce (users : ℕ → UserView) (collector : CollectView) (at : ℕ) : Type 0 where
  pub once : times at collector.reading ≡ 1
  pub claimed : (user : ℕ) → times at (users user).claimed ≡ 0
  pub held : (user : ℕ) → times at (users user).held ≡ 0

-- A page, by its word, in a table with so many users.
pub record PageOwnership (count page word : ℕ) (users : ℕ → UserView) (collector : CollectView) : Type 0 where
  pub layout_least : 1 ≤ layout_in word
  pub layout_most : layout_in word ≤ 5
  -- each chunk of the layout
  pub unclaimed : (place : ℕ) → place < chunks_of (layout_in word) → bit_at word (CLAIM_BIT + place) ≡ 0
      → HasState word place Free × IsNobodys users collector (spot page place)
  pub claimed : (place : ℕ) → place < chunks_of (layout_in word) → bit_at word (CLAIM_BIT + place) ≡ 1 → HasState word place Free
      → IsClaimedByOne users collector (spot page place)
  pub written : (place : ℕ) → place < chunks_of (layout_in word) → HasState word place BeingWritten
      → (bit_at word (CLAIM_BIT + place) ≡ 1) × IsHeldByOne users collector (spot page place)
  pub complete : (place : ℕ) → place < chunks_of (layout_in word) → HasState word place Complete
      → (bit_at word (CLAIM_BIT + place) ≡ 1) × IsNobodys users collector (spot page place)
  pub read : (place : ℕ) → place < chunks_of (layout_in word) → HasState word place BeingRead
      → (bit_at word (CLAIM_BIT + place) ≡ 1) × IsReadOnce users collector (spot page place)
  -- each place that is no chunk of it
  pub outer : (place : ℕ) → chunks_of (layout_in word) ≤ place → place < 14
      → (bit_at word (CLAIM_BIT + place) ≡ 1) × HasState word place Free × IsNobodys users collector (spot page place)
  -- a user that has a chunk of the page saw it as it is laid out
  pub seen : (user place : ℕ) → place < 14 → HasPlace (users user) page place → seen_in page (users user).sights ≡ (layout_in word, generation_in word)
  -- each page is laid out as users saw it
  pub laid : IsLaid count users page (layout_in word) (generation_in word)
  -- the generation counts how often the users partitioned the page anew
  pub generation : generation_in word ≡ total count (λ user. times page (users user).retiled)
  -- of each place as many chunks were completed as taken, and one more where it is complete
  pub waiting : (place : ℕ) → place < 14 → HasState word place Complete
      → total count (λ user. times (spot page place) (users user).completed) ≡ times (spot page place) collector.taken + 1
  pub none_waits : (place : ℕ) → place < 14 → (HasState word place Complete → ⊥)
      → total count (λ user. times (spot page place) (users user).completed) ≡ times (spot page place) collector.taken

-- the collector's seat is there, with this view
pub record HasCollector (state : State ℕ Knows) (collector : CollectView) : Type 0 where
  pub seat : ℕ
  pub made : ℕ
  pub joined : List UserView
  pub watch : Watch
  pub at : At state.views seat (Collector made joined watch collector)

-- Each page is owned in these parts, and each user and the collector have one seat at most, whose view is the one meant there. The
-- collector has one; a user that has none has done nothing, or its seat came back, and the collector's has its view.
pub record TunedOwnership (shape : Shape) (state : State ℕ Knows) : Type 0 where
  pub users : ℕ → UserView
  pub collector : CollectView
  pub pages : (page : ℕ) → page < shape.pages → PageOwnership shape.users page (slice_index_or state.words (line page) 0) users collector
  pub user_views : (seat number : ℕ) (view : UserView) → At state.views seat (User number view) → view ≡ users number
  pub one_seat : (seat other number : ℕ) (view known : UserView) → At state.views seat (User number view)
      → At state.views other (User number known) → seat ≡ other
  pub collector_view : (seat made : ℕ) (joined : List UserView) (watch : Watch) (view : CollectView)
      → At state.views seat (Collector made joined watch view) → view ≡ collector
  pub one_collector : (seat other made more : ℕ) (joined other_joined : List UserView) (watch watched : Watch) (view known : CollectView)
      → At state.views seat (Collector made joined watch view) → At state.views other (Collector more other_joined watched known)
      → seat ≡ other
  pub has_collector : HasCollector state collector
  -- a user of the table
  pub each_user : (user : ℕ) → user < shape.users
      → (users user ≡ newcomer) ⊎ ((seat : ℕ) × At state.views seat (User user (users user))) ⊎ At has_collector.joined user (users user)
  -- there are no other ones
  pub no_others : (user : ℕ) → shape.users ≤ user → users user ≡ newcomer

-- Each step is allowed by the rule alone, so this holds between any two steps of any number of threads.
abbrev pub TunedIsOwnership : Type 0
TunedIsOwnership = (shape : Shape) (state : State ℕ Knows) → IsTuned shape state → TunedOwnership shape state
