-- What a table is about: how each page is laid out, who has each place of it, and what users and the collector have done.
use Rattle.std.specs.Prelude.{◌≡◌, ◌≢◌, ℕ, zero, suc, ◌+◌, ◌<◌, ◌≤◌, ◌==◌, nat_lt, if◌then◌else◌}
use Rattle.chunk_plain.specs.Views.{At}
use Rattle.chunk_plain.specs.Owned.{times}
use Rattle.layout_tuner.specs.PageWords.{spot, chunks_of}
use Rattle.layout_tuner.specs.Knows.{Sight, UserView, newcomer, CollectView, new_collector, seen_in, told_by}

-- who has a place of a page
pub data Status : Type 0 where
  -- it is no chunk of the page's layout
  Outside : Status
  Unclaimed : Status
  Claimed : (user : ℕ) → Status
  Held : (user : ℕ) → Status
  -- nobody: it waits for the collector
  Complete : Status
  -- the collector
  Reading : Status

-- the low state bit in the page word
abbrev pub low_of : Status → ℕ
low_of (Held user) = 1
low_of Complete = 1
low_of _ = 0

-- the high state bit
abbrev pub high_of : Status → ℕ
high_of Complete = 1
high_of Reading = 1
high_of _ = 0

-- the claim bit
abbrev pub claim_of : Status → ℕ
claim_of Unclaimed = 0
claim_of _ = 1

-- how often a user's view has a place as claimed
abbrev pub claims_of : ℕ → Status → ℕ
claims_of user (Claimed other) = if other == user then 1 else 0
claims_of user _ = 0

-- how often a user's view has a place as held
abbrev pub holds_of : ℕ → Status → ℕ
holds_of user (Held other) = if other == user then 1 else 0
holds_of user _ = 0

-- how often the collector's view has a place as taken and not given back
abbrev pub reads_of : Status → ℕ
reads_of Reading = 1
reads_of _ = 0

-- how many chunks at a place were completed and not taken
abbrev pub waits_of : Status → ℕ
waits_of Complete = 1
waits_of _ = 0

-- the user has the place, claimed or held
abbrev pub IsMine : ℕ → Status → Type 0
IsMine user (Claimed other) = other ≡ user
IsMine user (Held other) = other ≡ user
IsMine user _ = ⊥

-- a function that differs at one place
abbrev pub put : {A : Type 0} → (ℕ → A) → ℕ → A → ℕ → A
put f place value other = if other == place then value else f other

-- the sum of a number for each of the first ones
abbrev pub total : ℕ → (ℕ → ℕ) → ℕ
total zero f = 0
total (suc n) f = total n f + f n

-- all of that, by the numbers of pages, places and users
pub record World : Type 0 where
  pub layouts : ℕ → ℕ
  pub generations : ℕ → ℕ
  -- of a page and a place
  pub status : ℕ → ℕ → Status
  pub users : ℕ → UserView
  pub collector : CollectView

-- the status of a place of a page that has this number of chunks, all free
abbrev pub free_place : (chunks place : ℕ) → Status
free_place chunks place = if nat_lt place chunks then Unclaimed else Outside

-- each page has 14 chunks, and nobody has done anything
abbrev pub first_world : World
first_world = record { layouts = λ _. 5; generations = λ _. 0; status = λ _ place. free_place 14 place; users = λ _. newcomer; collector = new_collector }

-- one of the first users saw a page laid out so
pub record HasSeen (count : ℕ) (users : ℕ → UserView) (sight : Sight) : Type 0 where
  pub user : ℕ
  pub inside : user < count
  pub place : ℕ
  pub at : At (users user).sights place sight

-- A page is laid out as the first users saw it: it has 14 chunks until one partitions it anew, then one saw it laid out so. None saw it
-- partitioned more often, nor so often and laid out otherwise.
pub record IsLaid (count : ℕ) (users : ℕ → UserView) (page layout generation : ℕ) : Type 0 where
  pub first : generation ≡ 0 → layout ≡ 5
  pub last : 0 < generation → HasSeen count users (record { page = page; layout = layout; generation = generation })
  pub past : (user k : ℕ) (sight : Sight) → user < count → At (users user).sights k sight → sight.page ≡ page
      → (sight.generation ≤ generation) × (sight.generation ≡ generation → sight.layout ≡ layout)

-- Who has each place, in a table with so many users. A status names one user, so that one seat at most has a place is true by the form.
pub record IsOwned (users : ℕ) (world : World) : Type 0 where
  pub claimed : (user page place : ℕ) → place < 14 → times (spot page place) (world.users user).claimed ≡ claims_of user (world.status page place)
  pub held : (user page place : ℕ) → place < 14 → times (spot page place) (world.users user).held ≡ holds_of user (world.status page place)
  pub reading : (page place : ℕ) → place < 14 → times (spot page place) world.collector.reading ≡ reads_of (world.status page place)
  -- of each place all users completed as many chunks as were taken, and one more where it waits
  pub balance : (page place : ℕ) → place < 14
      → total users (λ user. times (spot page place) (world.users user).completed) ≡ times (spot page place) world.collector.taken + waits_of (world.status page place)
  -- a page's generation counts how often users partitioned it anew
  pub generation : (page : ℕ) → total users (λ user. times page (world.users user).retiled) ≡ world.generations page
  -- a user that has a place of a page saw the page as it is laid out
  pub sights : (user page place : ℕ) → place < 14 → IsMine user (world.status page place)
      → seen_in page (world.users user).sights ≡ (world.layouts page, world.generations page)
  -- each page is laid out as users saw it
  pub laid : (page : ℕ) → IsLaid users world.users page (world.layouts page) (world.generations page)
  pub layout_least : (page : ℕ) → 1 ≤ world.layouts page
  pub layout_most : (page : ℕ) → world.layouts page ≤ 5
  -- a page's places from its number of chunks on are outside, and no other ones
  pub outside : (page place : ℕ) → chunks_of (world.layouts page) ≤ place → world.status page place ≡ Outside
  pub inside : (page place : ℕ) → place < chunks_of (world.layouts page) → world.status page place ≢ Outside
  -- what a user told it has completed
  pub told : (user at : ℕ) → times at (told_by user world.collector.told) ≤ times at (world.users user).completed
