-- What a table keeps between any two atomic steps of any seats: its page words show a world in which each place is owned in parts, and each
-- seat's view is its part of that world.
use Rattle.std.specs.Prelude.{◌≡◌, ℕ, ◌+◌, ◌*◌, ◌<◌, ◌≤◌, List, [], length, slice_index_or}
use Rattle.std.specs.Int.{bit_at}
use Rattle.atomic_table.specs.Table.{State}
use Rattle.page_geometry.specs.declared.page_word.TheConstants.{CLAIM_BIT}
use Rattle.chunk_plain.specs.Views.{At}
use Rattle.chunk_plain.specs.Owned.{times}
use Rattle.layout_tuner.specs.declared.table.Shape.{Shape}
use Rattle.layout_tuner.specs.PageWords.{line, layout_in, generation_in}
use Rattle.layout_tuner.specs.Knows.{UserView, newcomer, new_collector, Watch, Nothing, Full, Knows, Spent, User, Collector, Report}
use Rattle.layout_tuner.specs.World.{Status, Complete, low_of, high_of, claim_of, waits_of, World, IsOwned}

-- a page word shows how its page is laid out, and who has its places
pub record ShowsPage (word layout generation : ℕ) (places : ℕ → Status) : Type 0 where
  pub low : (place : ℕ) → place < 14 → bit_at word (2 * place) ≡ low_of (places place)
  pub high : (place : ℕ) → place < 14 → bit_at word (2 * place + 1) ≡ high_of (places place)
  pub claim : (place : ℕ) → place < 14 → bit_at word (CLAIM_BIT + place) ≡ claim_of (places place)
  pub layout_is : layout_in word ≡ layout
  pub spare : bit_at word 31 ≡ 0
  pub generation_is : generation_in word ≡ generation

-- Who sits where: the seat of each user and the collector's, how many users' seats were made, and how many of these came back.
pub record Roll : Type 0 where
  pub seats : ℕ → ℕ
  pub server : ℕ
  pub made : ℕ
  pub joined : ℕ

-- what the collector found complete is so still
abbrev pub IsWatched : World → Watch → Type 0
IsWatched world Nothing = Unit {0}
IsWatched world (Full page place) = world.status page place ≡ Complete

-- these are the views of the first users
pub record HasJoined (world : World) (roll : Roll) (joined : List UserView) : Type 0 where
  pub count : length joined ≡ roll.joined
  pub each : (user : ℕ) (view : UserView) → At joined user view → view ≡ world.users user

-- a seat knows its part of the world
abbrev pub Fits : World → Roll → ℕ → Knows → Type 0
Fits world roll seat Spent = Unit {0}
Fits world roll seat (User number view) = (view ≡ world.users number) × (roll.seats number ≡ seat) × (number < roll.made) × (roll.joined ≤ number)
Fits world roll seat (Collector made joined watch view) =
    (view ≡ world.collector) × (roll.server ≡ seat) × (roll.made ≡ made) × HasJoined world roll joined × IsWatched world watch
Fits world roll seat (Report number completed) = (at : ℕ) → times at completed ≤ times at (world.users number).completed

-- each user and the collector have one seat, which knows its part of the world
pub record IsManned (users : ℕ) (world : World) (roll : Roll) (views : List Knows) : Type 0 where
  pub most : roll.made ≤ users
  pub least : roll.joined ≤ roll.made
  -- a user whose seat isn't made yet has done nothing
  pub fresh : (user : ℕ) → roll.made ≤ user → world.users user ≡ newcomer
  pub seated : (user : ℕ) → roll.joined ≤ user → user < roll.made → At views (roll.seats user) (User user (world.users user))
  pub staffed : (joined : List UserView) × (watch : Watch) × At views roll.server (Collector roll.made joined watch world.collector)
  pub each : (seat : ℕ) (knows : Knows) → At views seat knows → Fits world roll seat knows

-- the rule of a table
pub record IsTuned (shape : Shape) (state : State ℕ Knows) : Type 0 where
  pub world : World
  pub roll : Roll
  pub words : length state.words ≡ line shape.pages
  pub shows : (page : ℕ) → page < shape.pages
      → ShowsPage (slice_index_or state.words (line page) 0) (world.layouts page) (world.generations page) (world.status page)
  pub owned : IsOwned shape.users world
  -- there are no more pages
  pub unused : (page : ℕ) → shape.pages ≤ page → world.generations page ≡ 0
  pub untouched : (page place : ℕ) → shape.pages ≤ page → waits_of (world.status page place) ≡ 0
  pub manned : IsManned shape.users world roll state.views

-- the collector's seat, which is there first: it makes the others
abbrev pub first_of : Shape → Knows
first_of shape = Collector 0 [] Nothing new_collector
