-- A table as it is made, and once all its seats are back.
use Rattle.std.specs.Prelude.{◌≡◌, ℕ, zero, suc, ◌+◌, ◌<◌, ◌≤◌, List, [], ◌∷◌, length, map, ◌++◌, if◌then◌else◌, nat_lt}
use Rattle.std.specs.Int.{bit_at}
use Rattle.page_geometry.specs.declared.page_word.TheConstants.{CLAIM_BIT, LAYOUT_BIT}
use Rattle.chunk_plain.specs.Views.{At}
use Rattle.chunk_plain.specs.Owned.{times}
use Rattle.layout_tuner.specs.declared.table.Shape.{Shape}
use Rattle.layout_tuner.specs.declared.table.TuneTable.{TuneTable}
use Rattle.layout_tuner.specs.declared.seats.TuneSeat.{TuneSeat}
use Rattle.layout_tuner.specs.declared.seats.CollectSeat.{CollectSeat}
use Rattle.layout_tuner.specs.PageWords.{layout_in, generation_in, chunks_of}
use Rattle.layout_tuner.specs.Knows.{UserView, newcomer, CollectView, new_collector, told_by}
use Rattle.layout_tuner.specs.World.{total, IsLaid}
use Rattle.layout_tuner.specs.Sits.{Sits, Attends, known_by, known_by_collector}

-- the seats of so many users, in their order, which have done nothing
pub record HasNewSeats (table : TuneTable) (count : ℕ) (seats : List TuneSeat) : Type 0 where
  pub count_is : length seats ≡ count
  pub each : (user : ℕ) (seat : TuneSeat) → At seats user seat → (seat.number ≡ user) × Sits table seat × (known_by seat ≡ newcomer)

-- a table of so many pages, with the seats of so many users and the collector's, which have done nothing
pub record IsNew (pages users : ℕ) (table : TuneTable) (seats : List TuneSeat) (collect : CollectSeat) : Type 0 where
  pub pages_are : table.shape.pages ≡ pages
  pub users_are : table.shape.users ≡ users
  pub has_seats : HasNewSeats table users seats
  pub attends : Attends table collect
  pub none_collected : known_by_collector collect ≡ new_collector

-- A user with nothing left to do: it has claimed and holds no chunk, and has told all that it has completed.
pub record IsDone (collector : CollectView) (user : ℕ) (view : UserView) : Type 0 where
  pub claimed : view.claimed ≡ []
  pub held : view.held ≡ []
  pub told : told_by user collector.told ≡ view.completed

-- the seats of all users, in their order, which have nothing left to do
pub record HasAllSeats (table : TuneTable) (collector : CollectView) (seats : List TuneSeat) : Type 0 where
  pub count_is : length seats ≡ table.shape.users
  pub each : (user : ℕ) (seat : TuneSeat) → At seats user seat → (seat.number ≡ user) × Sits table seat × IsDone collector user (known_by seat)

-- what a user's seat knows, by the user's number
abbrev pub view_at : List TuneSeat → ℕ → UserView
view_at [] user = newcomer
view_at (seat ∷ seats) zero = known_by seat
view_at (seat ∷ seats) (suc user) = view_at seats user

-- no chunk of the page is used: all state bits and bit 31 are clear, and of the claim bits just those of places that are no chunks are set
pub record IsUnused (word : ℕ) : Type 0 where
  pub layout_least : 1 ≤ layout_in word
  pub layout_most : layout_in word ≤ 5
  pub spare : bit_at word 31 ≡ 0
  pub states : (bit : ℕ) → bit < LAYOUT_BIT → bit_at word bit ≡ 0
  pub claims : (place : ℕ) → place < 14 → bit_at word (CLAIM_BIT + place) ≡ (if nat_lt place (chunks_of (layout_in word)) then 0 else 1)

-- What is known of a table whose seats are all back, by the word that each page has then: no chunk is used; of each place as many chunks were
-- taken as completed, and so in all; each generation counts how often users partitioned the page anew, and so in all; and each page is laid out
-- as users saw it at its generation.
pub record IsClosed (shape : Shape) (seats : List TuneSeat) (collector : CollectView) (word : ℕ → ℕ) : Type 0 where
  pub unused : (page : ℕ) → page < shape.pages → IsUnused (word page)
  pub taken : (at : ℕ) → total shape.users (λ user. times at (view_at seats user).completed) ≡ times at collector.taken
  pub all_taken : total shape.users (λ user. length (view_at seats user).completed) ≡ length collector.taken
  pub generations : (page : ℕ) → page < shape.pages → generation_in (word page) ≡ total shape.users (λ user. times page (view_at seats user).retiled)
  pub laid : (page : ℕ) → page < shape.pages → IsLaid shape.users (λ user. view_at seats user) page (layout_in (word page)) (generation_in (word page))
  pub all_retiled : total shape.pages (λ page. generation_in (word page)) ≡ total shape.users (λ user. length (view_at seats user).retiled)

-- the views of the seats
abbrev pub views_of : List TuneSeat → List UserView
views_of seats = map (λ (seat : TuneSeat). known_by seat) seats

-- the views of seats that came back, and one more
abbrev pub with_view : List UserView → UserView → List UserView
with_view views view = views ++ view ∷ []
