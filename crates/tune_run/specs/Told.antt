-- Users that have taken their turns and told the collector what they completed, and what a run comes to.
use Rattle.std.specs.Prelude.{◌≡◌, ℕ, ◌+◌, ◌<◌, ◌≤◌, List, [], length, vec_capacity, slice_index_or}
use Rattle.chunk_plain.specs.Views.{At}
use Rattle.layout_tuner.specs.declared.table.TuneTable.{TuneTable}
use Rattle.layout_tuner.specs.declared.seats.TuneSeat.{TuneSeat}
use Rattle.layout_tuner.specs.PageWords.{layout_in, generation_in}
use Rattle.layout_tuner.specs.Knows.{newcomer, CollectView, told_by}
use Rattle.layout_tuner.specs.World.{total}
use Rattle.layout_tuner.specs.Closed.{IsUnused}
use Rattle.layout_tuner.specs.Sits.{Sits, known_by}
use Rattle.tune_run.specs.declared.counts.UserCounts.{UserCounts}
use Rattle.tune_run.specs.declared.run.Room.{Room}
use Rattle.tune_run.specs.declared.run.TuneReport.{TuneReport}
use Rattle.tune_run.specs.Turns.{IsFree, TakesTurns}
use Rattle.tune_run.specs.Jobs.{CountsTurns, count_at}

-- nothing yet, and room for what becomes of so many users
pub record HasRoom (users : ℕ) (room : Room) : Type 0 where
  pub no_counts : room.counts.items ≡ []
  pub no_seats : room.seats.items ≡ []
  pub counts : users ≤ vec_capacity room.counts
  pub seats : users ≤ vec_capacity room.seats

-- The seat of the user with this number, counted from 0, whose turns come to these counts, and which told all that it completed.
pub record HasToldAll (table : TuneTable) (turns user : ℕ) (collector : CollectView) (counts : UserCounts) (seat : TuneSeat) : Type 0 where
  pub number : seat.number ≡ user
  pub sits : Sits table seat
  pub free : IsFree (known_by seat)
  pub turns_are : TakesTurns table.shape.pages (user + 1) turns newcomer (known_by seat) counts
  pub told : told_by user collector.told ≡ (known_by seat).completed

-- so many users, in their order
pub record HaveTold (table : TuneTable) (turns count : ℕ) (collector : CollectView) (counts : List UserCounts) (seats : List TuneSeat) : Type 0 where
  pub seats_are : length seats ≡ count
  pub counts_are : length counts ≡ count
  pub each : (user : ℕ) (seat : TuneSeat) → At seats user seat → HasToldAll table turns user collector (count_at counts user) seat

-- The numbers that a run of so many users comes to have these sums: of each user claims and claims in vain together, and retiles and refusals
-- together, are its turns of each kind; as many chunks were collected as all users claimed; and the words of the four pages count together all
-- users' retiles. No chunk is used, and a page that no user gave another layout has 14 chunks.
pub record IsReport (users turns : ℕ) (report : TuneReport) : Type 0 where
  pub many : length report.users.items ≡ users
  pub pages : length report.words.items ≡ 4
  pub counted : (user : ℕ) → user < users → CountsTurns (user + 1) turns (count_at report.users.items user)
  pub taken : total users (λ user. (count_at report.users.items user).claimed) ≡ report.taken
  pub retiled : total 4 (λ page. generation_in (slice_index_or report.words.items page 0)) ≡ total users (λ user. (count_at report.users.items user).retiled)
  pub first : (page : ℕ) → page < 4 → generation_in (slice_index_or report.words.items page 0) ≡ 0
      → layout_in (slice_index_or report.words.items page 0) ≡ 5
  pub unused : (page : ℕ) → page < 4 → IsUnused (slice_index_or report.words.items page 0)
