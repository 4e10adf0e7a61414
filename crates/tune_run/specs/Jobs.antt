-- The jobs of users that run on threads of their own, and a whole run.
use Rattle.std.specs.Prelude.{◌≡◌, ℕ, ◌+◌, ◌*◌, ◌<◌, ◌≤◌, List, length, slice_index_or}
use Rattle.layout_tuner.specs.declared.table.TuneTable.{TuneTable}
use Rattle.layout_tuner.specs.Knows.{CollectView, newcomer}
use Rattle.layout_tuner.specs.Sits.{Sits, known_by}
use Rattle.tune_run.specs.declared.counts.UserCounts.{UserCounts}
use Rattle.tune_run.specs.declared.jobs.UserJob.{UserJob}
use Rattle.tune_run.specs.Counts.{no_counts}
use Rattle.tune_run.specs.Turns.{IsFree, TakesTurns, retile_turns}

-- the seat of the user with this number, counted from 0, which has done nothing
pub record IsReady (table : TuneTable) (user : ℕ) (job : UserJob) : Type 0 where
  pub few : user < 8
  pub number : job.seat.number ≡ user
  pub sits : Sits table job.seat
  pub fresh : known_by job.seat ≡ newcomer

-- the user has taken so many turns, which are those that its job counted
pub record IsPlayed (table : TuneTable) (turns user : ℕ) (job : UserJob) : Type 0 where
  pub number : job.seat.number ≡ user
  pub sits : Sits table job.seat
  pub free : IsFree (known_by job.seat)
  pub turns_are : TakesTurns table.shape.pages (user + 1) turns newcomer (known_by job.seat) job.counts

-- each user's job, in their order
abbrev pub AreReady : TuneTable → List UserJob → Type 0
AreReady table jobs = (user : ℕ) (d : UserJob) → user < length jobs → IsReady table user (slice_index_or jobs user d)

-- and each has taken so many turns
abbrev pub ArePlayed : TuneTable → (turns : ℕ) → List UserJob → Type 0
ArePlayed table turns jobs = (user : ℕ) (d : UserJob) → user < length jobs → IsPlayed table turns user (slice_index_or jobs user d)

-- In so many rounds the collector looked at each of the 56 places of the four pages once, and it took so many chunks.
pub record CollectsRounds (rounds : ℕ) (old new : CollectView) (taken : ℕ) : Type 0 where
  pub taken_is : length new.taken ≡ length old.taken + taken
  pub most : taken ≤ 56 * rounds
  pub looks : length new.looks ≡ length old.looks + 56 * rounds

-- counts of a user, which counts from 1: C and N are of the turns that claim, and R and F of those that partition a page anew
pub record CountsTurns (user turns : ℕ) (counts : UserCounts) : Type 0 where
  pub claims : counts.claimed + counts.none + retile_turns user turns ≡ turns
  pub retiles : counts.retiled + counts.refused ≡ retile_turns user turns

-- the counts of the user with this number, counted from 0
abbrev pub count_at : List UserCounts → ℕ → UserCounts
count_at counts user = slice_index_or counts user no_counts
