-- What the turns of a user are, and what they come to, by what the user found in each.
use Rattle.std.specs.Prelude.{◌≡◌, ℕ, zero, suc, ◌+◌, ◌*◌, ◌%◌, ◌≤◌, ◌==◌, [], length, if◌then◌else◌, MatchBool}
use Rattle.layout_tuner.specs.declared.table.TuneTable.{TuneTable}
use Rattle.layout_tuner.specs.declared.tokens.TuneFault.{TuneFault}
use Rattle.layout_tuner.specs.PageWords.{spot}
use Rattle.layout_tuner.specs.Knows.{UserView, begins, completes}
use Rattle.layout_tuner.specs.Claiming.{AsksInVain, ClaimsFirst}
use Rattle.layout_tuner.specs.Retiling.{Partitions, Refuses}
use Rattle.tune_run.specs.declared.turns.TheConstants.{MAX_TURNS}
use Rattle.tune_run.specs.declared.counts.Deed.{Deed}
use Rattle.tune_run.specs.declared.counts.Deed.TheVariants.{Completed, FoundNone, Partitioned, Refused}
use Rattle.tune_run.specs.declared.counts.UserCounts.{UserCounts}
use Rattle.tune_run.specs.Counts.{no_counts, counted}

-- a table of four pages, and how many turns its users take
pub record MayTurn (table : TuneTable) (turns : ℕ) : Type 0 where
  pub four : table.shape.pages ≡ 4
  pub some : 1 ≤ turns
  pub most : turns ≤ MAX_TURNS

-- the user has claimed and holds no chunk
pub record IsFree (view : UserView) : Type 0 where
  pub claimed : view.claimed ≡ []
  pub held : view.held ≡ []

-- a chunk was claimed, begun and completed
pub record CompletesOne (old new : UserView) : Type 0 where
  pub page : ℕ
  pub place : ℕ
  pub between : UserView
  pub claims : ClaimsFirst page place old between
  pub new_is : new ≡ completes (begins between (spot page place)) (spot page place)

-- a page was partitioned anew, and its chunks were given back
pub record PartitionsOne (page layout : ℕ) (old new : UserView) : Type 0 where
  pub between : UserView
  pub partitions : Partitions page layout old between
  pub new_is : new ≡ record between { claimed = [] }

-- a page wasn't partitioned anew, for one of the causes of a refusal
pub record RefusesOne (page : ℕ) (old new : UserView) : Type 0 where
  pub fault : TuneFault
  pub refuses : Refuses page fault old new

-- a turn that claims, in a table of so many pages
abbrev pub DoesClaim : (pages : ℕ) → Deed → UserView → UserView → Type 0
DoesClaim pages Completed old new = CompletesOne old new
DoesClaim pages FoundNone old new = AsksInVain (14 * pages) old new
DoesClaim pages _ old new = ⊥

-- a turn that partitions a page anew
abbrev pub DoesRetile : (page layout : ℕ) → Deed → UserView → UserView → Type 0
DoesRetile page layout Partitioned old new = PartitionsOne page layout old new
DoesRetile page layout Refused old new = RefusesOne page old new
DoesRetile page layout _ old new = ⊥

-- Users and turns count from 1. In each third turn a user partitions a page anew, and users and turns go through pages and layouts; in the
-- others it claims.
abbrev pub DoesTurn : (pages user turn : ℕ) → Deed → UserView → UserView → Type 0
DoesTurn pages user turn deed old new =
    MatchBool ((user + turn) % 3 == 0) (DoesRetile (turn % 4) ((turn + user) % 5 + 1) deed old new) (DoesClaim pages deed old new)

-- the first so many turns of a user, and how often they came to what
abbrev pub TakesTurns : (pages user turns : ℕ) → UserView → UserView → UserCounts → Type 0
TakesTurns pages user zero old new counts = (new ≡ old) × (counts ≡ no_counts)
TakesTurns pages user (suc turns) old new counts = (between : UserView) × (before : UserCounts) × (deed : Deed)
    × TakesTurns pages user turns old between before × DoesTurn pages user (turns + 1) deed between new × (counts ≡ counted before deed)

-- how many of the first so many turns of a user partition a page anew
abbrev pub retile_turns : (user turns : ℕ) → ℕ
retile_turns user zero = 0
retile_turns user (suc turns) = if (user + (turns + 1)) % 3 == 0 then retile_turns user turns + 1 else retile_turns user turns

-- What a step of turns makes of a view whose user has nothing: so many chunks were completed, and so many pages partitioned anew.
pub record Leaves (completed retiled : ℕ) (old new : UserView) : Type 0 where
  pub free : IsFree new
  pub completed_is : length new.completed ≡ length old.completed + completed
  pub retiled_is : length new.retiled ≡ length old.retiled + retiled

-- what the counts of so many turns add up to
pub record AddsUp (user turns : ℕ) (counts : UserCounts) (old new : UserView) : Type 0 where
  pub leaves : Leaves counts.claimed counts.retiled old new
  pub claims : counts.claimed + counts.none + retile_turns user turns ≡ turns
  pub retiles : counts.retiled + counts.refused ≡ retile_turns user turns
