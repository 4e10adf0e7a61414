-- Schedules: any list of moves, by writers and the service in any order, of which each is possible where it stands.
use Rattle.std.specs.Prelude.{◌≡◌, ℕ, ◌==◌, false, List, [], ◌∷◌}
use Rattle.chunk_plain.specs.Setup.{Setup}
use Rattle.chunk_plain.specs.Views.{At}
use Rattle.chunk_plain.specs.World.{World}
use Rattle.chunk_plain.specs.Plain.{first_world}
use Rattle.chunk_schedules.specs.Moves.{Move, Commits, MayMove, behind}

-- the moves lead from one world to another, on a table with this set-up
abbrev pub IsSchedule : Setup → World → List Move → World → Type 0
IsSchedule setup old [] new = new ≡ old
IsSchedule setup old (move ∷ moves) new = MayMove setup old move × IsSchedule setup (behind old move) moves new

-- no image of the sequence comes by a commit
abbrev pub CommitsNone : (sequence : ℕ) → List Move → Type 0
CommitsNone sequence [] = Unit {0}
CommitsNone sequence (Commits committed ∷ moves) = ((committed.image.sequence == sequence) ≡ false) × CommitsNone sequence moves
CommitsNone sequence (_ ∷ moves) = CommitsNone sequence moves

-- some moves lead from one world to another
abbrev pub Leads : Setup → World → World → Type 0
Leads setup old new = ∥ ((moves : List Move) × IsSchedule setup old moves new) ∥₁

-- Moves lead to the world from a table as it is made, and from each of these worlds, by which it came.
pub record IsLed (setup : Setup) (marks : List World) (world : World) : Type 0 where
  pub reached : Leads setup (first_world setup) world
  pub marked : (i : ℕ) (mark : World) → At marks i mark → Leads setup mark world
