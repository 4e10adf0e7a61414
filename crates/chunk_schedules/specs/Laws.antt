-- The laws of schedules that hold on each table of chunks, whatever is read from it.
use Rattle.std.specs.Prelude.{◌≡◌, ◌⊎◌, ℕ, ◌<◌, ◌≤◌, true, false, List, [], ◌∷◌, ◌++◌, length, take}
use Rattle.chunk_plain.specs.Setup.{Setup, sequence_of}
use Rattle.chunk_plain.specs.Views.{At, Ask, Asked, Content, Noted, Reply, taken_of}
use Rattle.chunk_plain.specs.World.{World, Reading, Unclaimed, status, writer}
use Rattle.chunk_plain.specs.Plain.{first_world}
use Rattle.chunk_plain.specs.Owned.{IsOwned, won_chunks}
use Rattle.chunk_plain.specs.Words.{is_arrival_noted}
use Rattle.chunk_schedules.specs.Moves.{Move, Claims, Answers, Requests, MayAnswer}
use Rattle.chunk_schedules.specs.Schedules.{IsSchedule}

-- No moves lead nowhere else; schedules go on one behind another; and each front of a schedule is one, which leads to a world on the way.
pub record SchedulesJoin : Type 0 where
  pub none : (setup : Setup) (world : World) → IsSchedule setup world [] world
  pub both : (setup : Setup) (old mid new : World) (moves more : List Move) → IsSchedule setup old moves mid → IsSchedule setup mid more new
      → IsSchedule setup old (moves ++ more) new
  pub front : (setup : Setup) (old new : World) (moves more : List Move) → IsSchedule setup old (moves ++ more) new
      → (mid : World) × IsSchedule setup old moves mid × IsSchedule setup mid more new

-- Whatever a schedule leads to from an owned world is owned, with as many writers and chunks. So is each world on the way, since fronts are
-- schedules.
abbrev pub SchedulesKeepOwnership : Type 0
SchedulesKeepOwnership = (setup : Setup) (old new : World) (moves : List Move) → IsOwned old → IsSchedule setup old moves new
    → IsOwned new × (length new.writers ≡ length old.writers) × (length new.chunks ≡ length old.chunks)

-- The given moves have the writer's claim with this number among them: it is the one between those before and those after, and in the world
-- to which those before lead somebody has the chunk.
pub record FindsHad (setup : Setup) (moves : List Move) (old new : World) (place number : ℕ) (ask : Ask) : Type 0 where
  pub mid : World
  pub before : List Move
  pub after : List Move
  pub moves_are : moves ≡ before ++ Claims place ask.chunk ask.found ∷ after
  pub first : IsSchedule setup old before mid
  pub then : IsSchedule setup mid (Claims place ask.chunk ask.found ∷ after) new
  pub count : length (writer mid place).asked ≡ number
  pub had : status mid ask.chunk ≡ Unclaimed → ⊥

-- Each claim in vain of a schedule is one of its moves, made where somebody had the chunk.
abbrev pub ClaimsInVainFindHad : Type 0
ClaimsInVainFindHad = (setup : Setup) (moves : List Move) (world : World) → IsSchedule setup (first_world setup) moves world
    → (place number : ℕ) (ask : Ask) → At (writer world place).asked number ask → ask.won ≡ false
    → FindsHad setup moves (first_world setup) world place number ask

-- Wherever a schedule leads, and so in each world on its way, the service reads one chunk at most.
abbrev pub AtMostOneIsRead : Type 0
AtMostOneIsRead = (setup : Setup) (moves : List Move) (world : World) → IsSchedule setup (first_world setup) moves world
    → length world.service.reading ≤ 1

-- The chunk at this position that was taken of the writer at this place is read still, or its arrival is noted.
abbrev pub IsReadOrArrived : World → (place position : ℕ) → Type 0
IsReadOrArrived world place position =
    ((chunk : ℕ) × (content : Content) × (status world chunk ≡ Reading place position content))
    ⊎ (is_arrival_noted (sequence_of place) position world.service.events ≡ true)

-- There whatever was taken and is read no longer has arrived.
abbrev pub FreedHaveArrived : Type 0
FreedHaveArrived = (setup : Setup) (moves : List Move) (world : World) → IsSchedule setup (first_world setup) moves world
    → (place position : ℕ) → position < (taken_of world.service place).count → IsReadOrArrived world place position

-- And whatever has arrived was taken.
abbrev pub ArrivedWereTaken : Type 0
ArrivedWereTaken = (setup : Setup) (moves : List Move) (world : World) → IsSchedule setup (first_world setup) moves world
    → (place position : ℕ) → is_arrival_noted (sequence_of place) position world.service.events ≡ true
    → position < (taken_of world.service place).count

-- The given moves make the request that is this letter of the service: it is the one between those before and those after, and in the world
-- to which those before lead so many events are noted, and no chunk is read.
pub record FindsRequest (setup : Setup) (moves : List Move) (old new : World) (number events : ℕ) : Type 0 where
  pub mid : World
  pub before : List Move
  pub after : List Move
  pub moves_are : moves ≡ before ++ Requests ∷ after
  pub first : IsSchedule setup old before mid
  pub then : IsSchedule setup mid (Requests ∷ after) new
  pub count : length mid.service.letters ≡ number
  pub noted : length mid.service.events ≡ events
  pub none_read : mid.service.reading ≡ []

-- Each request of a schedule is one of its moves, made behind as many events as it says, while no chunk is read.
abbrev pub RequestsAreMadeInTurn : Type 0
RequestsAreMadeInTurn = (setup : Setup) (moves : List Move) (world : World) → IsSchedule setup (first_world setup) moves world
    → (number events : ℕ) → At world.service.letters number (Asked events)
    → FindsRequest setup moves (first_world setup) world number events

-- The given moves give this answer, the writer's one with this number: it is the move between those before and those after, and in the world
-- to which those before lead the writer may answer so, and has noted as many calls as the answer says.
pub record FindsAnswer (setup : Setup) (moves : List Move) (old new : World) (place number : ℕ) (reply : Reply) : Type 0 where
  pub mid : World
  pub before : List Move
  pub after : List Move
  pub moves_are : moves ≡ before ++ Answers place reply.flush reply.chunks ∷ after
  pub first : IsSchedule setup old before mid
  pub then : IsSchedule setup mid (Answers place reply.flush reply.chunks ∷ after) new
  pub count : length (writer mid place).letters.answers ≡ number
  pub noted : length (writer mid place).calls ≡ reply.calls
  pub may : MayAnswer (writer mid place) reply.flush reply.chunks

-- Each answer of a schedule is one of its moves, made behind as many calls as it says. So a claim that was made behind as many calls or more
-- comes behind it: by then the writer has made none.
abbrev pub AnswersAreGivenInTurn : Type 0
AnswersAreGivenInTurn = (setup : Setup) (moves : List Move) (world : World) → IsSchedule setup (first_world setup) moves world
    → (place number : ℕ) (reply : Reply) → At (writer world place).letters.answers number reply
    → FindsAnswer setup moves (first_world setup) world place number reply

-- Some chunk arrived before any of the writer at this place: its arrival stands in a front of what was noted, in which none of that writer's
-- stands.
pub record ArrivesBefore (notes : List Noted) (place : ℕ) : Type 0 where
  pub before : List Noted
  pub after : List Noted
  pub notes_are : notes ≡ before ++ after
  pub other : ℕ
  pub position : ℕ
  pub arrived : is_arrival_noted (sequence_of other) position before ≡ true
  pub none_yet : (number : ℕ) → is_arrival_noted (sequence_of place) number before ≡ false

-- Where a writer claimed a chunk in vain, and the first claim that it won is a later one of the same chunk, somebody else's chunk arrived before
-- any of its own: the one whose freeing it had waited for.
abbrev pub FirstWinsFollowArrivals : Type 0
FirstWinsFollowArrivals = (setup : Setup) (moves : List Move) (world : World) → IsSchedule setup (first_world setup) moves world
    → (place i j : ℕ) (lost won : Ask) → At (writer world place).asked i lost → lost.won ≡ false
    → At (writer world place).asked j won → won.won ≡ true → lost.chunk ≡ won.chunk → i < j
    → won_chunks (take j (writer world place).asked) ≡ []
    → ArrivesBefore world.service.events place
