-- The laws of runs on threads.
use Rattle.std.specs.Prelude.{◌≡◌, ℕ, ◌<◌, ◌≤◌, false, List, [], ◌∷◌, ◌++◌, length, Some, slice_get}
use Rattle.trace_model.specs.Balance.{PacketCounts}
use Rattle.trace_model.specs.Counts.{last_count}
use Rattle.trace_model.specs.Delivery.{Delivered, IsFaithful, IsComplete}
use Rattle.chunk_plain.specs.Setup.{Setup, producer_of}
use Rattle.chunk_plain.specs.Views.{At, Ask, Asked, Content, Completed, Reply, taken_of}
use Rattle.chunk_plain.specs.World.{World, writer}
use Rattle.chunk_plain.specs.Plain.{first_world}
use Rattle.chunk_schedules.specs.Moves.{Move}
use Rattle.chunk_schedules.specs.Schedules.{IsSchedule}
use Rattle.chunk_schedules.specs.Laws.{FindsHad, FindsRequest, FindsAnswer}
use Rattle.scenario_text.specs.declared.scenario.NumberedLine.{NumberedLine}
use Rattle.scenario_text.specs.Scenario.{Parts}
use Rattle.scenario_text.specs.Limits.{IsSetUp}
use Rattle.scenario_text.specs.Emissions.{emitted_in}
use Rattle.scenario_text.specs.Raws.{HasNoRaw}
use Rattle.replay_model.specs.Enough.{HasEnough, IsPlayable}
use Rattle.replay_model.specs.Played.{records_in, packet_counts, AreBalanced, CountsPackets}
use Rattle.run_model.specs.Collected.{CollectedByLines, may_be_collected}
use Rattle.run_model.specs.Settled.{IsRun}
use Rattle.run_model.specs.Stopped.{StopsBefore, StopsInLines, StopsInEnd}
use Rattle.run_model.specs.Vain.{HasVainRounds}

-- The records of a run are faithful to the packets that the lines have writers emit, whatever is lost on the way.
abbrev pub EveryRunIsFaithful : Type 0
EveryRunIsFaithful = (scenario : Parts) (setup : Setup) (world : World) → IsRun scenario setup world
    → IsFaithful (emitted_in scenario) (records_in scenario setup world)

-- So are those of a run up to a write that failed, with the record behind them whose write that was.
abbrev pub EveryStoppedRunIsFaithful : Type 0
EveryStoppedRunIsFaithful = (scenario : Parts) (setup : Setup) (world : World) (next : Delivered) → StopsBefore scenario setup world next
    → IsFaithful (emitted_in scenario) (records_in scenario setup world ++ next ∷ [])

-- The report counts every packet once, where no more lines are there than a count can tell and the set-up is within its
-- limits.
abbrev pub EveryRunIsBalanced : Type 0
EveryRunIsBalanced = (scenario : Parts) (setup : Setup) (world : World) → IsRun scenario setup world
    → length scenario.lines ≤ last_count → IsSetUp scenario.buffers scenario.producers scenario.writers
    → AreBalanced scenario.lines (packet_counts scenario setup world)

-- Its counts are those of the packets' outcomes.
abbrev pub EveryRunCountsPackets : Type 0
EveryRunCountsPackets = (scenario : Parts) (setup : Setup) (world : World) → IsRun scenario setup world
    → length scenario.lines ≤ last_count → IsSetUp scenario.buffers scenario.producers scenario.writers
    → (place : ℕ) (counts : PacketCounts) → HasNoRaw scenario.lines place → slice_get (packet_counts scenario setup world) place ≡ Some counts
    → CountsPackets scenario setup world place counts

-- Where chunks and bytes are enough, no packet that the lines have writers emit is missing.
abbrev pub EveryEnoughRunIsComplete : Type 0
EveryEnoughRunIsComplete = (scenario : Parts) (setup : Setup) (world : World) → IsRun scenario setup world
    → IsPlayable scenario → HasEnough scenario → IsComplete (emitted_in scenario) (records_in scenario setup world)

-- While the threads run, no more chunks of a writer are taken than lines allow, where no writer of its producer asks for help: so it is in each run, whole
-- or up to a write that failed, in the reads of its lines or in those of the end.
pub record LinesTakeAtMost : Type 0 where
  pub run : (scenario : Parts) (setup : Setup) (world : World) (is : IsRun scenario setup world)
      → CollectedByLines setup scenario.lines is.before.done.stood.service
  pub in_lines : (scenario : Parts) (setup : Setup) (world : World) (next : Delivered) (stops : StopsInLines scenario setup world next)
      → CollectedByLines setup scenario.lines stops.done.stood.service
  pub in_end : (scenario : Parts) (setup : Setup) (world : World) (next : Delivered) (stops : StopsInEnd scenario setup world next)
      → CollectedByLines setup scenario.lines stops.before.done.stood.service

-- What writers completed and the service hadn't taken by the world that is marked once the threads are done stands in chunks of their own: none of
-- them is free again by then.
abbrev pub LeftAreApart : Setup → (stood world : World) → Type 0
LeftAreApart setup stood world =
    (place other position more chunk : ℕ) (content known : Content) → place < length setup.writers → other < length setup.writers
    → (taken_of stood.service place).count ≤ position → (taken_of stood.service other).count ≤ more
    → At (writer world place).begun position (Completed chunk content) → At (writer world other).begun more (Completed chunk known)
    → (place ≡ other) × (position ≡ more)

-- So it is in each run, whole or up to a write that failed, in the reads of its lines or in those of the end.
pub record LeftChunksAreApart : Type 0 where
  pub run : (scenario : Parts) (setup : Setup) (world : World) (is : IsRun scenario setup world) → LeftAreApart setup is.before.done.stood world
  pub in_lines : (scenario : Parts) (setup : Setup) (world : World) (next : Delivered) (stops : StopsInLines scenario setup world next)
      → LeftAreApart setup stops.done.stood world
  pub in_end : (scenario : Parts) (setup : Setup) (world : World) (next : Delivered) (stops : StopsInEnd scenario setup world next)
      → LeftAreApart setup stops.before.done.stood world

-- Each chunk of a producer that no line collects or scrapes, and none of whose writers asks for help, is begun once at most, by one of its writers.
abbrev pub UsesOnce : Setup → List NumberedLine → World → Type 0
UsesOnce setup lines world =
    (place other position more chunk : ℕ) (content known : Content) → place < length setup.writers → other < length setup.writers
    → may_be_collected setup lines (producer_of setup place) ≡ false → may_be_collected setup lines (producer_of setup other) ≡ false
    → At (writer world place).begun position (Completed chunk content) → At (writer world other).begun more (Completed chunk known)
    → (place ≡ other) × (position ≡ more)

-- So it is in each run, whole or up to a write that failed: no more chunks are out at once than there are.
pub record UncollectedChunksAreUsedOnce : Type 0 where
  pub run : (scenario : Parts) (setup : Setup) (world : World) → IsRun scenario setup world → UsesOnce setup scenario.lines world
  pub stopped : (scenario : Parts) (setup : Setup) (world : World) (next : Delivered) → StopsBefore scenario setup world next
      → UsesOnce setup scenario.lines world

-- Of a producer that no line collects or scrapes, and none of whose writers asks for help, a writer begins no chunk behind a loss: what it has begun
-- it had begun behind the call that lost the packet.
abbrev pub BeginsNoneBehindLosses : Setup → List NumberedLine → World → Type 0
BeginsNoneBehindLosses setup lines world =
    (place calls behind : ℕ) (loss : HasVainRounds setup place (writer world place) calls behind) → place < length setup.writers
    → may_be_collected setup lines (producer_of setup place) ≡ false
    → length (writer world place).begun ≡ length loss.front.begun

-- So it is in each run, whole or up to a write that failed.
pub record NothingIsBegunBehindLosses : Type 0 where
  pub run : (scenario : Parts) (setup : Setup) (world : World) → IsRun scenario setup world → BeginsNoneBehindLosses setup scenario.lines world
  pub stopped : (scenario : Parts) (setup : Setup) (world : World) (next : Delivered) → StopsBefore scenario setup world next
      → BeginsNoneBehindLosses setup scenario.lines world

-- Moves lead from a table as it is made to the world that is marked once the threads are done, and more moves on from it to what was done. Of all these
-- moves, one behind the other, each claim in vain is one, made where somebody had the chunk; and so are each flush request, made behind as many events as
-- it says, while no chunk was read, and each answer, given behind as many calls as it says.
abbrev pub LosesWhereHad : Setup → (stood world : World) → Type 0
LosesWhereHad setup stood world =
    ∥ ((moves more : List Move) × (other : World) × IsSchedule setup (first_world setup) moves stood × IsSchedule setup stood more other
    × (other.writers ≡ world.writers) × (other.service ≡ world.service)
    × ((place number : ℕ) (ask : Ask) → At (writer world place).asked number ask → ask.won ≡ false
    → FindsHad setup (moves ++ more) (first_world setup) other place number ask)
    × ((number events : ℕ) → At world.service.letters number (Asked events)
    → FindsRequest setup (moves ++ more) (first_world setup) other number events)
    × ((place number : ℕ) (reply : Reply) → At (writer world place).letters.answers number reply
    → FindsAnswer setup (moves ++ more) (first_world setup) other place number reply)) ∥₁

-- So it is in each run, whole or up to a write that failed, in the reads of its lines or in those of the end.
pub record LostClaimsFindHad : Type 0 where
  pub run : (scenario : Parts) (setup : Setup) (world : World) (is : IsRun scenario setup world) → LosesWhereHad setup is.before.done.stood world
  pub in_lines : (scenario : Parts) (setup : Setup) (world : World) (next : Delivered) (stops : StopsInLines scenario setup world next)
      → LosesWhereHad setup stops.done.stood world
  pub in_end : (scenario : Parts) (setup : Setup) (world : World) (next : Delivered) (stops : StopsInEnd scenario setup world next)
      → LosesWhereHad setup stops.before.done.stood world
