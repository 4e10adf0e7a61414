-- The laws of replay.
use Rattle.std.specs.Prelude.{◌≡◌, ℕ, suc, ◌<◌, ◌≤◌, List, [], ◌++◌, length, Some, slice_get}
use Rattle.trace_model.specs.Balance.{PacketCounts}
use Rattle.trace_model.specs.Buffers.{Buffer}
use Rattle.trace_model.specs.Counts.{last_count}
use Rattle.trace_model.specs.Delivery.{IsFaithfulOf, IsComplete}
use Rattle.trace_model.specs.Packets.{packets_of, lost_count}
use Rattle.model_laws.specs.Losses.{Loses}
use Rattle.chunk_plain.specs.Plain.{first_world}
use Rattle.chunk_plain.specs.Setup.{Setup}
use Rattle.chunk_plain.specs.World.{World, writer}
use Rattle.world_model.specs.Accounts.{IsAccount}
use Rattle.scenario_text.specs.Scenario.{Parts}
use Rattle.scenario_text.specs.Accepted.{calls_asked}
use Rattle.scenario_text.specs.Limits.{IsSetUp}
use Rattle.scenario_text.specs.Emissions.{emitted_in}
use Rattle.replay_model.specs.Acts.{Act}
use Rattle.replay_model.specs.Does.{Wrote}
use Rattle.replay_model.specs.Enough.{HasEnough, IsPlayable}
use Rattle.replay_model.specs.ActNotes.{ActNote}
use Rattle.replay_model.specs.Plays.{Plays}
use Rattle.replay_model.specs.Played.{IsSetupOf, IsPlayed, buffers_of, records_in, packet_counts, AreBalanced, CountsPackets}
use Rattle.scenario_text.specs.Raws.{HasNoRaw}
use Rattle.replay_model.specs.Schedule.{schedule_of}

-- no acts lead from a world to itself
abbrev pub NothingPlaysNothing : Type 0
NothingPlaysNothing = (setup : Setup) (buffers : List Buffer) (world : World) → Plays setup buffers [] world world []

-- behind a scenario's acts each writer has cut its packets into its chunks, and kept nothing back of the newest one, unless that is lost
abbrev pub WritersWrote : Type 0
WritersWrote = (scenario : Parts) (setup : Setup) (world : World) (notes : List ActNote) → IsPlayed scenario setup world notes
    → (place : ℕ) → place < length setup.writers → Wrote setup place (writer world place)

-- and has noted what the lines ask of it, with packets lost and flushes between packets
abbrev pub WritersLose : Type 0
WritersLose = (scenario : Parts) (setup : Setup) (world : World) (notes : List ActNote) → IsPlayed scenario setup world notes
    → (place : ℕ) → Loses (calls_asked (suc place) scenario.lines) (writer world place).calls

-- What the lines lead to is an account.
abbrev pub ReplaysAreAccounts : Type 0
ReplaysAreAccounts = (scenario : Parts) (setup : Setup) (world : World) (notes : List ActNote) → IsPlayed scenario setup world notes
    → ∥ IsAccount setup world ∥₁

-- So the records that are written are faithful to the packets that the lines have writers emit, whatever is lost on the way, of each writer in
-- whose name no line commits a chunk.
abbrev pub EveryReplayIsFaithful : Type 0
EveryReplayIsFaithful = (scenario : Parts) (setup : Setup) (world : World) (notes : List ActNote) → IsPlayed scenario setup world notes
    → IsFaithfulOf (HasNoRaw scenario.lines) (emitted_in scenario) (records_in scenario setup world)

-- So are those that are written behind any front of a scenario's acts, to what all of its lines have writers emit: where a replay stops on
-- the way, it has written nothing else.
abbrev pub EveryFrontIsFaithful : Type 0
EveryFrontIsFaithful = (scenario : Parts) (setup : Setup) (done rest : List Act) (world : World) (notes : List ActNote)
    → IsSetupOf scenario setup → IsPlayable scenario → schedule_of scenario ≡ done ++ rest
    → Plays setup (buffers_of scenario setup) done (first_world setup) world notes
    → IsFaithfulOf (HasNoRaw scenario.lines) (emitted_in scenario) (records_in scenario setup world)

-- The report counts every packet of these writers once, where no more lines are there than a count can tell and each writer names a buffer.
abbrev pub EveryReportIsBalanced : Type 0
EveryReportIsBalanced = (scenario : Parts) (setup : Setup) (world : World) (notes : List ActNote) → IsPlayed scenario setup world notes
    → length scenario.lines ≤ last_count → IsSetUp scenario.buffers scenario.producers scenario.writers
    → AreBalanced scenario.lines (packet_counts scenario setup world)

-- Where chunks are enough, no writer drops or gives up a packet.
abbrev pub EnoughLosesNothing : Type 0
EnoughLosesNothing = (scenario : Parts) (setup : Setup) (world : World) (notes : List ActNote) → IsPlayed scenario setup world notes
    → IsPlayable scenario → HasEnough scenario → (place : ℕ) → place < length setup.writers
    → lost_count (packets_of (writer world place).calls) ≡ 0

-- Where chunks and bytes are enough, no packet that the lines have writers emit is missing.
abbrev pub EveryEnoughReplayIsComplete : Type 0
EveryEnoughReplayIsComplete = (scenario : Parts) (setup : Setup) (world : World) (notes : List ActNote)
    → IsPlayed scenario setup world notes
    → IsPlayable scenario → HasEnough scenario → IsComplete (emitted_in scenario) (records_in scenario setup world)

-- The report's counts of these writers are those of their packets' outcomes.
abbrev pub EveryReportCountsPackets : Type 0
EveryReportCountsPackets = (scenario : Parts) (setup : Setup) (world : World) (notes : List ActNote) → IsPlayed scenario setup world notes
    → length scenario.lines ≤ last_count → IsSetUp scenario.buffers scenario.producers scenario.writers
    → (place : ℕ) (counts : PacketCounts) → HasNoRaw scenario.lines place → slice_get (packet_counts scenario setup world) place ≡ Some counts
    → CountsPackets scenario setup world place counts
