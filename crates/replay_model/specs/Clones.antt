-- Clones of buffers on the way of a replay: each is its buffer as it stands between two lines.
use Rattle.std.specs.Prelude.{◌≡◌, ℕ, ◌-◌, List, [], ◌∷◌, ◌++◌, map, Some, slice_get}
use Rattle.byte_io.specs.Bytes.{Intake}
use Rattle.trace_base.specs.declared.policy.WriterSpec.{WriterSpec}
use Rattle.trace_model.specs.Buffers.{Buffer}
use Rattle.trace_model.specs.Delivery.{records_of}
use Rattle.trace_model.specs.Packets.{emissions_of}
use Rattle.trace_model.specs.Tells.{Tells}
use Rattle.scenario_text.specs.declared.scenario.NumberedLine.{NumberedLine}
use Rattle.scenario_text.specs.Clones.{clones_by, clones_in, without_clones}
use Rattle.scenario_text.specs.Emissions.{emitted_in}
use Rattle.scenario_text.specs.Scenario.{Parts}
use Rattle.chunk_plain.specs.Plain.{first_world}
use Rattle.chunk_plain.specs.Setup.{Setup, sequence_of}
use Rattle.chunk_plain.specs.World.{World, writer}
use Rattle.trace_buffer.specs.Clones.{cloned}
use Rattle.buffer_clone.specs.Clones.{clone_records}
use Rattle.service_core.specs.Routing.{buffer_at}
use Rattle.replay_model.specs.Enough.{HasEnough, IsPlayable}
use Rattle.replay_model.specs.ActNotes.{ActNote}
use Rattle.replay_model.specs.Played.{IsSetupOf, Replays, buffers_of, buffers_in}
use Rattle.replay_model.specs.Plays.{Plays}
use Rattle.scenario_text.specs.Raws.{HasNoRaw}
use Rattle.replay_model.specs.Schedule.{acts_of, acts_from, last_acts, schedule_of}

-- ---- the clones

-- the buffer with this number as it is at first
abbrev pub first_of_number : Parts → Setup → (number : ℕ) → Buffer
first_of_number scenario setup number = buffer_at (buffers_of scenario setup) (number - 1)

-- The clone of the buffer with this number in a world: the buffer of the world's history, with a close of each of its open sequences behind
-- it, for a consumer to whom nothing was delivered yet.
abbrev pub clone_in : Parts → Setup → World → (number : ℕ) → Buffer
clone_in scenario setup world number = cloned (buffer_at (buffers_in scenario setup world) (number - 1))

-- The lines behind these lead from one world to another, and these are the clones that they make, in their order: each of the world that
-- stands between its line and the next one.
abbrev pub MakeClones : Parts → Setup → (before lines : List NumberedLine) → (world last : World) → List Buffer → Type 0
MakeClones scenario setup before [] world last clones = (last ≡ world) × (clones ≡ [])
MakeClones scenario setup before (line ∷ lines) world last clones =
    (next : World) × (notes : List ActNote) × (later : List Buffer)
    × Plays setup (buffers_of scenario setup) (acts_of scenario before line.what) world next notes
    × (clones ≡ map (clone_in scenario setup next) (clones_by line.what) ++ later)
    × MakeClones scenario setup (before ++ line ∷ []) lines next last later

-- What is read of the clone of the buffer with this number tells, sequence by sequence, of the packets that the sequence's writer had
-- emitted in this world, behind these lines: exact, whole, once and in order, the first one marked. None of the lines commits a chunk in
-- the writer's name.
abbrev pub CloneTells : Parts → Setup → (before : List NumberedLine) → World → (number : ℕ) → Type 0
CloneTells scenario setup before world number = (place : ℕ) (spec : WriterSpec) → slice_get scenario.writers place ≡ Some spec
    → spec.buffer ≡ number → HasNoRaw before place
    → Tells (emissions_of (writer world place).calls) (sequence_of place)
    (records_of (sequence_of place) (clone_records (clone_in scenario setup world number)))

-- ---- a replay with clones

-- The scenario was replayed as it is replayed without its lines that make clones, and these are the clones that they made, on the way to
-- the same world. In whatever world some of the lines lead to, a clone tells of what was emitted by then.
pub record ReplaysCloning (scenario : Parts) (old new : Intake) (text : List ℕ) (clones : List Buffer) : Type 0 where
  pub replays : Replays (without_clones scenario) old new text
  -- the world behind the last line, and in front of the end
  pub between : World
  pub make : MakeClones scenario replays.setup [] scenario.lines (first_world replays.setup) between clones
  pub notes : List ActNote
  pub ends : Plays replays.setup (buffers_of scenario replays.setup) (last_acts scenario) between replays.world notes
  pub tell : (before lines : List NumberedLine) (world : World) (noted : List ActNote) (number : ℕ) → scenario.lines ≡ before ++ lines
      → Plays replays.setup (buffers_of scenario replays.setup) (acts_from scenario [] before) (first_world replays.setup) world noted
      → CloneTells scenario replays.setup before world number

-- each clone is as its buffer is made
abbrev pub AreMadeFor : Parts → List Buffer → Type 0
AreMadeFor scenario clones = (setup : Setup) → IsSetupOf scenario setup → clones ≡ map (first_of_number scenario setup) (clones_in scenario.lines)

-- ---- laws

-- A line that makes a clone has no acts, asks nothing of a writer and closes nothing: the schedule, what the writers emit, and whether
-- chunks and bytes are enough are those of the scenario without these lines.
pub record ClonesAskNothing (scenario : Parts) : Type 0 where
  pub schedule : schedule_of (without_clones scenario) ≡ schedule_of scenario
  pub emitted : emitted_in (without_clones scenario) ≡ emitted_in scenario
  pub enough : HasEnough (without_clones scenario) → HasEnough scenario

-- of every scenario
abbrev pub NoCloneAsks : Type 0
NoCloneAsks = (scenario : Parts) → ClonesAskNothing scenario

-- So a scenario's replay is that of the scenario without these lines.
abbrev pub ClonesChangeNoReplay : Type 0
ClonesChangeNoReplay = (scenario : Parts) (old new : Intake) (text : List ℕ) → Replays scenario old new text → Replays (without_clones scenario) old new text

-- A clone that is made between any two lines tells of what its writers had emitted by then.
abbrev pub EveryCloneTells : Type 0
EveryCloneTells = (scenario : Parts) (setup : Setup) (before lines : List NumberedLine) (world : World) (notes : List ActNote) (number : ℕ)
    → IsSetupOf scenario setup → IsPlayable scenario → scenario.lines ≡ before ++ lines
    → Plays setup (buffers_of scenario setup) (acts_from scenario [] before) (first_world setup) world notes
    → CloneTells scenario setup before world number
