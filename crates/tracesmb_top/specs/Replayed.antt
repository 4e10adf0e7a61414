-- What becomes of a text that is a scenario where it is replayed.
use Rattle.std.specs.Prelude.{◌≡◌, ℕ, ◌⊎◌, List, Result, Ok, Err}
use Rattle.byte_io.specs.Bytes.{Intake, after_told, IsGrown, TakesPart}
use Rattle.loss_report.specs.declared.counts.Done.{Done}
use Rattle.command_words.specs.declared.command.Command.TheVariants.{Replay}
use Rattle.scenario_text.specs.Scenario.{Parts}
use Rattle.replay_model.specs.Played.{Replays}
use Rattle.replay_host.specs.declared.fault.HostFault.{HostFault}
use Rattle.replay_host.specs.declared.fault.HostFault.TheVariants as stops
use Rattle.replay_host.specs.Replaying.{HasReplayed, HasStopped}
use Rattle.tracesmb_top.specs.Refusals.{IsFor}

-- The text is a scenario, and was replayed to its end: the trace took the records of its lines and nothing else, and these bytes are its
-- report. The delivery theorem is in `Replays`: the records are faithful to what the writers emitted in whose names no line commits a chunk,
-- the report counts each packet of these once, and where chunks and bytes are enough, and no line commits any, none is missing.
pub record IsReplayed (text : List ℕ) (old new : Intake) (report : List ℕ) : Type 0 where
  pub parts : Parts
  pub for_replay : IsFor Replay text parts
  pub replays : Replays parts old new report

-- The text is a scenario, and its replay stopped where a writer stalled: the trace took the records of the reads before, and nothing else.
-- They are faithful to what the writers emit by all the lines, but to those in whose names lines commit chunks (`HasStopped`).
pub record IsStalled (text : List ℕ) (writer : ℕ) (old new : Intake) : Type 0 where
  pub parts : Parts
  pub for_replay : IsFor Replay text parts
  pub stops : HasStopped parts (stops.Stalled writer) old new

-- What the trace takes of a scenario's replay: all to its end, or all up to a stop. To its end and up to a stall these are records that are
-- faithful to what the writers emit by the lines, but to those in whose names lines commit chunks, and up to a write that failed a front
-- part of such records.
abbrev pub TakesReplay : Parts → (old new : Intake) → Type 0
TakesReplay scenario old new =
    ((report : List ℕ) × Replays scenario old new report) ⊎ ((fault : HostFault) × HasStopped scenario fault old new)

-- the trace took a front part of that
pub record TakesSome (scenario : Parts) (old new : Intake) : Type 0 where
  pub bytes : List ℕ
  pub would : TakesReplay scenario old (after_told old bytes)
  pub part : TakesPart old new bytes

-- The text is a scenario, and the trace took a front part of what its replay writes.
pub record IsCutShort (text : List ℕ) (old new : Intake) : Type 0 where
  pub parts : Parts
  pub for_replay : IsFor Replay text parts
  pub takes : TakesSome parts old new

-- ---- a trace that gathers short writes into long ones

-- What was replayed was handed to the trace, but for the bytes that still wait; after a fault of the trace, some of it was.
abbrev pub Gathers : Parts → Result Done HostFault → (old new : Intake) → (waits : List ℕ) → Type 0
Gathers scenario (Ok done) old new waits = HasReplayed scenario old (after_told new waits) done × IsGrown old new
Gathers scenario (Err stops.OutOfMemory) old new waits = new ≡ old
Gathers scenario (Err stops.WriteFault) old new waits = TakesSome scenario old new
Gathers scenario (Err (stops.Stalled writer)) old new waits = HasStopped scenario (stops.Stalled writer) old (after_told new waits)
    × IsGrown old new

-- what was handed on of a replay in the end
abbrev pub HasPlayed : Parts → Result Done HostFault → (old new : Intake) → Type 0
HasPlayed scenario (Ok done) old new = HasReplayed scenario old new done
HasPlayed scenario (Err stops.OutOfMemory) old new = new ≡ old
HasPlayed scenario (Err stops.WriteFault) old new = TakesSome scenario old new
HasPlayed scenario (Err (stops.Stalled writer)) old new = HasStopped scenario (stops.Stalled writer) old new
