-- What becomes of a text that is a scenario where it is run on threads.
use Rattle.std.specs.Prelude.{◌≡◌, ℕ, ◌⊎◌, List, Result, Ok, Err}
use Rattle.byte_io.specs.Bytes.{Intake, after_told, IsGrown, TakesPart}
use Rattle.loss_report.specs.declared.counts.Done.{Done}
use Rattle.command_words.specs.declared.command.Command.TheVariants.{Run}
use Rattle.scenario_text.specs.Scenario.{Parts}
use Rattle.replay_host.specs.declared.fault.HostFault.{HostFault}
use Rattle.replay_host.specs.declared.fault.HostFault.TheVariants as stops
use Rattle.run_model.specs.Runs.{FailsRun, Runs}
use Rattle.thread_host.specs.Finishing.{HasRun}
use Rattle.tracesmb_top.specs.Refusals.{IsFor}

-- ---- what a run does

-- The text is a scenario for threads, and was run to its end: the trace took the records of the account that its threads led to, and
-- nothing else, and these bytes are its report. The delivery theorem is in `Runs`.
pub record IsRanBy (text : List ℕ) (old new : Intake) (report : List ℕ) : Type 0 where
  pub parts : Parts
  pub for_threads : IsFor Run text parts
  pub runs : Runs parts old new report

-- The trace took a front part of what a run writes that came to its end, or of what one writes up to a write that fails: in both the
-- records are faithful, and in the second a front part of one more record may stand behind them, which is faithful with them.
pub record TakesSomeRun (scenario : Parts) (old new : Intake) : Type 0 where
  pub bytes : List ℕ
  pub would : ((report : List ℕ) × Runs scenario old (after_told old bytes) report) ⊎ FailsRun scenario old (after_told old bytes)
  pub part : TakesPart old new bytes

-- The text is a scenario for threads, and the trace took a front part of what its run writes.
pub record IsRanShort (text : List ℕ) (old new : Intake) : Type 0 where
  pub parts : Parts
  pub for_threads : IsFor Run text parts
  pub takes : TakesSomeRun parts old new

-- ---- a trace that gathers short writes into long ones

-- What was run was handed to the trace, but for the bytes that still wait; after a fault of the trace, some of it was. No writer ends
-- stalled.
abbrev pub GathersRun : Parts → Result Done HostFault → (old new : Intake) → (waits : List ℕ) → Type 0
GathersRun scenario (Ok done) old new waits = HasRun scenario old (after_told new waits) done × IsGrown old new
GathersRun scenario (Err stops.OutOfMemory) old new waits = new ≡ old
GathersRun scenario (Err stops.WriteFault) old new waits = TakesSomeRun scenario old new
GathersRun scenario (Err (stops.Stalled writer)) old new waits = ⊥

-- what was handed on of a run in the end
abbrev pub HandsRun : Parts → Result Done HostFault → (old new : Intake) → Type 0
HandsRun scenario (Ok done) old new = HasRun scenario old new done
HandsRun scenario (Err stops.OutOfMemory) old new = new ≡ old
HandsRun scenario (Err stops.WriteFault) old new = TakesSomeRun scenario old new
HandsRun scenario (Err (stops.Stalled writer)) old new = ⊥
