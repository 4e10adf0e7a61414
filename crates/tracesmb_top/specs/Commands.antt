-- What a command does with what it is given: the line that refuses it, or the bytes that are written.
use Rattle.std.specs.Prelude.{◌≡◌, ℕ, ◌≤◌, List, [], Option, Some, None, Result, Ok, Err, length, IfSome}
use Rattle.byte_io.specs.Bytes.{Intake, after_told, Faulted, TakesPart}
use Rattle.trace_base.specs.declared.limits.TheConstants.{MAX_INPUT}
use Rattle.trace_summary.specs.Counts.{IsSummaryOf}
use Rattle.workload_gen.specs.Workload.{workload}
use Rattle.command_words.specs.declared.command.Command.{Command}
use Rattle.command_words.specs.declared.command.Command.TheVariants.{Replay, Run, Read, Check, Gen, Stream, Clone, Tune}
use Rattle.tracesmb_top.specs.declared.report.Report.{Report}
use Rattle.tracesmb_top.specs.declared.commands.CommandFault.{CommandFault}
use Rattle.tracesmb_top.specs.declared.commands.CommandFault.TheVariants.{OutOfMemory, Refused, WriteFault, Stalled}
use Rattle.tracesmb_top.specs.Checked.{IsChecked, IsCheckRefusal}
use Rattle.tracesmb_top.specs.Cloned.{IsCloned, IsClonedShort, IsCloneStalled, report_of}
use Rattle.tracesmb_top.specs.Refusals.{refusal_of, IsTraceRefusal}
use Rattle.tracesmb_top.specs.Replayed.{IsReplayed, IsStalled, IsCutShort}
use Rattle.tracesmb_top.specs.Ran.{IsRanBy, IsRanShort}
use Rattle.tracesmb_top.specs.Streamed.{IsStreamed, IsStreamedShort, IsStreamRefusal, PlaysFront, PlaysStream, RefusesDivided}
use Rattle.tracesmb_top.specs.Tuned.{IsTuned}
use Rattle.tracesmb_top.specs.Words.{ReadsInput, LeavesReport}

-- a command that reads the input is given all of it, where the input tells what it has
abbrev pub IsGiven : Command → Option (List ℕ) → List ℕ → Type 0
IsGiven command left given = ReadsInput command → IfSome left (λ told. given ≡ told)

-- The line says why the command refuses what it was given: `replay`, `run` and `clone`, because of a scenario's first fault, or else of its
-- first line that isn't for the command; `read`, because of a trace's; `check`, because of its scenario's or its trace's, or since it has no
-- trace; `stream`, because of its text's or its frames', or since it has no stream.
abbrev pub Refuses : Command → List ℕ → List ℕ → Type 0
Refuses Replay given line = refusal_of Replay given ≡ Some line
Refuses Run given line = refusal_of Run given ≡ Some line
Refuses Clone given line = refusal_of Clone given ≡ Some line
Refuses Read given line = IsTraceRefusal given line
Refuses Check given line = IsCheckRefusal given line
Refuses Stream given line = IsStreamRefusal given line
Refuses other given line = ⊥

-- The bytes are what a command that leaves no report writes for what it was given: `read`, the summary of a trace; `check`, the verdict
-- on a trace by a scenario; `gen`, the workload of its numbers; `tune`, the lines of a run of its users.
abbrev pub Writes : Command → List ℕ → List ℕ → Type 0
Writes Read given bytes = IsSummaryOf given bytes
Writes (Gen number writers packets) given bytes = bytes ≡ workload number writers packets
Writes (Tune users turns) given bytes = IsTuned users turns bytes
Writes Check given bytes = IsChecked given bytes
Writes Replay given bytes = ⊥
Writes Run given bytes = ⊥
Writes Clone given bytes = ⊥
Writes Stream given bytes = ⊥

-- the trace took these bytes, and nothing else
pub record WroteBytes (command : Command) (given : List ℕ) (old new : Intake) : Type 0 where
  pub bytes : List ℕ
  pub writes : Writes command given bytes
  pub taken : new ≡ after_told old bytes

-- the trace took a front part of them
pub record WroteFront (command : Command) (given : List ℕ) (old new : Intake) : Type 0 where
  pub bytes : List ℕ
  pub writes : Writes command given bytes
  pub part : TakesPart old new bytes

-- The trace took all that the command writes, and nothing else, and this is its report: for `replay`, `run` and `clone`, by the delivery
-- theorem, and for `stream`, by the history of its frames. No other command has one.
abbrev pub Wrote : Command → (given : List ℕ) → (old new : Intake) → (report : List ℕ) → Type 0
Wrote Replay given old new report = IsReplayed given old new report
Wrote Run given old new report = IsRanBy given old new report
Wrote Clone given old new report = IsCloned given old new report
Wrote Stream given old new report = IsStreamed given old new report
Wrote other given old new report = WroteBytes other given old new × (report ≡ [])

-- The trace took a front part of what the command writes.
abbrev pub WrotePart : Command → (given : List ℕ) → (old new : Intake) → Type 0
WrotePart Replay given old new = IsCutShort given old new
WrotePart Run given old new = IsRanShort given old new
WrotePart Clone given old new = IsClonedShort given old new
WrotePart Stream given old new = IsStreamedShort given old new
WrotePart other given old new = WroteFront other given old new

-- a writer stalled in the replay: under `replay` the trace took the records of the reads before, and under `clone` nothing
abbrev pub HasStalled : Command → (given : List ℕ) → (writer : ℕ) → (old new : Intake) → Type 0
HasStalled Replay given writer old new = IsStalled given writer old new
HasStalled Clone given writer old new = IsCloneStalled given writer old new
HasStalled other given writer old new = ⊥

-- The command can do with an input that has so much left: the input tells it, it isn't too long, and no line refuses it.
pub record Accepts (command : Command) (left : Option (List ℕ)) : Type 0 where
  pub told : List ℕ
  pub left_is : left ≡ Some told
  pub short : length told ≤ MAX_INPUT
  pub unrefused : (line : List ℕ) → Refuses command told line → ⊥

-- What the trace took of a command that was given this and ended so, and what it leaves for its report; memory is free to run out,
-- before the first byte.
abbrev pub Ended : Command → List ℕ → Result (Option Report) CommandFault → Intake → Intake → Type 0
Ended command given (Ok None) old new = Wrote command given old new []
Ended command given (Ok (Some report)) old new = LeavesReport command × Wrote command given old new (report_of report)
Ended command given (Err OutOfMemory) old new = new ≡ old
Ended command given (Err (Refused refusal)) old new = Refuses command given refusal.items × (new ≡ old)
Ended command given (Err (Stalled writer)) old new = HasStalled command given writer old new
Ended command given (Err WriteFault) old new = WrotePart command given old new

-- The same of a text and the stream behind it.
abbrev pub EndsDivided : (text stream : List ℕ) → Result (Option Report) CommandFault → Intake → Intake → Type 0
EndsDivided text stream (Ok None) old new = ⊥
EndsDivided text stream (Ok (Some report)) old new = PlaysStream text stream old new (report_of report)
EndsDivided text stream (Err OutOfMemory) old new = new ≡ old
EndsDivided text stream (Err (Refused refusal)) old new = RefusesDivided text stream refusal.items × (new ≡ old)
EndsDivided text stream (Err (Stalled writer)) old new = ⊥
EndsDivided text stream (Err WriteFault) old new = PlaysFront text stream old new

-- the trace's faults rose where a command ended because of them, and nowhere else
abbrev pub CountsWrites : Result (Option Report) CommandFault → ℕ → ℕ → Type 0
CountsWrites (Err WriteFault) old new = (old ≤ new) × Faulted old new
CountsWrites other old new = new ≡ old
