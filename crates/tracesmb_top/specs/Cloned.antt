-- What becomes of a text that is a scenario where its clones of buffers are made and written.
use Rattle.std.specs.Prelude.{◌≡◌, ℕ, List, [], ◌∷◌, ◌++◌, length, Result, Ok, Err, codes}
use Rattle.std.specs.List.{flat_map}
use Rattle.byte_io.specs.Bytes.{Intake, untold, after_told, TakesPart}
use Rattle.trace_model.specs.Buffers.{Buffer}
use Rattle.trace_model.specs.Delivery.{trace_of}
use Rattle.buffer_clone.specs.Clones.{clone_records}
use Rattle.command_words.specs.declared.command.Command.TheVariants.{Clone}
use Rattle.loss_report.specs.Report.{lines_of}
use Rattle.scenario_text.specs.Clones.{clones_in, without_clones}
use Rattle.scenario_text.specs.Scenario.{Parts}
use Rattle.replay_model.specs.Clones.{ReplaysCloning}
use Rattle.replay_host.specs.declared.fault.HostFault.{HostFault}
use Rattle.replay_host.specs.declared.fault.HostFault.TheVariants as stops
use Rattle.replay_host.specs.Replaying.{HasStopped}
use Rattle.tune_lines.specs.Lines.{field_text}
use Rattle.tracesmb_top.specs.declared.cloning.CloneCount.{CloneCount}
use Rattle.tracesmb_top.specs.declared.report.Report.{Report}
use Rattle.tracesmb_top.specs.declared.report.Report.TheVariants.{Played, Cloned, Streamed}
use Rattle.tracesmb_top.specs.Refusals.{IsFor}
use Rattle.tracesmb_top.specs.Streamed.{stream_text}
use Rattle.loss_report.specs.Raws.{done_text}

-- ---- the lines of clones

-- `clone K buffer B delivered N`, with its line feed
unfoldable pub clone_line : (number : ℕ) → CloneCount → List ℕ
clone_line number count =
    field_text (codes "clone ") number ++ field_text (codes " buffer ") count.buffer ++ field_text (codes " delivered ") count.delivered ++ codes "\n"

-- the lines of clones, which count from 1
abbrev pub clones_text : List CloneCount → List ℕ
clones_text counts = lines_of clone_line 1 counts

-- the report of what a command left
abbrev pub report_of : Report → List ℕ
report_of (Played done) = done_text done
report_of (Cloned done clones) = done_text done ++ clones_text clones.items
report_of (Streamed done) = stream_text done

-- ---- what is read of clones

-- the traces of the clones, one behind another: each is the records of its clone, and nothing else
abbrev pub clones_trace : List Buffer → List ℕ
clones_trace clones = flat_map (λ (clone : Buffer). trace_of (clone_records clone)) clones

-- how many packets each delivers, of the buffers with these numbers
abbrev pub clone_counts : List ℕ → List Buffer → List CloneCount
clone_counts (number ∷ numbers) (clone ∷ clones) =
    (record { buffer = number; delivered = length (clone_records clone) }) ∷ clone_counts numbers clones
clone_counts numbers clones = []

-- ---- what `clone` does

-- a sink that takes all tells nothing, before and after
abbrev pub nothing_told : Intake
nothing_told = untold []

-- The scenario was replayed for a reader that takes all and keeps nothing, and with the clones that its lines make: this is the report of
-- the replay, with a line for each clone behind it.
pub record MadeClones (scenario : Parts) (clones : List Buffer) (report : List ℕ) : Type 0 where
  pub played : List ℕ
  pub replays : ReplaysCloning scenario nothing_told nothing_told played clones
  pub report_is : report ≡ played ++ clones_text (clone_counts (clones_in scenario.lines) clones)

-- The text is a scenario, and was replayed to its end: the trace took the records of the clones, in the order of their lines, and nothing
-- else, and these bytes are the report. What the clones are is in `ReplaysCloning`: each is its buffer as its line found it, on the way of the
-- replay without these lines, and what is read of it tells, sequence by sequence but those with lines `raw`, of what had been emitted by then.
pub record IsCloned (text : List ℕ) (old new : Intake) (report : List ℕ) : Type 0 where
  pub parts : Parts
  pub for_clone : IsFor Clone text parts
  pub clones : List Buffer
  pub made : MadeClones parts clones report
  pub trace : new ≡ after_told old (clones_trace clones)

-- The text is a scenario, and was replayed to its end: the trace took a front part of the records of the clones.
pub record IsClonedShort (text : List ℕ) (old new : Intake) : Type 0 where
  pub parts : Parts
  pub for_clone : IsFor Clone text parts
  pub clones : List Buffer
  pub report : List ℕ
  pub made : MadeClones parts clones report
  pub part : TakesPart old new (clones_trace clones)

-- The text is a scenario, and its replay stopped where a writer stalled, as it does without the lines that make clones. The trace took nothing.
pub record IsCloneStalled (text : List ℕ) (writer : ℕ) (old new : Intake) : Type 0 where
  pub parts : Parts
  pub for_clone : IsFor Clone text parts
  pub stops : HasStopped (without_clones parts) (stops.Stalled writer) nothing_told nothing_told
  pub untouched : new ≡ old

-- what was made of a scenario's clones, and what the trace took of them
abbrev pub HasCloned : Parts → Result Report HostFault → (old new : Intake) → Type 0
HasCloned scenario (Ok report) old new =
    (clones : List Buffer) × MadeClones scenario clones (report_of report) × (new ≡ after_told old (clones_trace clones))
HasCloned scenario (Err stops.OutOfMemory) old new = new ≡ old
HasCloned scenario (Err stops.WriteFault) old new =
    (clones : List Buffer) × (report : List ℕ) × MadeClones scenario clones report × TakesPart old new (clones_trace clones)
HasCloned scenario (Err (stops.Stalled writer)) old new =
    HasStopped (without_clones scenario) (stops.Stalled writer) nothing_told nothing_told × (new ≡ old)
