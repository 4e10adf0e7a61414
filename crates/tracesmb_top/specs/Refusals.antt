-- The lines that say why an input is refused: a scenario or a trace that can't be read, or a scenario that isn't for its command.
use Rattle.std.specs.Prelude.{◌≡◌, ℕ, Option, Some, None, Result, Ok, Err, List, [], ◌∷◌, ◌++◌, codes, decimal}
use Rattle.command_words.specs.declared.command.Command.{Command}
use Rattle.command_words.specs.declared.command.Command.TheVariants.{Replay, Run, Check}
use Rattle.scenario_text.specs.declared.reason.Reason.{Reason}
use Rattle.scenario_text.specs.declared.scenario.LineKind.{LineKind}
use Rattle.scenario_text.specs.declared.scenario.LineKind.TheVariants.{Close, CloneBuffer, Raw}
use Rattle.scenario_text.specs.declared.scenario.NumberedLine.{NumberedLine}
use Rattle.scenario_text.specs.Scenario.{Parts, scenario_of}
use Rattle.scenario_text.specs.Texts.{refusal_line}
use Rattle.trace_file.specs.Traces.{TracePacket, ReadsFrom}
use Rattle.trace_file.specs.declared.fault.TraceFault.{TraceFault}
use Rattle.trace_file.specs.declared.fault.TraceFault.TheVariants.{Group, BadRecord, CutShort}

-- ---- which scenarios aren't for a command

-- why a line isn't one for the command: on threads a close or a chunk that is committed would come in no order with what is written, a clone
-- is made by `clone` alone, and nobody knows what was written into a chunk that a line commits
unfoldable pub unfit_words : Command → LineKind → Option (List ℕ)
unfit_words Run (Close producer) = Some (codes "not under run")
unfit_words Run (CloneBuffer buffer) = Some (codes "not under run")
unfit_words Replay (CloneBuffer buffer) = Some (codes "not under replay")
unfit_words Check (CloneBuffer buffer) = Some (codes "not under check")
unfit_words Run (Raw writer chunk) = Some (codes "not under run")
unfit_words Check (Raw writer chunk) = Some (codes "not under check")
unfit_words command other = None

-- `line L: REASON`, with its line feed
unfoldable pub reason_line : ℕ → List ℕ → List ℕ
reason_line line words = codes "line " ++ decimal line ++ codes ": " ++ words ++ codes "\n"

-- the line that says so, or what else is said
abbrev pub unfit_or : Option (List ℕ) → ℕ → Option (List ℕ) → Option (List ℕ)
unfit_or None line else_said = else_said
unfit_or (Some words) line else_said = Some (reason_line line words)

-- the first of the lines that isn't for the command
abbrev pub unfit_in : Command → List NumberedLine → Option (List ℕ)
unfit_in command [] = None
unfit_in command (line ∷ lines) = unfit_or (unfit_words command line.what) line.line (unfit_in command lines)

-- ---- why a text isn't played

-- by what its grammar says of it
unfoldable pub refusal_by : Command → Result Parts (ℕ × Reason) → Option (List ℕ)
refusal_by command (Ok parts) = unfit_in command parts.lines
refusal_by command (Err fault) = Some (refusal_line fault.0 fault.1)

-- its first fault by the grammar, or else its first line that isn't for the command
unfoldable pub refusal_of : Command → List ℕ → Option (List ℕ)
refusal_of command text = refusal_by command (scenario_of text)

-- the text is a scenario for the command
pub record IsFor (command : Command) (text : List ℕ) (parts : Parts) : Type 0 where
  pub scenario_is : scenario_of text ≡ Ok parts
  pub fits : unfit_in command parts.lines ≡ None

-- ---- traces

-- `offset N: REASON`, with its line feed
unfoldable pub offset_line : ℕ → List ℕ → List ℕ
offset_line offset reason = codes "offset " ++ decimal offset ++ codes ": " ++ reason ++ codes "\n"

-- the line of a trace's fault
unfoldable pub trace_fault_line : TraceFault → List ℕ
trace_fault_line (Group offset) = offset_line offset (codes "group")
trace_fault_line (BadRecord offset) = offset_line offset (codes "bad record")
trace_fault_line (CutShort offset) = offset_line offset (codes "cut short")

-- the line says why bytes aren't a trace: packets can be read of them, and then comes their first fault
pub record IsTraceRefusal (bytes line : List ℕ) : Type 0 where
  pub packets : List TracePacket
  pub fault : TraceFault
  pub reads : ReadsFrom 0 bytes packets (Some fault)
  pub line_is : line ≡ trace_fault_line fault
