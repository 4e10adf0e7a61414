-- What `check` does with an input: a scenario, a line `==`, and the bytes of a trace.
use Rattle.std.specs.Prelude.{◌≡◌, ℕ, ◌+◌, ◌==◌, List, [], ◌∷◌, ◌++◌, length, take, drop, count_by, Option, Some, None, codes, decimal, if◌then◌else◌}
use Rattle.std.specs.Str.{bytes_eq}
use Rattle.command_words.specs.declared.command.Command.TheVariants.{Check}
use Rattle.gap_check.specs.declared.verdict.Verdict.{Verdict}
use Rattle.gap_check.specs.declared.verdict.Verdict.TheVariants.{Agrees, Differs}
use Rattle.gap_check.specs.Verdicts.{IsVerdictOn}
use Rattle.scenario_text.specs.Pieces.{pieces}
use Rattle.scenario_text.specs.Scenario.{Parts}
use Rattle.scenario_text.specs.Emissions.{emitted_in}
use Rattle.tracesmb_top.specs.declared.check.CheckingFault.{CheckingFault}
use Rattle.tracesmb_top.specs.declared.check.CheckingFault.TheVariants.{OutOfMemory, Refused}
use Rattle.tracesmb_top.specs.Refusals.{refusal_of, IsFor, IsTraceRefusal}

-- ---- the line that divides an input

-- Where the first line `==` begins, of lines that begin at a place. The last piece is no line: no line feed ends it.
unfoldable pub divider_from : ℕ → List (List ℕ) → Option ℕ
divider_from at [] = None
divider_from at (last ∷ []) = None
divider_from at (line ∷ next ∷ others) =
    if bytes_eq line (codes "==") then Some at else divider_from (at + length line + 1) (next ∷ others)

-- where the first line `==` of an input begins
unfoldable pub divider_of : List ℕ → Option ℕ
divider_of input = divider_from 0 (pieces 10 input)

-- the scenario of an input that is divided at a place
abbrev pub text_before : ℕ → List ℕ → List ℕ
text_before at input = take at input

-- its trace
abbrev pub trace_behind : ℕ → List ℕ → List ℕ
trace_behind at input = drop (at + 3) input

-- ---- the verdict

-- `agrees N`, `differs packet K sequence Q`, with its line feed
unfoldable pub verdict_line : Verdict → List ℕ
verdict_line (Agrees packets) = codes "agrees " ++ decimal packets ++ codes "\n"
verdict_line (Differs packet sequence) = codes "differs packet " ++ decimal packet ++ codes " sequence " ++ decimal sequence ++ codes "\n"

-- the verdict on a trace, by what the writers of a scenario emit
pub record IsVerdictFrom (text trace : List ℕ) (verdict : Verdict) : Type 0 where
  pub parts : Parts
  pub says : IsFor Check text parts
  pub on : IsVerdictOn (emitted_in parts) trace verdict

-- the verdict on an input, which is divided
pub record IsVerdictFor (input : List ℕ) (verdict : Verdict) : Type 0 where
  pub at : ℕ
  pub divides : divider_of input ≡ Some at
  pub from : IsVerdictFrom (text_before at input) (trace_behind at input) verdict

-- the bytes are the line of the verdict on an input
pub record IsChecked (input bytes : List ℕ) : Type 0 where
  pub verdict : Verdict
  pub is : IsVerdictFor input verdict
  pub bytes_are : bytes ≡ verdict_line verdict

-- ---- why an input is refused

-- `line L: no trace`, with its line feed
unfoldable pub no_trace_line : ℕ → List ℕ
no_trace_line line = codes "line " ++ decimal line ++ codes ": no trace\n"

-- one line behind those of a text
abbrev pub line_behind : List ℕ → ℕ
line_behind text = count_by (λ byte. byte == 10) text + 1

-- why a scenario isn't checked, or else what else refuses the input
abbrev pub RefusesLines : Option (List ℕ) → (List ℕ → Type 0) → List ℕ → Type 0
RefusesLines (Some said) Otherwise line = line ≡ said
RefusesLines None Otherwise line = Otherwise line

-- a scenario's first fault, or its first line that isn't for `check`, comes before what else refuses an input
abbrev pub RefusesText : List ℕ → (List ℕ → Type 0) → List ℕ → Type 0
RefusesText text Otherwise line = RefusesLines (refusal_of Check text) Otherwise line

-- the line refuses a scenario and a trace: by the scenario's first fault, or else by the trace's
abbrev pub RefusesDivided : List ℕ → List ℕ → List ℕ → Type 0
RefusesDivided text trace line = RefusesText text (IsTraceRefusal trace) line

-- the line refuses an input that no line divides: by its first fault as a scenario, or else since it has no trace
abbrev pub RefusesUndivided : List ℕ → List ℕ → Type 0
RefusesUndivided input line = RefusesText input (λ said. said ≡ no_trace_line (line_behind input)) line

-- the line refuses an input that is divided here, or isn't
abbrev pub RefusesAt : List ℕ → Option ℕ → List ℕ → Type 0
RefusesAt input None line = RefusesUndivided input line
RefusesAt input (Some at) line = RefusesDivided (text_before at input) (trace_behind at input) line

-- the line says why an input isn't checked
abbrev pub IsCheckRefusal : List ℕ → List ℕ → Type 0
IsCheckRefusal input line = RefusesAt input (divider_of input) line

-- a fault's line says so; memory is free to run out
abbrev pub GivesRefusal : (List ℕ → Type 0) → CheckingFault → Type 0
GivesRefusal Refuses OutOfMemory = Unit {0}
GivesRefusal Refuses (Refused refusal) = Refuses refusal.items
