-- A text that is read as it comes: what it says by the lines that were read and by what comes behind them.
use Rattle.std.specs.Prelude.{◌≡◌, ℕ, ◌+◌, List, [], ◌∷◌, ◌++◌, length, Result, Err}
use Rattle.scenario_text.specs.declared.reason.Reason.{Reason}
use Rattle.scenario_text.specs.declared.reason.ScenarioFault.{ScenarioFault}
use Rattle.scenario_text.specs.declared.reason.ScenarioFault.TheVariants.{OutOfMemory, Bad}
use Rattle.scenario_text.specs.declared.lines_reader.LinesReader.{LinesReader}
use Rattle.scenario_text.specs.declared.scenario_reader.ScenarioReader.{ScenarioReader}
use Rattle.scenario_text.specs.Pieces.{pieces}
use Rattle.scenario_text.specs.Grammar.{after_lines}
use Rattle.scenario_text.specs.Scenario.{Parts, said}
use Rattle.scenario_text.specs.View.{state_of}

-- what a text says of which these lines were read, where this comes behind them; or its first fault
unfoldable pub says_after : LinesReader → List ℕ → Result Parts (ℕ × Reason)
says_after reader bytes = said (after_lines (state_of reader.reader) reader.number (pieces 10 bytes))

-- the number of the line that comes next
unfoldable pub next_line : LinesReader → ℕ
next_line reader = reader.number

-- what a text says of which this was read, where this comes behind it; or its first fault
unfoldable pub says_behind : ScenarioReader → List ℕ → Result Parts (ℕ × Reason)
says_behind reader more = says_after reader.lines (reader.pending.items ++ more)

-- what came of the line that has begun
unfoldable pub waiting : ScenarioReader → List ℕ
waiting reader = reader.pending.items

-- no line feed stands in these bytes
abbrev pub IsOneLine : List ℕ → Type 0
IsOneLine bytes = pieces 10 bytes ≡ bytes ∷ []

-- no line of what was read has a number above this
unfoldable pub line_bound : ScenarioReader → ℕ
line_bound reader = next_line reader.lines + length reader.pending.items

-- a refusal is the first fault of a text; memory is free to run out
abbrev pub RefusedBy : ScenarioFault → Result Parts (ℕ × Reason) → Type 0
RefusedBy OutOfMemory given = Unit {0}
RefusedBy (Bad line reason) given = given ≡ Err (line, reason)
