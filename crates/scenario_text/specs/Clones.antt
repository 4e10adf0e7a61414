-- The clones of buffers that a scenario's lines ask for, and the scenario without these lines.
use Rattle.std.specs.Prelude.{◌≡◌, ℕ, Bool, true, false, List, [], ◌∷◌}
use Rattle.std.specs.List.{filter, flat_map}
use Rattle.scenario_text.specs.declared.scenario.LineKind.{LineKind}
use Rattle.scenario_text.specs.declared.scenario.LineKind.TheVariants.{CloneBuffer}
use Rattle.scenario_text.specs.declared.scenario.NumberedLine.{NumberedLine}
use Rattle.scenario_text.specs.Scenario.{Parts}

-- the buffer that a line asks a clone of, or none
abbrev pub clones_by : LineKind → List ℕ
clones_by (CloneBuffer buffer) = buffer ∷ []
clones_by other = []

-- the buffers that the lines ask clones of, in the lines' order
abbrev pub clones_in : List NumberedLine → List ℕ
clones_in lines = flat_map (λ line. clones_by line.what) lines

-- no line asks for a clone
abbrev pub ClonesNone : List NumberedLine → Type 0
ClonesNone lines = clones_in lines ≡ []

-- a line asks for no clone
abbrev pub is_no_clone : LineKind → Bool
is_no_clone (CloneBuffer buffer) = false
is_no_clone other = true

-- the other lines
abbrev pub other_lines : List NumberedLine → List NumberedLine
other_lines lines = filter (λ line. is_no_clone line.what) lines

-- the scenario without the lines that ask for clones
abbrev pub without_clones : Parts → Parts
without_clones scenario = record scenario { lines = other_lines scenario.lines }
