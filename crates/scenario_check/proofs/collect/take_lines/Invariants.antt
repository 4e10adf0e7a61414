use Rattle.std.proofs.Common.{◌≡◌, ◌++◌, List, length}
use Rattle.scenario_text.specs.declared.scenario.NumberedLine.{NumberedLine}
use Rattle.scenario_check.specs.Progress.{HaveTaken}
use Rattle.scenario_check.proofs.collect.take_lines.Given as goal

-- the lines before those that are still to come were taken
abbrev pub invariant-lines : goal.invariant-lines
invariant-lines l = (before : List NumberedLine) × (before ++ l.walk ≡ l.fn.lines) × HaveTaken before l.emitters × (length l.emitters ≡ length l.fn.emitters)

abbrev pub decreases-lines : goal.decreases-lines
decreases-lines l = length l.walk
