use Rattle.std.proofs.Common.{◌≡◌, ℕ, ◌+◌, ◌≤◌, List, ◌++◌, length, drop}
use Rattle.scenario_text.specs.Behind.{next_line, says_after}
use Rattle.scenario_text.proofs.lines_reader.LinesReader.read_lines.Given as goal

abbrev pub invariant-lines : goal.invariant-lines
invariant-lines l =
    ((more : List ℕ) → says_after l.fn.self (l.fn.bytes ++ more) ≡ says_after l.self (l.rest ++ more))
    × (drop l.count l.fn.bytes ≡ l.rest) × (l.count + length l.rest ≡ length l.fn.bytes)
    × (next_line l.self ≤ next_line l.fn.self + l.count)

abbrev pub decreases-lines : goal.decreases-lines
decreases-lines l = length l.rest
