use Rattle.std.proofs.Common.{ℕ, ◌≤◌, length}
use Rattle.field_tree.specs.Machine.{TextReading}
use Rattle.field_tree.specs.Scanning.{RunsOver, TakesDigits}
use Rattle.field_tree.proofs.scan.take_digits.Given as goal

abbrev pub invariant-digits : goal.invariant-digits
invariant-digits l = ((to : ℕ → TextReading) → TakesDigits l.most to → RunsOver (to l.start) l.bytes (to l.value) l.rest) × (l.value ≤ l.most)

abbrev pub decreases-digits : goal.decreases-digits
decreases-digits l = length l.rest
