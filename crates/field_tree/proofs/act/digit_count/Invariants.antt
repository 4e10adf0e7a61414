use Rattle.std.proofs.Common.{◌≡◌, ◌+◌, ◌^◌, ◌<◌, ◌≤◌, length}
use Rattle.field_tree.specs.Grammar.{number}
use Rattle.field_tree.proofs.act.digit_count.Given as goal

abbrev pub invariant-digits : goal.invariant-digits
invariant-digits l = (l.count + length (number l.rest) ≡ length (number l.fn.number) + 1) × (l.fn.number < 2 ^ 64) × (length (number l.fn.number) ≤ 20)

abbrev pub decreases-digits : goal.decreases-digits
decreases-digits l = l.rest
