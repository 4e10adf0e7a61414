use Rattle.std.proofs.Common.{◌+◌, ◌/◌, ◌≤◌, length, vec_len, vec_capacity}
use Rattle.field_tree.specs.Scanning.{ReadsPairs}
use Rattle.field_tree.proofs.parser.take_four_pairs.Given as goal

abbrev pub invariant-pairs : goal.invariant-pairs
invariant-pairs l = ReadsPairs l.fn.text.items l.bytes l.text.items l.rest × (vec_len l.text + length l.rest / 2 ≤ vec_capacity l.text)

abbrev pub decreases-pairs : goal.decreases-pairs
decreases-pairs l = length l.rest
