use Rattle.std.proofs.Common.{take}
use Rattle.std.specs.List.{AllByRecursion}
use Rattle.field_tree.specs.Grammar.{IsTextByte}
use Rattle.field_tree.proofs.scan.text_len.Given as goal

abbrev pub invariant-loop-at : goal.invariant-loop-at
invariant-loop-at l = AllByRecursion IsTextByte (take l.at l.bytes)
