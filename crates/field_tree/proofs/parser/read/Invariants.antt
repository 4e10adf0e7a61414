use Rattle.std.proofs.Common.{length}
use Rattle.field_tree.specs.Machine.{beginning}
use Rattle.field_tree.specs.Scanning.{RunsOver}
use Rattle.field_tree.specs.Views.{reading, Keeps}
use Rattle.field_tree.proofs.parser.read.Given as goal

abbrev pub invariant-bytes : goal.invariant-bytes
invariant-bytes l = RunsOver beginning l.text (reading l.parser l.mode) l.rest × Keeps l.parser

abbrev pub decreases-bytes : goal.decreases-bytes
decreases-bytes l = length l.rest
