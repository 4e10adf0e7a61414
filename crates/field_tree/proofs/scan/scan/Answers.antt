use Rattle.std.proofs.Common.{[]}
use Rattle.field_tree.specs.declared.mode.Mode.TheVariants.{Start}
use Rattle.field_tree.specs.Scanning.{reading_with}
use Rattle.field_tree.proofs.ScanLemmas.{stays_here}
use Rattle.field_tree.proofs.scan.scan.Goals as goal

pub returns-in-Some : goal.returns-in-Some
returns-in-Some c nodes depth = rw c.in-Some.ensures (c.scan_field.ensures c.args.opened nodes depth)

pub returns-in_default : goal.returns-in_default
returns-in_default c nodes depth = stays_here (reading_with nodes depth [] (Start c.args.opened)) c.args.bytes.now
