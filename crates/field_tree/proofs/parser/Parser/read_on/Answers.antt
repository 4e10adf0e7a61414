use Rattle.field_tree.specs.Views.{reading}
use Rattle.field_tree.proofs.ScanLemmas.{stays_here}
use Rattle.field_tree.proofs.parser.Parser.read_on.Goals as goal

pub returns-in_default : goal.returns-in_default
returns-in_default c = record { over = stays_here (reading c.args.self.now c.args.mode) c.args.bytes.now; kept = c.requires.kept }
