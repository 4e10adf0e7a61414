use Rattle.field_tree.specs.Machine.{with_text}
use Rattle.field_tree.specs.Views.{reading}
use Rattle.field_tree.proofs.ScanLemmas.{stays_here}
use Rattle.field_tree.proofs.parser.Parser.keep.Goals as goal

pub returns-in-Pairs-clause-over : goal.returns-in-Pairs-clause-over
returns-in-Pairs-clause-over c =
    let pushed = c.in_ok-push_bytes.ensures.pushed in
    rw c.in-Pairs.is (rw (pushed.0, pushed.1, pushed.2, c.requires.between) at c.read_pairs.ensures.over)

pub returns-in_default-clause-over : goal.returns-in_default-clause-over
returns-in_default-clause-over c =
    let old = c.args.self.now in
    let pushed = c.in_ok-push_bytes.ensures.pushed in
    rw (pushed.0, pushed.1, pushed.2, c.requires.between) (stays_here (with_text c.args.scanned.text.now (reading old c.args.scanned.mode)) c.args.scanned.behind.now)
