use Rattle.field_tree.proofs.ParserLemmas.{nothing_kept}
use Rattle.field_tree.proofs.parser.Parser.new.Goals as goal

pub returns : goal.returns
returns c = rw c.new.ensures.items (nothing_kept _ c.new-2.ensures)
