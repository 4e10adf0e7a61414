use Rattle.std.proofs.Common.{refl}
use Rattle.field_tree.specs.Machine.{beginning}
use Rattle.field_tree.proofs.EncodedLemmas.{nothing_shown}
use Rattle.field_tree.proofs.ParserLemmas.{nothing_kept}
use Rattle.field_tree.proofs.parser.Parser.start.Goals as goal

pub returns-clause-reading : goal.returns-clause-reading
unfolding beginning
returns-clause-reading c = rw (c.clear.ensures.items, c.clear-2.ensures.items, nothing_shown) refl

pub returns-clause-kept : goal.returns-clause-kept
returns-clause-kept c = rw c.clear.ensures.items (nothing_kept _ c.new-self.ensures)
