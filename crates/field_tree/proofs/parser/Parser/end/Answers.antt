use Rattle.field_tree.proofs.LoopLemmas.{after_ends}
use Rattle.field_tree.proofs.parser.Parser.end.Goals as goal

pub returns-in-After-clause-ended : goal.returns-in-After-clause-ended
returns-in-After-clause-ended c = rw c.in-After.is (after_ends c.args.self.now)
