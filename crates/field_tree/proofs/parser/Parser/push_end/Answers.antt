use Rattle.std.proofs.Common.{[], arith, refl}
use Rattle.field_tree.specs.declared.node.FieldNode.TheVariants.{End}
use Rattle.field_tree.specs.Judged.{level, node_len_at}
use Rattle.field_tree.proofs.ParserLemmas.{depth_surveyed, more_kept}
use Rattle.field_tree.proofs.parser.Parser.push_end.Goals as goal

pub add_node-requires-clause-within : goal.add_node-requires-clause-within
add_node-requires-clause-within c = depth_surveyed c.args.self.now.code.items c.args.self.now.depth c.args.self.now.found c.requires.kept

pub returns-clause-kept : goal.returns-clause-kept
unfolding level node_len_at
returns-clause-kept c =
    let old = c.args.self.now in
    rw (c.in_ok-push_end.ensures, c.saturating_sub-self.ensures)
    (more_kept old.code.items [] End old.depth old.found c.add_node.new.self c.requires.kept tt refl (omega arith)
    (λ nodes here before. c.add_node.ensures nodes [] refl here before))
