use Rattle.std.proofs.Common.{add-one, [], arith, refl}
use Rattle.field_tree.specs.declared.node.FieldNode.TheVariants.{Begin}
use Rattle.field_tree.specs.Judged.{level}
use Rattle.field_tree.proofs.ParserLemmas.{depth_surveyed, more_kept}
use Rattle.field_tree.proofs.parser.Parser.add_begin.Goals as goal

pub add_node-requires-clause-within : goal.add_node-requires-clause-within
add_node-requires-clause-within c = depth_surveyed c.args.self.now.code.items c.args.self.now.depth c.args.self.now.found c.requires.kept

pub returns-clause-kept : goal.returns-clause-kept
unfolding level
returns-clause-kept c =
    let old = c.args.self.now in
    rw (c.put_begin.ensures, add-one old.depth)
    (more_kept old.code.items [] (Begin c.args.field) old.depth old.found c.add_node.new.self c.requires.kept c.ranges.field.fits refl (omega arith)
    (λ nodes here before. c.add_node.ensures nodes [] (c.begin_len.ensures 0) here before))
