use Rattle.std.proofs.Common.{◌<◌, ◌^◌, length, rules}
use Rattle.field_tree.specs.declared.node.FieldNode.TheVariants.{Bytes}
use Rattle.field_tree.specs.Judged.{level}
use Rattle.field_tree.proofs.ParserLemmas.{depth_surveyed, more_kept}
use Rattle.field_tree.proofs.parser.Parser.push_any_text.Goals as goal

pub add_node-requires-clause-within : goal.add_node-requires-clause-within
add_node-requires-clause-within c = depth_surveyed c.args.self.now.code.items c.args.self.now.depth c.args.self.now.found c.requires.kept

pub returns-clause-kept : goal.returns-clause-kept
unfolding level
returns-clause-kept c =
    let old = c.args.self.now in
    let text = c.args.text.now in
    let few : length text < 2 ^ 64 = search rules in
    rw c.in_ok-push_text.ensures
    (more_kept old.code.items text (Bytes c.args.field c.args.times) old.depth old.found c.add_node.new.self c.requires.kept (c.ranges.field.fits, c.ranges.times.fits) tt few
    (λ nodes here before. c.add_node.ensures nodes text c.text_len.ensures here before))
