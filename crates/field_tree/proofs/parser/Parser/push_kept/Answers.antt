use Rattle.std.proofs.Common.{◌≡◌, ◌<◌, ◌^◌, ℕ, length, rules, sym, subst}
use Rattle.field_tree.specs.declared.node.FieldNode.TheVariants.{Bytes}
use Rattle.field_tree.specs.Judged.{level, node_len_at}
use Rattle.field_tree.specs.Surveys.{IsCounted}
use Rattle.field_tree.specs.Views.{text_read}
use Rattle.field_tree.proofs.ParserLemmas.{depth_surveyed, more_kept}
use Rattle.field_tree.proofs.parser.Parser.push_kept.Goals as goal

pub add_node-requires-clause-within : goal.add_node-requires-clause-within
add_node-requires-clause-within c = depth_surveyed c.args.self.now.code.items c.args.self.now.depth c.args.self.now.found c.requires.kept

pub returns-clause-kept : goal.returns-clause-kept
unfolding level
returns-clause-kept c =
    let old = c.args.self.now in
    let text = text_read old in
    let node = Bytes c.args.field c.args.times in
    let as_long : length text ≡ c.len.result = search rules in
    let few : length text < 2 ^ 64 = search rules in
    let counted : IsCounted c.text_len.result (node_len_at node (length text)) =
    subst (λ (n : ℕ). IsCounted c.text_len.result (node_len_at node n)) (sym as_long) c.text_len.ensures in
    rw (c.in_ok-push_text.ensures, c.deref.ensures.value)
    (more_kept old.code.items text node old.depth old.found c.add_node.new.self c.requires.kept (c.ranges.field.fits, c.ranges.times.fits) tt few
    (λ nodes here before. c.add_node.ensures nodes text counted here before))
