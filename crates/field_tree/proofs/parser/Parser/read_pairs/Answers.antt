use Rattle.std.proofs.Common.{ℕ, ◌∷◌, ap, ◌∙◌}
use Rattle.field_tree.specs.declared.mode.Mode.TheVariants.{Pairs, Packed}
use Rattle.field_tree.specs.Scanning.{RunsOver}
use Rattle.field_tree.specs.Views.{reading, nodes_read, text_read}
use Rattle.field_tree.proofs.EndLemmas.{if_ok_more}
use Rattle.field_tree.proofs.ScanLemmas.{over_both, over_front, at_second_tick}
use Rattle.field_tree.proofs.parser.Parser.read_pairs.Goals as goal

pub returns-in-Some-eq39-default-clause-over : goal.returns-in-Some-eq39-default-clause-over
returns-in-Some-eq39-default-clause-over c =
    let field = c.args.field in
    let old = c.args.self.now in
    let mid = c.scan_pairs.new.self in
    let tick = c.in-Some-eq39-default in
    let left = c.in_ok-left.left in
    let from = reading old (Pairs field) in
    let first = c.in_ok-left.ensures.over field in
    if_ok_more c.read_packed.result (λ to. RunsOver (reading mid (Packed field)) tick.behind.now (reading c.read_packed.new.self to.0) to.1.now)
    (λ to. RunsOver from c.args.bytes.now (reading c.read_packed.new.self to.0) to.1.now)
    (λ to more. over_both from (reading mid (Pairs field)) (reading c.read_packed.new.self to.0) c.args.bytes.now left.now to.1.now first
    (over_front 39 (reading mid (Pairs field)) (reading mid (Packed field)) (reading c.read_packed.new.self to.0) left.now tick.behind.now to.1.now
    (tick.ensures ∙ ap (λ (b : ℕ). b ∷ tick.behind.now) tick.field-0-0-test)
    (at_second_tick (nodes_read mid) mid.depth field (text_read mid)) more)) c.read_packed.ensures.over
