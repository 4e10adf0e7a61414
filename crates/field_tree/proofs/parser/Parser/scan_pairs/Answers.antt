use Rattle.std.proofs.Common.{◌≡◌, ap, ◌∙◌}
use Rattle.field_tree.specs.Views.{nodes_read, text_read}
use Rattle.field_tree.specs.Scanning.{ReadsPairs}
use Rattle.field_tree.proofs.ScanLemmas.{reads_on_pairs}
use Rattle.field_tree.proofs.parser.Parser.scan_pairs.Goals as goal

pub returns-clause-over : goal.returns-clause-over
returns-clause-over c =
    let old = c.args.self.now in
    let to = c.take_pairs-left.new.text.items in
    let left = c.take_pairs-left.result.now in
    let same : c.reserve.new.self.items ≡ text_read old = c.reserve.ensures.items ∙ ap (λ v. v.items) c.replace-text.ensures.value in
    let reads : ReadsPairs c.reserve.new.self.items c.args.bytes.now to left =
    reads_on_pairs c.reserve.new.self.items c.take_four_pairs-rest.new.text.items to c.args.bytes.now c.take_four_pairs-rest.result.now left
    c.take_four_pairs-rest.ensures.taken c.take_pairs-left.ensures in
    let from_old : ReadsPairs (text_read old) c.args.bytes.now to left = rw same at reads in
    λ field. from_old (nodes_read old) old.depth field
