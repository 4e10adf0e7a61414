use Rattle.std.proofs.Common.{◌∙◌}
use Rattle.field_tree.proofs.JudgedLemmas.{text_counted}
use Rattle.field_tree.proofs.survey.text_len.Goals as goal

pub returns : goal.returns
returns c =
    text_counted c.args.field c.args.times c.args.len c.saturating_mul-whole.result c.saturating_add.result (rw c.from.ensures at c.saturating_mul-whole.ensures)
    c.tag_len.ensures.len (c.from-2.ensures ∙ c.varint_len.ensures.is) c.saturating_add.ensures
