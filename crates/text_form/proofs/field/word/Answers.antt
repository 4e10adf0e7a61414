use Rattle.std.proofs.Common.{sym, ◌∙◌}
use Rattle.text_form.proofs.FieldLemmas.{word_read}
use Rattle.text_form.proofs.field.word.Goals as goal

pub returns : goal.returns
returns c = word_read _ _ _ c.word_run-run.ensures (sym c.is_empty.ensures ∙ c.if-is_empty.false)
