use Rattle.text_form.proofs.FieldLemmas.{text_ended, text_refused, text_read}
use Rattle.text_form.proofs.field.quoted_text.Goals as goal

pub returns-in_err-byte : goal.returns-in_err-byte
returns-in_err-byte c = rw c.from_residual.ensures (text_ended _ _ _ c.text_run-run.ensures c.in_err-byte.ensures)

pub returns-then-byte-ne34 : goal.returns-then-byte-ne34
returns-then-byte-ne34 c = text_refused _ _ _ _ _ c.text_run-run.ensures c.in_ok-byte.ensures c.if-byte-ne34.true

pub returns : goal.returns
returns c = text_read _ _ _ _ _ c.text_run-run.ensures c.in_ok-byte.ensures c.if-byte-ne34.false
