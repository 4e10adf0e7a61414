use Rattle.text_form.specs.Bytes.{is_text_byte}
use Rattle.text_form.proofs.kinds.text_run.Goals as goal

pub returns : goal.returns
returns c = c.cut.ensures is_text_byte c.text_end.ensures
