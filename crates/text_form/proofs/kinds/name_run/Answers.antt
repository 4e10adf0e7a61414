use Rattle.text_form.specs.Bytes.{is_name_byte}
use Rattle.text_form.proofs.kinds.name_run.Goals as goal

pub returns : goal.returns
returns c = c.cut.ensures is_name_byte c.name_end.ensures
