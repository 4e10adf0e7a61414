use Rattle.text_form.specs.Bytes.{is_comment_byte}
use Rattle.text_form.proofs.kinds.comment_run.Goals as goal

pub returns : goal.returns
returns c = c.cut.ensures is_comment_byte c.comment_end.ensures
