use Rattle.text_form.specs.Bytes.{is_word_byte}
use Rattle.text_form.proofs.kinds.word_run.Goals as goal

pub returns : goal.returns
returns c = c.cut.ensures is_word_byte c.word_end.ensures
