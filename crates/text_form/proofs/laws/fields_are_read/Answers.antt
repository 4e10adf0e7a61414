use Rattle.text_form.proofs.Readings as laws
use Rattle.text_form.proofs.laws.fields_are_read.Goals as goal

pub returns : goal.returns
returns c = laws.fields_are_read
