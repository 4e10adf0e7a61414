use Rattle.text_form.proofs.Readings as laws
use Rattle.text_form.proofs.laws.items_tell_the_fields.Goals as goal

pub returns : goal.returns
returns c = laws.items_tell_the_fields
