use Rattle.text_form.proofs.Readings as laws
use Rattle.text_form.proofs.laws.bad_lines_are_found.Goals as goal

pub returns : goal.returns
returns c = laws.bad_lines_are_found
