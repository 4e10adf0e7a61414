use Rattle.text_form.proofs.FieldLemmas.{colon_value}
use Rattle.text_form.proofs.field.behind_colon.Goals as goal

pub returns-clause-read : goal.returns-clause-read
returns-clause-read c = colon_value _ _ _ _ _ _ _ _ c.in_ok-there.ensures.passes c.in-Some-first_value.ensures
