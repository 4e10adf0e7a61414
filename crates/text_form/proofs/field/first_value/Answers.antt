use Rattle.text_form.proofs.FieldLemmas.{quoted_there}
use Rattle.text_form.proofs.field.first_value.Goals as goal

pub returns-then-byte-eq34 : goal.returns-then-byte-eq34
returns-then-byte-eq34 c = quoted_there _ _ _ _ c.in_ok-byte.ensures c.if-byte-eq34.true c.quoted_text.ensures
