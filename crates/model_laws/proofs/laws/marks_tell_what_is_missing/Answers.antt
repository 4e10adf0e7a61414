use Rattle.model_laws.proofs.MarkLemmas.{marks_tell_what_is_missing}
use Rattle.model_laws.proofs.laws.marks_tell_what_is_missing.Goals as goal

pub returns : goal.returns
returns c = marks_tell_what_is_missing
