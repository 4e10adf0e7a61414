use Rattle.model_laws.proofs.RisingLemmas.{second_close_changes_nothing}
use Rattle.model_laws.proofs.laws.second_close_changes_nothing.Goals as goal

pub returns : goal.returns
returns c = second_close_changes_nothing
