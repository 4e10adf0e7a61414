use Rattle.model_laws.proofs.UnreadableLemmas.{unreadable_is_first}
use Rattle.model_laws.proofs.laws.unreadable_is_first.Goals as goal

pub returns : goal.returns
returns c = unreadable_is_first
