use Rattle.model_laws.proofs.LaterCallLemmas.{more_calls_take_more}
use Rattle.model_laws.proofs.laws.more_calls_take_more.Goals as goal

pub returns : goal.returns
returns c = more_calls_take_more
