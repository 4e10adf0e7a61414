use Rattle.trace_model.proofs.RoundLemmas.{worked_rounds}
use Rattle.trace_model.proofs.laws.worked_rounds.Goals as goal

pub returns : goal.returns
returns c = worked_rounds
