use Rattle.replay_model.proofs.NoneLostLemmas.{enough_loses_nothing}
use Rattle.replay_model.proofs.laws.enough_loses_nothing.Goals as goal

pub returns : goal.returns
returns c = enough_loses_nothing
