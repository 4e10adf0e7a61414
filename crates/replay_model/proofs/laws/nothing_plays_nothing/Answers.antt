use Rattle.replay_model.proofs.PlayLemmas.{nothing_plays_nothing}
use Rattle.replay_model.proofs.laws.nothing_plays_nothing.Goals as goal

pub returns : goal.returns
returns c = nothing_plays_nothing
