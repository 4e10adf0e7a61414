use Rattle.replay_model.proofs.CloneLemmas.{no_clone_asks}
use Rattle.replay_model.proofs.laws.no_clone_asks.Goals as goal

pub returns : goal.returns
returns c = no_clone_asks
