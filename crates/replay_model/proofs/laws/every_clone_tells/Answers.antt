use Rattle.replay_model.proofs.CloneToldLemmas.{every_clone_tells}
use Rattle.replay_model.proofs.laws.every_clone_tells.Goals as goal

pub returns : goal.returns
returns c = every_clone_tells
