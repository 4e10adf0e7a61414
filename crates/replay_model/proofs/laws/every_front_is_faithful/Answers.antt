use Rattle.replay_model.proofs.FrontLemmas.{every_front_is_faithful}
use Rattle.replay_model.proofs.laws.every_front_is_faithful.Goals as goal

pub returns : goal.returns
returns c = every_front_is_faithful
