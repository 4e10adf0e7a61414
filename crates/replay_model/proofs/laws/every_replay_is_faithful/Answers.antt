use Rattle.replay_model.proofs.PlayedLemmas.{every_replay_is_faithful}
use Rattle.replay_model.proofs.laws.every_replay_is_faithful.Goals as goal

pub returns : goal.returns
returns c = every_replay_is_faithful
