use Rattle.replay_model.proofs.WholeLemmas.{every_enough_replay_is_complete}
use Rattle.replay_model.proofs.laws.every_enough_replay_is_complete.Goals as goal

pub returns : goal.returns
returns c = every_enough_replay_is_complete
