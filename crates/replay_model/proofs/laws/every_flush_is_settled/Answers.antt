use Rattle.replay_model.proofs.FlushLemmas.{every_flush_is_settled}
use Rattle.replay_model.proofs.laws.every_flush_is_settled.Goals as goal

pub returns : goal.returns
returns c = every_flush_is_settled
