use Rattle.replay_model.proofs.RequestLemmas.{every_request_is_settled}
use Rattle.replay_model.proofs.laws.every_request_is_settled.Goals as goal

pub returns : goal.returns
returns c = every_request_is_settled
