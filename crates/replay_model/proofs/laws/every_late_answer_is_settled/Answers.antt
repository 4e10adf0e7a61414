use Rattle.replay_model.proofs.LateLemmas.{every_late_answer_is_settled}
use Rattle.replay_model.proofs.laws.every_late_answer_is_settled.Goals as goal

pub returns : goal.returns
returns c = every_late_answer_is_settled
