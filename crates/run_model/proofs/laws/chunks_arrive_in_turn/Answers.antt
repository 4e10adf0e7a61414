use Rattle.run_model.proofs.WorkedLemmas.{chunks_arrive_in_turn}
use Rattle.run_model.proofs.laws.chunks_arrive_in_turn.Goals as goal

pub returns : goal.returns
returns c = chunks_arrive_in_turn
