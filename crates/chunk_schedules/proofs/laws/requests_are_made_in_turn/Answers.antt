use Rattle.chunk_schedules.proofs.RequestLemmas.{requests_are_made_in_turn}
use Rattle.chunk_schedules.proofs.laws.requests_are_made_in_turn.Goals as goal

pub returns : goal.returns
returns c = requests_are_made_in_turn
