use Rattle.replay_model.proofs.PlayedLemmas.{writers_lose}
use Rattle.replay_model.proofs.laws.writers_lose.Goals as goal

pub returns : goal.returns
returns c = writers_lose
