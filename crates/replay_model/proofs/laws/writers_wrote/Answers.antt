use Rattle.replay_model.proofs.PlayedLemmas.{writers_wrote}
use Rattle.replay_model.proofs.laws.writers_wrote.Goals as goal

pub returns : goal.returns
returns c = writers_wrote
