use Rattle.commit_laws.proofs.WorkedStreamLemmas.{worked_early}
use Rattle.commit_laws.proofs.laws.worked_early.Goals as goal

pub returns : goal.returns
returns c = worked_early
