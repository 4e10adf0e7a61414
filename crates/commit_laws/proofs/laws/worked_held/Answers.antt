use Rattle.commit_laws.proofs.WorkedStreamLemmas.{worked_held}
use Rattle.commit_laws.proofs.laws.worked_held.Goals as goal

pub returns : goal.returns
returns c = worked_held
