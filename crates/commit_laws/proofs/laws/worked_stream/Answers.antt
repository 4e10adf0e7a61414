use Rattle.commit_laws.proofs.WorkedStreamLemmas.{worked_stream}
use Rattle.commit_laws.proofs.laws.worked_stream.Goals as goal

pub returns : goal.returns
returns c = worked_stream
