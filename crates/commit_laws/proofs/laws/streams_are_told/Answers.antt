use Rattle.commit_laws.proofs.StreamsTold.{streams_are_told}
use Rattle.commit_laws.proofs.laws.streams_are_told.Goals as goal

pub returns : goal.returns
returns c = streams_are_told
