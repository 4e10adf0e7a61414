use Rattle.commit_laws.proofs.StreamsComplete.{streams_are_complete}
use Rattle.commit_laws.proofs.laws.streams_are_complete.Goals as goal

pub returns : goal.returns
returns c = streams_are_complete
