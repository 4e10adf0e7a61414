use Rattle.commit_laws.proofs.StreamsComplete.{every_stream_is_complete}
use Rattle.commit_laws.proofs.laws.every_stream_is_complete.Goals as goal

pub returns : goal.returns
returns c = every_stream_is_complete
