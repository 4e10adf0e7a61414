use Rattle.stream_laws.proofs.StreamsComplete.{every_stream_delivers_all}
use Rattle.stream_laws.proofs.laws.every_stream_delivers_all.Goals as goal

pub returns : goal.returns
returns c = every_stream_delivers_all
