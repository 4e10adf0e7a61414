use Rattle.stream_laws.proofs.StreamsTold.{every_stream_delivers}
use Rattle.stream_laws.proofs.laws.every_stream_delivers.Goals as goal

pub returns : goal.returns
returns c = every_stream_delivers
