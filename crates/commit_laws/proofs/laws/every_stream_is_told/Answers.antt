use Rattle.commit_laws.proofs.StreamsTold.{every_stream_is_told}
use Rattle.commit_laws.proofs.laws.every_stream_is_told.Goals as goal

pub returns : goal.returns
returns c = every_stream_is_told
