use Rattle.chunk_plain.proofs.Frames.{frames_read}
use Rattle.chunk_plain.proofs.laws.frames_read.Goals as goal

pub returns : goal.returns
returns c = frames_read
