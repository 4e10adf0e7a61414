use Rattle.stream_frames.specs.Values.{limits_value}
use Rattle.stream_frames.proofs.FrontLemmas.{none_front}
use Rattle.stream_frames.proofs.reader.FrameReader.pass.Goals as goal

-- nothing is there of the next frame
pub returns-clause-reading : goal.returns-clause-reading
returns-clause-reading c = rw c.requires.between (record { short = none_front (limits_value c.args.self.now.limits) })
