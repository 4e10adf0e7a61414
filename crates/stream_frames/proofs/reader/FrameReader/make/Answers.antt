use Rattle.stream_frames.specs.Values.{limits_value}
use Rattle.stream_frames.proofs.FrontLemmas.{none_front}
use Rattle.stream_frames.proofs.reader.FrameReader.make.Goals as goal

-- nothing is there of the first frame
pub returns-clause-reading : goal.returns-clause-reading
returns-clause-reading c = rw c.in_ok-with_capacity.ensures.items (record { short = none_front (limits_value c.args.limits) })
