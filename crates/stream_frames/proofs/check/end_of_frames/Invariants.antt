use Rattle.std.proofs.Common.{◌-◌, length}
use Rattle.stream_frames.specs.Values.{limits_value}
use Rattle.stream_frames.proofs.CheckLemmas.{StandsAt}
use Rattle.stream_frames.proofs.check.end_of_frames.Given as goal

abbrev pub invariant-loop-offset : goal.invariant-loop-offset
invariant-loop-offset l = StandsAt (limits_value l.limits) l.stream l.at

abbrev pub decreases-loop-offset : goal.decreases-loop-offset
decreases-loop-offset l = length l.stream - l.at
