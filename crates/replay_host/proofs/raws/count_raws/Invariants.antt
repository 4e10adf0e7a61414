use Rattle.std.proofs.Common.{◌≡◌, ◌+◌, ◌≤◌, length}
use Rattle.replay_host.specs.Raws.{raws_in}
use Rattle.replay_host.proofs.raws.count_raws.Given as goal

abbrev pub invariant-lines : goal.invariant-lines
invariant-lines l = record {
  counted : l.count + raws_in l.walk ≡ raws_in l.fn.lines;
  few : l.count + length l.walk ≤ length l.fn.lines;
}

abbrev pub decreases-lines : goal.decreases-lines
decreases-lines l = length l.walk
