use Rattle.std.proofs.Common.{◌≡◌, ◌+◌, ◌≤◌, length}
use Rattle.replay_model.specs.Flushes.{requests_in}
use Rattle.replay_host.proofs.making.count_requests.Given as goal

abbrev pub invariant-lines : goal.invariant-lines
invariant-lines l = record {
  counted : l.count + requests_in l.walk ≡ requests_in l.fn.lines;
  few : l.count + length l.walk ≤ length l.fn.lines;
}

abbrev pub decreases-lines : goal.decreases-lines
decreases-lines l = length l.walk
