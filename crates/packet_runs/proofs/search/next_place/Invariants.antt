use Rattle.std.proofs.Common.{◌+◌, ◌*◌, ◌-◌, length}
use Rattle.packet_runs.proofs.SearchLemmas.{IsTrying}
use Rattle.packet_runs.proofs.search.next_place.Given as goal

abbrev pub invariant-places : goal.invariant-places
invariant-places l = IsTrying l.emitted l.place l.len l.packet l.at l.matched

abbrev pub decreases-places : goal.decreases-places
decreases-places l = 2 * (length l.emitted - (l.at + l.matched)) + l.matched
