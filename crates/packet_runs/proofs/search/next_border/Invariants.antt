use Rattle.packet_runs.specs.Tellers.{run_at}
use Rattle.packet_runs.proofs.BorderLemmas.{IsCandidate}
use Rattle.packet_runs.proofs.search.next_border.Given as goal

abbrev pub invariant-borders : goal.invariant-borders
invariant-borders l = IsCandidate (run_at l.emitted l.place) l.len l.border

abbrev pub decreases-borders : goal.decreases-borders
decreases-borders l = l.border
