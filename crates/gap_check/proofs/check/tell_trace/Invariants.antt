use Rattle.std.proofs.Common.{length}
use Rattle.gap_check.proofs.TraceLemmas.{IsTelling}
use Rattle.gap_check.proofs.check.tell_trace.Given as goal

abbrev pub invariant-packets : goal.invariant-packets
invariant-packets l = IsTelling l.emitted l.trace l.tellers l.reader l.count

abbrev pub decreases-packets : goal.decreases-packets
decreases-packets l = length l.reader.rest
