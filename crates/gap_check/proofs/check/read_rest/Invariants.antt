use Rattle.std.proofs.Common.{length}
use Rattle.gap_check.proofs.TraceLemmas.{GoesBack}
use Rattle.gap_check.proofs.check.read_rest.Given as goal

abbrev pub invariant-packets : goal.invariant-packets
invariant-packets l = GoesBack l.fn.reader l.reader

abbrev pub decreases-packets : goal.decreases-packets
decreases-packets l = length l.reader.rest
