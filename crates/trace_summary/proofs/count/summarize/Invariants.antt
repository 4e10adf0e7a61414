use Rattle.std.proofs.Common.{length}
use Rattle.std.specs.BTreeMap.{IsOrdered}
use Rattle.std.specs.Ordering.{nat_cmp}
use Rattle.trace_summary.specs.Tallies.{totals_in}
use Rattle.trace_summary.proofs.CountLemmas.{IsCounted}
use Rattle.trace_summary.proofs.count.summarize.Given as goal

abbrev pub invariant-packets : goal.invariant-packets
invariant-packets l = record {
  counted : IsCounted l.trace l.reader (totals_in l.tally) l.all;
  rising : IsOrdered nat_cmp l.tally.sequences;
}

abbrev pub decreases-packets : goal.decreases-packets
decreases-packets l = length l.reader.rest
