use Rattle.std.proofs.Common.{◌-◌, length}
use Rattle.trace_file.proofs.ReadLemmas.{IsReadTo}
use Rattle.trace_file.proofs.reader.read_numbers.Given as goal

abbrev pub invariant-fields : goal.invariant-fields
invariant-fields l = IsReadTo l.content l.at l.numbers.sequence l.numbers.mark

abbrev pub decreases-fields : goal.decreases-fields
decreases-fields l = length l.content - l.at
