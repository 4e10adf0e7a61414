use Rattle.std.proofs.Common.{◌-◌, length}
use Rattle.trace_file.proofs.ReadLemmas.{HasPassed}
use Rattle.trace_file.proofs.reader.first_packet.Given as goal

abbrev pub invariant-fields : goal.invariant-fields
invariant-fields l = HasPassed l.bytes l.from l.at

abbrev pub decreases-fields : goal.decreases-fields
decreases-fields l = length l.bytes - l.at
