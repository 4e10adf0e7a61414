use Rattle.trace_file.proofs.RecordLemmas.{records_are_cut}
use Rattle.trace_file.proofs.parts.records_are_cut.Goals as goal

pub returns : goal.returns
returns c = records_are_cut
