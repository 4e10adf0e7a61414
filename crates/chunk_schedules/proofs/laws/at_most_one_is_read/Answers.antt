use Rattle.chunk_schedules.proofs.ReadLemmas.{at_most_one_is_read}
use Rattle.chunk_schedules.proofs.laws.at_most_one_is_read.Goals as goal

pub returns : goal.returns
returns c = at_most_one_is_read
