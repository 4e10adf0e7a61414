use Rattle.chunk_plain.proofs.LayingLemmas.{producers_apart}
use Rattle.schedule_laws.proofs.laws.setups_are_apart.Goals as goal

pub returns : goal.returns
returns c = producers_apart
