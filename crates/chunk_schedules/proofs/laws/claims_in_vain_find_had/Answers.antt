use Rattle.chunk_schedules.proofs.VainLemmas.{claims_in_vain_find_had}
use Rattle.chunk_schedules.proofs.laws.claims_in_vain_find_had.Goals as goal

pub returns : goal.returns
returns c = claims_in_vain_find_had
