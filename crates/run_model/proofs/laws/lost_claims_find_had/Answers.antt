use Rattle.run_model.proofs.VainLemmas.{lost_claims_find_had}
use Rattle.run_model.proofs.laws.lost_claims_find_had.Goals as goal

pub returns : goal.returns
returns c = lost_claims_find_had
