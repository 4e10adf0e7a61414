use Rattle.delivery_laws.proofs.OutcomeLemmas.{every_outcome_stays}
use Rattle.delivery_laws.proofs.laws.every_outcome_stays.Goals as goal

pub returns : goal.returns
returns c = every_outcome_stays
