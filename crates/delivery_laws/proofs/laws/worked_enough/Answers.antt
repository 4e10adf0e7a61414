use Rattle.delivery_laws.proofs.WorkedAccountLemmas.{worked_enough}
use Rattle.delivery_laws.proofs.laws.worked_enough.Goals as goal

pub returns : goal.returns
returns c = worked_enough
