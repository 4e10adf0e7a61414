use Rattle.stream_laws.proofs.WorkedLemmas.{worked_delivery}
use Rattle.stream_laws.proofs.laws.worked_delivery.Goals as goal

pub returns : goal.returns
returns c = worked_delivery
