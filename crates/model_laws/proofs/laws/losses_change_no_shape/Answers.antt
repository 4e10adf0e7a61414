use Rattle.model_laws.proofs.LossLemmas.{losses_change_no_shape}
use Rattle.model_laws.proofs.laws.losses_change_no_shape.Goals as goal

pub returns : goal.returns
returns c = losses_change_no_shape
