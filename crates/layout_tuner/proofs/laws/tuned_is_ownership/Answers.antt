use Rattle.layout_tuner.proofs.Owners.{tuned_ownership}
use Rattle.layout_tuner.proofs.laws.tuned_is_ownership.Goals as goal

pub returns : goal.returns
returns c = tuned_ownership
