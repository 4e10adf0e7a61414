use Rattle.world_model.proofs.FrontLemmas.{finds_are_fronts}
use Rattle.world_model.proofs.laws.finds_are_fronts.Goals as goal

pub returns : goal.returns
returns c = finds_are_fronts
