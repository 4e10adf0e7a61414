use Rattle.model_laws.proofs.StopLemmas.{stop_places_are_first}
use Rattle.model_laws.proofs.laws.stop_places_are_first.Goals as goal

pub returns : goal.returns
returns c = stop_places_are_first
