use Rattle.trace_model.proofs.ToldPlacesLemmas.{tells_by_places}
use Rattle.trace_model.proofs.laws.tells_by_places.Goals as goal

pub returns : goal.returns
returns c = tells_by_places
