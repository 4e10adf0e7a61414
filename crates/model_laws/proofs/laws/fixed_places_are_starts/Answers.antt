use Rattle.model_laws.proofs.ReportLemmas.{fixed_places_are_starts}
use Rattle.model_laws.proofs.laws.fixed_places_are_starts.Goals as goal

pub returns : goal.returns
returns c = fixed_places_are_starts
