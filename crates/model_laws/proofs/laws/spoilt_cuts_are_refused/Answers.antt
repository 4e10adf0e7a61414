use Rattle.model_laws.proofs.SpoiltLemmas.{spoilt_cuts_are_refused}
use Rattle.model_laws.proofs.laws.spoilt_cuts_are_refused.Goals as goal

pub returns : goal.returns
returns c = spoilt_cuts_are_refused
