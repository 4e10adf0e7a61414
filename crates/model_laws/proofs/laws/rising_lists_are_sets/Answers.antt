use Rattle.model_laws.proofs.RisingLemmas.{rising_lists_are_sets}
use Rattle.model_laws.proofs.laws.rising_lists_are_sets.Goals as goal

pub returns : goal.returns
returns c = rising_lists_are_sets
