use Rattle.run_model.proofs.CompleteLemmas.{every_enough_run_is_complete}
use Rattle.run_model.proofs.laws.every_enough_run_is_complete.Goals as goal

pub returns : goal.returns
returns c = every_enough_run_is_complete
