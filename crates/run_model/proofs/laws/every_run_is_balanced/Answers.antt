use Rattle.run_model.proofs.CountLemmas.{every_run_is_balanced}
use Rattle.run_model.proofs.laws.every_run_is_balanced.Goals as goal

pub returns : goal.returns
returns c = every_run_is_balanced
