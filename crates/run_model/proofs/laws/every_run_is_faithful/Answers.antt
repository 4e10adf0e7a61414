use Rattle.run_model.proofs.FaithfulLemmas.{every_run_is_faithful}
use Rattle.run_model.proofs.laws.every_run_is_faithful.Goals as goal

pub returns : goal.returns
returns c = every_run_is_faithful
