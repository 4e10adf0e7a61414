use Rattle.run_model.proofs.FaithfulLemmas.{every_stopped_run_is_faithful}
use Rattle.run_model.proofs.laws.every_stopped_run_is_faithful.Goals as goal

pub returns : goal.returns
returns c = every_stopped_run_is_faithful
