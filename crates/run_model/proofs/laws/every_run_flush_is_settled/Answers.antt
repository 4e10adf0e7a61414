use Rattle.run_model.proofs.FlushLemmas.{every_run_flush_is_settled}
use Rattle.run_model.proofs.laws.every_run_flush_is_settled.Goals as goal

pub returns : goal.returns
returns c = every_run_flush_is_settled
