use Rattle.delivery_laws.proofs.FlushLemmas.{every_flush_is_settled}
use Rattle.delivery_laws.proofs.laws.every_flush_is_settled.Goals as goal

pub returns : goal.returns
returns c = every_flush_is_settled
