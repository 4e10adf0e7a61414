use Rattle.delivery_laws.proofs.OrderLemmas.{every_writer_is_told}
use Rattle.delivery_laws.proofs.laws.every_writer_is_told.Goals as goal

pub returns : goal.returns
returns c = every_writer_is_told
