use Rattle.schedule_laws.proofs.CommitLemmas.{serving_is_in_order}
use Rattle.schedule_laws.proofs.laws.serving_is_in_order.Goals as goal

pub returns : goal.returns
returns g c = serving_is_in_order _
