use Rattle.service_core.proofs.AccountLemmas.{leads_are_in_order}
use Rattle.service_core.proofs.laws.leads_are_in_order.Goals as goal

pub returns : goal.returns
returns c = leads_are_in_order
