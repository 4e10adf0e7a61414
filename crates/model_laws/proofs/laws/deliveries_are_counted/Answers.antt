use Rattle.model_laws.proofs.DeliveryLemmas.{deliveries_are_counted}
use Rattle.model_laws.proofs.laws.deliveries_are_counted.Goals as goal

pub returns : goal.returns
returns c = deliveries_are_counted
