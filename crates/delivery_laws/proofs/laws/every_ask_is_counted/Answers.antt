use Rattle.delivery_laws.proofs.AskLemmas.{every_ask_is_counted}
use Rattle.delivery_laws.proofs.laws.every_ask_is_counted.Goals as goal

pub returns : goal.returns
returns c = every_ask_is_counted
