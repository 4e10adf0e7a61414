use Rattle.delivery_laws.proofs.HistoryLemmas.{every_history_tells}
use Rattle.delivery_laws.proofs.laws.every_history_tells.Goals as goal

pub returns : goal.returns
returns c = every_history_tells
