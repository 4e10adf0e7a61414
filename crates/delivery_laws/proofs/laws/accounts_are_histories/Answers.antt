use Rattle.delivery_laws.proofs.ReportLemmas.{accounts_are_histories}
use Rattle.delivery_laws.proofs.laws.accounts_are_histories.Goals as goal

pub returns : goal.returns
returns c = accounts_are_histories
