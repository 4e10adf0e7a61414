use Rattle.delivery_laws.proofs.WorkedAccountLemmas.{worked_account}
use Rattle.delivery_laws.proofs.laws.worked_account.Goals as goal

pub returns : goal.returns
returns c = worked_account
