use Rattle.schedule_laws.proofs.AccountLemmas.{schedules_are_accounts}
use Rattle.schedule_laws.proofs.laws.schedules_are_accounts.Goals as goal

pub returns : goal.returns
returns c = schedules_are_accounts
