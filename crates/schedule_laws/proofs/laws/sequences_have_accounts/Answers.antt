use Rattle.schedule_laws.proofs.ReportLemmas.{sequences_have_accounts}
use Rattle.schedule_laws.proofs.laws.sequences_have_accounts.Goals as goal

pub returns : goal.returns
returns c = sequences_have_accounts
