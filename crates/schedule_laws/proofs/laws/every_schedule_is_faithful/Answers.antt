use Rattle.schedule_laws.proofs.AccountLemmas.{every_schedule_is_faithful}
use Rattle.schedule_laws.proofs.laws.every_schedule_is_faithful.Goals as goal

pub returns : goal.returns
returns c = every_schedule_is_faithful
