use Rattle.schedule_laws.proofs.AccountLemmas.{every_served_schedule_is_faithful}
use Rattle.schedule_laws.proofs.laws.every_served_schedule_is_faithful.Goals as goal

pub returns : goal.returns
returns g c = every_served_schedule_is_faithful _
