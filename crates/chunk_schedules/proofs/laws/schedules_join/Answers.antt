use Rattle.chunk_schedules.proofs.ScheduleLemmas.{schedules_join}
use Rattle.chunk_schedules.proofs.laws.schedules_join.Goals as goal

pub returns : goal.returns
returns c = schedules_join
