use Rattle.chunk_schedules.proofs.ScheduleLemmas.{schedules_keep_ownership}
use Rattle.chunk_schedules.proofs.laws.schedules_keep_ownership.Goals as goal

pub returns : goal.returns
returns c = schedules_keep_ownership
