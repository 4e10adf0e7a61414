use Rattle.chunk_schedules.proofs.ArrivalLemmas.{freed_have_arrived}
use Rattle.chunk_schedules.proofs.laws.freed_have_arrived.Goals as goal

pub returns : goal.returns
returns c = freed_have_arrived
