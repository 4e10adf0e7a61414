use Rattle.chunk_schedules.proofs.TakenLemmas.{arrived_were_taken}
use Rattle.chunk_schedules.proofs.laws.arrived_were_taken.Goals as goal

pub returns : goal.returns
returns c = arrived_were_taken
