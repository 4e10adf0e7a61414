use Rattle.workload_laws.proofs.TurnLemmas.{workload_takes_turns}
use Rattle.workload_laws.proofs.laws.workloads_take_turns.Goals as goal

pub returns : goal.returns
returns c = workload_takes_turns
