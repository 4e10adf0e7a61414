use Rattle.std.proofs.Common.{length}
use Rattle.scenario_check.proofs.CallLemmas.{HasTakenNodes}
use Rattle.scenario_check.proofs.emit.emit_fields.Given as goal

abbrev pub invariant-nodes : goal.invariant-nodes
invariant-nodes l = HasTakenNodes l.fields l.coming l.fn.emitter l.emitter

abbrev pub decreases-nodes : goal.decreases-nodes
decreases-nodes l = length l.coming
