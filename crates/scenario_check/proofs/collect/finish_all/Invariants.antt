use Rattle.std.proofs.Common.{length}
use Rattle.scenario_check.proofs.AskedLemmas.{AreAskedUpTo}
use Rattle.scenario_check.proofs.collect.finish_all.Given as goal

abbrev pub invariant-loop-emitter : goal.invariant-loop-emitter
invariant-loop-emitter l = record {
  iterates : (goal.iterator-loop-emitter).can_next l.emitter-iterator × (goal.iterator-loop-emitter).is_finite l.emitter-iterator;
  asked : AreAskedUpTo l.fn.emitters.items (length l.yielded) l.packets.items;
}
