use Rattle.std.specs.Prelude.{◌-◌, length}
use Rattle.packet_check.proofs.CheckLemmas.{IsTakenTo}
use Rattle.packet_check.proofs.check.walk_over.Given as goal

abbrev pub invariant-loop-at : goal.invariant-loop-at
invariant-loop-at l = IsTakenTo l.fn.walk l.there l.piece l.at

abbrev pub decreases-loop-at : goal.decreases-loop-at
decreases-loop-at l = length l.piece - l.at
