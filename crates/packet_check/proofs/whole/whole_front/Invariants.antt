use Rattle.std.specs.Prelude.{◌-◌, length}
use Rattle.packet_check.proofs.CheckLemmas.{IsWalkedTo}
use Rattle.packet_check.proofs.whole.whole_front.Given as goal

abbrev pub invariant-loop-at : goal.invariant-loop-at
invariant-loop-at l = IsWalkedTo l.bytes l.at

abbrev pub decreases-loop-at : goal.decreases-loop-at
decreases-loop-at l = length l.bytes - l.at
