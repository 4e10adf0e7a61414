use Rattle.gap_check.proofs.TakenLemmas.{AreMade}
use Rattle.gap_check.proofs.tellers.make_tellers.Given as goal

abbrev pub invariant-loop-packets : goal.invariant-loop-packets
invariant-loop-packets l = AreMade l.emitted l.tellers.items l.packets-index
