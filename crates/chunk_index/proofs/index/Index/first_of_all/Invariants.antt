use Rattle.chunk_index.specs.Least.{IsLeast}
use Rattle.chunk_index.proofs.index.Index.first_of_all.Given as goal

abbrev pub invariant-loop-slot : goal.invariant-loop-slot
invariant-loop-slot l = IsLeast l.slot-items l.slot-index l.low l.high l.best
