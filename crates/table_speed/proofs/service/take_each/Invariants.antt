use Rattle.chunk_words.specs.Sits.{Attends}
use Rattle.table_speed.specs.Taking.{HasTakenEach}
use Rattle.table_speed.proofs.service.take_each.Given as goal

abbrev pub invariant-loop-chunk : goal.invariant-loop-chunk
invariant-loop-chunk l = record {
  seat : Attends l.fn.host l.seat;
  taken : HasTakenEach l.counts l.seat;
}
