use Rattle.chunk_words.specs.Sits.{Attends}
use Rattle.table_speed.specs.Taking.{HasTakenEach}
use Rattle.table_speed.proofs.service.take_all.Given as goal

abbrev pub invariant-loop : goal.invariant-loop
invariant-loop l = record {
  seat : Attends l.fn.host l.seat;
  taken : HasTakenEach l.counts l.seat;
}
