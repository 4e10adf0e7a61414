use Rattle.std.proofs.Common.{◌≡◌, ◌-◌, length}
use Rattle.chunk_words.specs.Sits.{Attends, known_by}
use Rattle.table_speed.specs.Holding.{MayFill}
use Rattle.table_speed.specs.Taking.{HasTaken}
use Rattle.table_speed.proofs.rounds.go_rounds.Given as goal

abbrev pub invariant-loop : goal.invariant-loop
invariant-loop l = record {
  seat : MayFill l.fn.host l.seat l.chunk;
  next : l.filled ≡ length (known_by l.seat).begun;
  service : Attends l.fn.host l.service;
  taken : HasTaken (l.fn.place.number - 1) l.taken l.service;
}
