use Rattle.std.proofs.Common.{◌≡◌, length}
use Rattle.chunk_words.specs.Sits.{Attends}
use Rattle.table_speed.specs.Holding.{HoldsFresh}
use Rattle.table_speed.proofs.payload.pass_words.Given as goal

abbrev pub invariant-loop : goal.invariant-loop
invariant-loop l = record {
  held : HoldsFresh l.fn.host l.seat l.held;
  service : Attends l.fn.host l.service;
  size : length l.copy ≡ 284;
}
