use Rattle.std.proofs.Common.{◌+◌, ◌≤◌}
use Rattle.chunk_words.specs.Sits.{Attends}
use Rattle.chunk_words_rows.specs.Page.{HasTakenOf}
use Rattle.chunk_words_rows.proofs.writing.take_all.Given as goal

abbrev pub invariant-loop-look : goal.invariant-loop-look
invariant-loop-look l = record {
  seat : Attends l.fn.host l.seat;
  taken : HasTakenOf l.now.first l.now.second l.seat;
  first_most : l.now.first ≤ l.fn.counts.first + l.look;
  second_most : l.now.second ≤ l.fn.counts.second + l.look;
}
