use Rattle.std.proofs.Common.{◌≡◌, ◌+◌, ◌≤◌, length}
use Rattle.chunk_words.specs.Sits.{Attends}
use Rattle.chunk_words_rows.specs.Page.{HasTaken}
use Rattle.chunk_words_rows.proofs.serving.serve_page.Given as goal

abbrev pub invariant-loop-round : goal.invariant-loop-round
invariant-loop-round l = record {
  seat : Attends l.fn.host l.seat;
  next : HasTaken l.next l.seat;
  most : l.next ≤ l.fn.first + l.round;
  size : length l.copy ≡ 284;
}
