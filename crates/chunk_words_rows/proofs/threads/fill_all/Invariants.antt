use Rattle.std.proofs.Common.{◌≡◌, ◌≤◌, length}
use Rattle.chunk_plain.specs.Owned.{held_count}
use Rattle.chunk_plain.specs.Meaning.{IsWriterStep}
use Rattle.chunk_words_rows.proofs.threads.fill_all.Given as goal

abbrev pub invariant-loop-round : goal.invariant-loop-round
invariant-loop-round g l = record {
  step : IsWriterStep g.W.Words.means l.fn.table l.fn.seat l.table l.seat;
  next : l.won ≡ length (g.W.Words.means.view l.table l.seat).begun;
  none_held : held_count (g.W.Words.means.view l.table l.seat).begun ≡ 0;
  most : l.won ≤ l.round;
}
