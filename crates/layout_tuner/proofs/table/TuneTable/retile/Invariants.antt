use Rattle.std.proofs.Common.{◌≡◌, ◌+◌}
use Rattle.layout_tuner.specs.PageWords.{layout_in, generation_in}
use Rattle.layout_tuner.specs.Retiling.{WinsFirst}
use Rattle.layout_tuner.specs.Sits.{Sits, known_by}
use Rattle.layout_tuner.proofs.table.TuneTable.retile.Given as goal

-- the chunks so far were won
abbrev pub invariant-loop-place : goal.invariant-loop-place
invariant-loop-place t l = record {
  seat : Sits l.self l.seat;
  number : l.seat.number ≡ l.fn.seat.number;
  wins : WinsFirst l.page l.place (layout_in l.first) (generation_in l.first) (known_by l.fn.seat) (known_by l.seat);
  steps : l.steps ≡ l.fn.steps + l.place;
}
