use Rattle.std.proofs.Common.{◌≡◌}
use Rattle.layout_tuner.specs.Sits.{Sits, known_by}
use Rattle.tune_run.specs.Turns.{TakesTurns}
use Rattle.tune_run.proofs.turns.tune_turns.Given as goal

-- the turns so far
abbrev pub invariant-loop-turn : goal.invariant-loop-turn
invariant-loop-turn t l = record {
  seat : Sits l.fn.table l.seat;
  number : l.seat.number ≡ l.fn.seat.number;
  turns : TakesTurns l.fn.table.shape.pages l.user l.turn (known_by l.fn.seat) (known_by l.seat) l.counts;
}
