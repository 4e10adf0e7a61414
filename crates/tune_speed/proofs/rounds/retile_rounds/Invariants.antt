use Rattle.std.proofs.Common.{◌≡◌, ◌+◌, ◌≤◌, length}
use Rattle.layout_tuner.specs.Sits.{known_by}
use Rattle.tune_speed.specs.Ready.{IsReady}
use Rattle.tune_speed.proofs.rounds.retile_rounds.Given as goal

abbrev pub invariant-loop-round : goal.invariant-loop-round
invariant-loop-round t l = record {
  seat : IsReady l.table l.seat;
  done : length (known_by l.seat).retiled ≡ length (known_by l.fn.seat).retiled + l.done;
  most : l.done ≤ l.round;
}
