use Rattle.std.proofs.Common.{◌≡◌, ◌+◌, ◌≤◌, length}
use Rattle.layout_tuner.specs.Sits.{Sits, known_by}
use Rattle.tune_speed.proofs.rounds.vain_rounds.Given as goal

abbrev pub invariant-loop-round : goal.invariant-loop-round
invariant-loop-round t l = record {
  seat : Sits l.table l.seat;
  vain : length (known_by l.seat).sights + l.vain ≡ length (known_by l.fn.seat).sights + l._round;
  most : l.vain ≤ l._round;
}
