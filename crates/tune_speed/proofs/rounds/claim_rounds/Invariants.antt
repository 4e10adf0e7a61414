use Rattle.std.proofs.Common.{◌≡◌, ◌+◌, ◌≤◌, length}
use Rattle.layout_tuner.specs.Sits.{Sits, known_by}
use Rattle.tune_speed.proofs.rounds.claim_rounds.Given as goal

abbrev pub invariant-loop-round : goal.invariant-loop-round
invariant-loop-round t l = record {
  seat : Sits l.table l.seat;
  won : length (known_by l.seat).sights ≡ length (known_by l.fn.seat).sights + l.won;
  most : l.won ≤ l._round;
}
