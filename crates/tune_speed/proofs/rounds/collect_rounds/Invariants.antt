use Rattle.std.proofs.Common.{◌≡◌, ◌+◌, ◌*◌, ◌≤◌, length}
use Rattle.layout_tuner.specs.Sits.{Sits, Attends, known_by_collector}
use Rattle.tune_speed.proofs.rounds.collect_rounds.Given as goal

abbrev pub invariant-loop-round : goal.invariant-loop-round
invariant-loop-round t l = record {
  seat : Sits l.table l.seat;
  collect : Attends l.table l.collect;
  taken : length (known_by_collector l.collect).taken ≡ length (known_by_collector l.fn.collect).taken + l.taken;
  most : l.taken ≤ 56 * l._round;
}
