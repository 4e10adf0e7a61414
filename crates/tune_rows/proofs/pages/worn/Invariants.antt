use Rattle.std.proofs.Common.{◌≤◌}
use Rattle.tune_rows.specs.Hands.{HasNone}
use Rattle.tune_rows.proofs.pages.worn.Given as goal

abbrev pub invariant-loop-round : goal.invariant-loop-round
invariant-loop-round t l = record {
  seat : HasNone l.fn.table l.seat;
  most : l.well ≤ l._round;
}
