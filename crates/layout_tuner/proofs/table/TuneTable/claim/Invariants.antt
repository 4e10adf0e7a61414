use Rattle.std.proofs.Common.{◌≡◌, ◌+◌, ◌*◌}
use Rattle.layout_tuner.specs.PageWords.{spot}
use Rattle.layout_tuner.specs.Claiming.{AsksInVain}
use Rattle.layout_tuner.specs.Sits.{Sits, known_by}
use Rattle.layout_tuner.proofs.table.TuneTable.claim.Given as goal

-- each place of the pages so far was asked for in vain
abbrev pub invariant-loop-page : goal.invariant-loop-page
invariant-loop-page t l = record {
  seat : Sits l.self l.seat;
  number : l.seat.number ≡ l.fn.seat.number;
  vain : AsksInVain (14 * l.page) (known_by l.fn.seat) (known_by l.seat);
  steps : l.steps ≡ l.fn.steps + 14 * l.page;
}

abbrev pub invariant-loop-place : goal.invariant-loop-place
invariant-loop-place t l = record {
  seat : Sits l.self l.seat;
  number : l.seat.number ≡ l.fn.seat.number;
  vain : AsksInVain (spot l.page l.place) (known_by l.fn.seat) (known_by l.seat);
  steps : l.steps ≡ l.fn.steps + spot l.page l.place;
}
