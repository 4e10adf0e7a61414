use Rattle.std.proofs.Common.{◌≡◌, ◌+◌, ◌*◌, ◌≤◌, length}
use Rattle.layout_tuner.specs.PageWords.{spot}
use Rattle.layout_tuner.specs.Collecting.{Collects, IsCaughtUp}
use Rattle.layout_tuner.specs.Sits.{Attends, known_by_collector}
use Rattle.layout_tuner.proofs.table.TuneTable.collect.Given as goal

-- each place of the pages so far was looked at
abbrev pub invariant-loop-page : goal.invariant-loop-page
invariant-loop-page l = record {
  seat : Attends l.self l.seat;
  collects : Collects (14 * l.page) (known_by_collector l.fn.seat) (known_by_collector l.seat);
  count : length (known_by_collector l.seat).taken ≡ length (known_by_collector l.fn.seat).taken + l.count;
  most : l.count ≤ 14 * l.page;
  caught_up : IsCaughtUp l.self.shape.users (14 * l.page) (known_by_collector l.seat);
}

abbrev pub invariant-loop-place : goal.invariant-loop-place
invariant-loop-place l = record {
  seat : Attends l.self l.seat;
  collects : Collects (spot l.page l.place) (known_by_collector l.fn.seat) (known_by_collector l.seat);
  count : length (known_by_collector l.seat).taken ≡ length (known_by_collector l.fn.seat).taken + l.count;
  most : l.count ≤ spot l.page l.place;
  caught_up : IsCaughtUp l.self.shape.users (spot l.page l.place) (known_by_collector l.seat);
}
