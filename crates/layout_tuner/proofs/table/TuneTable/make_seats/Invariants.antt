use Rattle.std.proofs.Common.{◌≡◌, []}
use Rattle.layout_tuner.specs.Knows.{Collector, Nothing, new_collector}
use Rattle.layout_tuner.specs.Closed.{HasNewSeats}
use Rattle.layout_tuner.proofs.table.TuneTable.make_seats.Given as goal

-- the seats so far were made
abbrev pub invariant-loop-number : goal.invariant-loop-number
invariant-loop-number l = record {
  seat : l.collect.seat.table_id ≡ l.fn.collect.seat.table_id;
  me : l.collect.seat.me ≡ (Collector l.number [] Nothing new_collector, []);
  seats : HasNewSeats l.self l.number l.seats.items;
}
