use Rattle.std.proofs.Common.{◌≡◌, ◌++◌, [], length}
use Rattle.std.specs.Vec.Iter.{into_iter_items, into_iter_len}
use Rattle.layout_tuner.specs.Knows.{Collector, made_of, watch_of, collector_of}
use Rattle.layout_tuner.specs.Closed.{views_of}
use Rattle.layout_tuner.proofs.table.TuneTable.join_all.Given as goal

-- the seats so far were taken in
abbrev pub invariant-loop-mine : goal.invariant-loop-mine
invariant-loop-mine l = record {
  seat : l.collect.seat.table_id ≡ l.fn.collect.seat.table_id;
  me : l.collect.seat.me ≡ (Collector (made_of l.fn.collect.seat.me.0) (views_of l.yielded) (watch_of l.fn.collect.seat.me.0) (collector_of l.fn.collect.seat.me.0), []);
  all : l.yielded ++ into_iter_items l.mine-iterator ≡ into_iter_items l.initial.mine-iterator;
  count : length (into_iter_items l.mine-iterator) ≡ into_iter_len l.mine-iterator;
}
