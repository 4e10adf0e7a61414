use Rattle.std.proofs.Common.{◌≡◌, ◌++◌, [], length}
use Rattle.std.specs.Vec.Iter.{into_iter_items, into_iter_len}
use Rattle.chunk_words.specs.Closed.{views_of}
use Rattle.chunk_words.specs.Knows.{Service, made_of, desk_of, watch_of, service_of, with_views}
use Rattle.chunk_words.proofs.host.HostTable.join_all.Given as goal

-- the seats so far were taken in
abbrev pub invariant-loop-mine : goal.invariant-loop-mine
invariant-loop-mine l = record {
  seat : l.service.seat.table_id ≡ l.fn.service.seat.table_id;
  me : l.service.seat.me ≡ (Service 0 (made_of l.fn.service.seat.me.0) (with_views (desk_of l.fn.service.seat.me.0) (views_of l.yielded)) (watch_of l.fn.service.seat.me.0) (service_of l.fn.service.seat.me.0), []);
  all : l.yielded ++ into_iter_items l.mine-iterator ≡ into_iter_items l.initial.mine-iterator;
  count : length (into_iter_items l.mine-iterator) ≡ into_iter_len l.mine-iterator;
}
