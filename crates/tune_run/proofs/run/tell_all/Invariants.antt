use Rattle.std.proofs.Common.{◌≡◌, ◌++◌, length}
use Rattle.std.specs.Prelude.{vec_capacity}
use Rattle.std.specs.Vec.Iter.{into_iter_items, into_iter_len}
use Rattle.layout_tuner.specs.Sits.{Attends, known_by_collector}
use Rattle.tune_run.specs.Told.{HaveTold}
use Rattle.tune_run.proofs.run.tell_all.Given as goal

-- the users so far have told
abbrev pub invariant-loop-job : goal.invariant-loop-job
invariant-loop-job l = record {
  all : l.yielded ++ into_iter_items l.job-iterator ≡ into_iter_items l.initial.job-iterator;
  count : length (into_iter_items l.job-iterator) ≡ into_iter_len l.job-iterator;
  collect : Attends l.fn.table l.collect;
  told : HaveTold l.fn.table l.fn.turns (length l.yielded) (known_by_collector l.collect) l.counts.items l.seats.items;
  taken : (known_by_collector l.collect).taken ≡ (known_by_collector l.fn.collect).taken;
  counts_room : vec_capacity l.counts ≡ vec_capacity l.initial.counts;
  seats_room : vec_capacity l.seats ≡ vec_capacity l.initial.seats;
}
