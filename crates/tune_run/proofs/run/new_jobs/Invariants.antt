use Rattle.std.proofs.Common.{◌≡◌, ◌++◌, length}
use Rattle.std.specs.Vec.Iter.{into_iter_items, into_iter_len}
use Rattle.tune_run.specs.Jobs.{AreReady}
use Rattle.tune_run.proofs.run.new_jobs.Given as goal

-- the jobs of the seats so far
abbrev pub invariant-loop-seat : goal.invariant-loop-seat
invariant-loop-seat l = record {
  all : l.yielded ++ into_iter_items l.seat-iterator ≡ into_iter_items l.initial.seat-iterator;
  count : length (into_iter_items l.seat-iterator) ≡ into_iter_len l.seat-iterator;
  many : length l.jobs.items ≡ length l.yielded;
  ready : AreReady l.fn.table l.jobs.items;
}
