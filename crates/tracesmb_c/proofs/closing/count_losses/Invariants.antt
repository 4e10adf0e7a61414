-- The writers before this one are counted.
use Rattle.std.proofs.Common.{◌≡◌, ℕ, ◌<◌, length}
use Rattle.std.specs.Prelude.{slice_index_or}
use Rattle.chunk_words.specs.declared.host.HostTable.{HostTable}
use Rattle.thread_service.specs.Serving.{Serves}
use Rattle.tracesmb_c.specs.Losing.{losses_at, no_losses}
use Rattle.tracesmb_c.specs.Ending.{none_counted}
use Rattle.tracesmb_c.proofs.closing.count_losses.Given as goal

abbrev pub invariant-writers : goal.invariant-writers
invariant-writers l = record {
  long : length l.losses ≡ length l.fn.losses;
  each : (table : HostTable) → Serves table l.service → (k : ℕ) → k < l.place
      → slice_index_or l.losses k no_losses ≡ losses_at table l.service k (slice_index_or l.counts k none_counted);
}
