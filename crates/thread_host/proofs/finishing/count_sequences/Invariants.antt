-- The sequences before this one are counted, and those from it on are as they were.
use Rattle.std.proofs.Common.{◌≡◌, ℕ, ◌<◌, ◌≤◌, length}
use Rattle.std.specs.Prelude.{slice_index_or}
use Rattle.chunk_words.specs.declared.host.HostTable.{HostTable}
use Rattle.chunk_words.specs.Sits.{setup_in}
use Rattle.thread_service.specs.Serving.{Serves}
use Rattle.thread_host.specs.Counting.{packets_in}
use Rattle.thread_host.specs.Ending.{no_counts}
use Rattle.thread_host.proofs.finishing.count_sequences.Given as goal

abbrev pub invariant-sequences : goal.invariant-sequences
invariant-sequences l = record {
  long : length l.sequences ≡ length l.fn.sequences;
  each : (table : HostTable) → Serves table l.service → (k : ℕ) → k < l.place → slice_index_or l.sequences k no_counts
      ≡ packets_in (setup_in table) l.service k (slice_index_or l.fn.sequences k no_counts);
  later : (k : ℕ) → l.place ≤ k → slice_index_or l.sequences k no_counts ≡ slice_index_or l.fn.sequences k no_counts;
}
