-- The writers before this one are counted.
use Rattle.std.proofs.Common.{◌≡◌, ℕ, ◌<◌, false, Some, length, get_or}
use Rattle.std.specs.Prelude.{slice_get}
use Rattle.trace_writer.specs.declared.writer.WriterCore.{WriterCore}
use Rattle.loss_report.specs.declared.counts.SequenceCounts.{SequenceCounts}
use Rattle.replay_host.specs.Counting.{packets_now}
use Rattle.replay_host.proofs.counting.Host+W+W+Writer+W+Service.count_sequences.Given as goal

abbrev pub invariant-loop-place : goal.invariant-loop-place
invariant-loop-place g l = record {
  long : length l.sequences ≡ length l.fn.sequences;
  each : (k : ℕ) (core : WriterCore _) (d : SequenceCounts) → k < l.place → slice_get l.self.writers.items k ≡ Some core
      → get_or l.sequences k d ≡ packets_now g.W.Words.means l.self k (get_or l.marks k false) (g.W.Words.means.view l.self.table core.seat).calls;
}
