-- The sequences before this one are counted.
use Rattle.std.proofs.Common.{◌≡◌, ℕ, ◌<◌, length, get_or}
use Rattle.trace_model.specs.History.{buffers_after}
use Rattle.chunk_plain.specs.Histories.{history_of}
use Rattle.loss_report.specs.declared.counts.SequenceCounts.{SequenceCounts}
use Rattle.service_core.specs.Agreement.{first_of, spec_at}
use Rattle.stream_producer.specs.Standing.{view_of}
use Rattle.stream_producer.proofs.CountLemmas.{count_of}
use Rattle.stream_producer.proofs.counting.Player+W+W+Service.count_sequences.Given as goal

abbrev pub invariant-loop-place : goal.invariant-loop-place
invariant-loop-place g l = record {
  long : length l.sequences ≡ length l.fn.sequences;
  each : (k : ℕ) (d : SequenceCounts) → k < l.place → get_or l.sequences k d
      ≡ count_of (buffers_after (first_of (g.W.Words.means.setup l.self.table) l.self.service)
      (history_of (view_of g.W.Words.means l.self))) k
      (spec_at (g.W.Words.means.setup l.self.table).writers k);
}
