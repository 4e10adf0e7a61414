-- The buffers before this one are counted.
use Rattle.std.proofs.Common.{◌≡◌, ℕ, ◌<◌, length, get_or}
use Rattle.trace_model.specs.History.{buffers_after}
use Rattle.chunk_plain.specs.Histories.{history_of}
use Rattle.trace_buffer.specs.Answers as answers
use Rattle.trace_buffer.specs.declared.answers.BufferCounts.{BufferCounts}
use Rattle.service_core.specs.Agreement.{first_of}
use Rattle.service_core.specs.Routing.{buffer_at}
use Rattle.stream_producer.specs.Standing.{view_of}
use Rattle.stream_producer.proofs.counting.Player+W+W+Service.count_buffers.Given as goal

abbrev pub invariant-loop-index : goal.invariant-loop-index
invariant-loop-index g l = record {
  long : length l.buffers ≡ length l.fn.buffers;
  each : (k : ℕ) (d : BufferCounts) → k < l.index → get_or l.buffers k d
      ≡ answers.counts_of (buffer_at (buffers_after (first_of (g.W.Words.means.setup l.self.table) l.self.service)
      (history_of (view_of g.W.Words.means l.self))) k);
}
