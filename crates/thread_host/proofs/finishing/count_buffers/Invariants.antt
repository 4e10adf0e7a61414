-- The buffers before this one are counted.
use Rattle.std.proofs.Common.{◌≡◌, ℕ, ◌<◌, length, get_or}
use Rattle.trace_buffer.specs.Answers as answers
use Rattle.trace_buffer.specs.declared.answers.BufferCounts.{BufferCounts}
use Rattle.service_core.specs.Routing.{buffer_at}
use Rattle.chunk_words.specs.declared.host.HostTable.{HostTable}
use Rattle.chunk_words.specs.Sits.{setup_in}
use Rattle.thread_service.specs.Serving.{Serves}
use Rattle.thread_host.specs.Counting.{buffers_in}
use Rattle.thread_host.proofs.finishing.count_buffers.Given as goal

abbrev pub invariant-buffers : goal.invariant-buffers
invariant-buffers l = record {
  long : length l.buffers ≡ length l.fn.buffers;
  each : (table : HostTable) → Serves table l.service → (k : ℕ) (d : BufferCounts) → k < l.index
      → get_or l.buffers k d ≡ answers.counts_of (buffer_at (buffers_in (setup_in table) l.service) k);
}
