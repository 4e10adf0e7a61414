-- The buffers before this one are counted.
use Rattle.std.proofs.Common.{◌≡◌, ℕ, ◌<◌, length, get_or}
use Rattle.trace_buffer.specs.Answers as answers
use Rattle.trace_buffer.specs.declared.answers.BufferCounts.{BufferCounts}
use Rattle.service_core.specs.Routing.{buffer_at}
use Rattle.replay_host.specs.Counting.{buffers_now}
use Rattle.replay_host.proofs.counting.Host+W+W+Writer+W+Service.count_buffers.Given as goal

abbrev pub invariant-loop-index : goal.invariant-loop-index
invariant-loop-index g l = record {
  long : length l.buffers ≡ length l.fn.buffers;
  each : (k : ℕ) (d : BufferCounts) → k < l.index → get_or l.buffers k d
      ≡ answers.counts_of (buffer_at (buffers_now g.W.Words.means l.self) k);
}
