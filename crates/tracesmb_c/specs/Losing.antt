-- What became of the packets of a session's writers.
use Rattle.std.specs.Prelude.{ℕ, ◌-◌}
use Rattle.trace_buffer.specs.Answers.{state_of}
use Rattle.trace_model.specs.Buffers.{Buffer}
use Rattle.trace_model.specs.History.{buffers_after}
use Rattle.trace_model.specs.Sequences.{sequence_in}
use Rattle.chunk_plain.specs.Histories.{history_of}
use Rattle.chunk_plain.specs.Setup.{sequence_of}
use Rattle.chunk_words.specs.declared.host.HostTable.{HostTable}
use Rattle.chunk_words.specs.Sits.{setup_in}
use Rattle.loss_report.specs.declared.counts.SequenceCounts.{SequenceCounts}
use Rattle.replay_host.specs.Counting.{packets_left}
use Rattle.service_core.specs.Agreement.{first_of, buffer_of}
use Rattle.service_core.specs.Routing.{buffer_at}
use Rattle.thread_service.specs.declared.service.Service.{Service}
use Rattle.thread_service.specs.Serving.{core_of, view_in}
use Rattle.tracesmb_c.specs.declared.closing.Losses.{Losses}
use Rattle.tracesmb_c.specs.declared.session.Counted.{Counted}

-- the counts of a sequence, as C reads them
abbrev pub losses_of : SequenceCounts → Losses
losses_of counts = record {
  begun = counts.begun;
  delivered = counts.delivered;
  dropped = counts.dropped;
  overwritten = counts.overwritten;
  discarded = counts.discarded;
  cut = counts.cut;
}

-- those of a writer that there isn't
abbrev pub no_losses : Losses
no_losses = record { begun = 0; delivered = 0; dropped = 0; overwritten = 0; discarded = 0; cut = 0 }

-- the buffer of the writer at this place, by what the service has noted
abbrev pub buffer_for : HostTable → Service → (place : ℕ) → Buffer
buffer_for table service place =
    buffer_at (buffers_after (first_of (setup_in table) (core_of service)) (history_of (view_in service)))
    (buffer_of (setup_in table) place - 1)

-- what became of the packets of the writer at this place, which counted so many
abbrev pub losses_at : HostTable → Service → (place : ℕ) → Counted → Losses
losses_at table service place count =
    losses_of (packets_left count.begun count.dropped
    (state_of (buffer_for table service place).policy (sequence_in (buffer_for table service place).sequences (sequence_of place))))
