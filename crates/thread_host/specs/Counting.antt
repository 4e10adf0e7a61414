-- What is counted of a run's buffers and sequences, once all is read.
use Rattle.std.specs.Prelude.{ℕ, ◌-◌, List}
use Rattle.trace_model.specs.Buffers.{Buffer}
use Rattle.trace_model.specs.History.{buffers_after}
use Rattle.trace_model.specs.Sequences.{sequence_in}
use Rattle.trace_buffer.specs.Answers.{state_of}
use Rattle.chunk_plain.specs.Histories.{history_of}
use Rattle.chunk_plain.specs.Setup.{Setup, sequence_of}
use Rattle.loss_report.specs.declared.counts.SequenceCounts.{SequenceCounts}
use Rattle.service_core.specs.Agreement.{first_of, buffer_of}
use Rattle.service_core.specs.Routing.{buffer_at}
use Rattle.replay_host.specs.Counting.{packets_left}
use Rattle.thread_service.specs.declared.service.Service.{Service}
use Rattle.thread_service.specs.Serving.{core_of, view_in}

-- the buffers of a service, by what it has noted
abbrev pub buffers_in : Setup → Service → List Buffer
buffers_in setup service = buffers_after (first_of setup (core_of service)) (history_of (view_in service))

-- the buffer of the writer at this place
abbrev pub buffer_in : Setup → Service → (place : ℕ) → Buffer
buffer_in setup service place = buffer_at (buffers_in setup service) (buffer_of setup place - 1)

-- what became of the packets of the writer at this place, which counted so many as begun and as dropped at their begin
abbrev pub packets_in : Setup → Service → (place : ℕ) → SequenceCounts → SequenceCounts
packets_in setup service place told =
    packets_left told.begun told.dropped
    (state_of (buffer_in setup service place).policy (sequence_in (buffer_in setup service place).sequences (sequence_of place)))
