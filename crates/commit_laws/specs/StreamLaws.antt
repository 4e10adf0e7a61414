-- What is delivered of a stream of commits: packets of its writer, exact, whole, once and in order.
use Rattle.std.specs.Prelude.{◌≡◌, ℕ, true, List, [], map}
use Rattle.trace_base.specs.declared.policy.FullPolicy.{FullPolicy}
use Rattle.trace_model.specs.Buffers.{Buffer, empty_buffer}
use Rattle.trace_model.specs.Calls.{Call}
use Rattle.trace_model.specs.Delivery.{records_of}
use Rattle.trace_model.specs.History.{Event, delivered_to, records_after}
use Rattle.trace_model.specs.Packets.{emissions_of}
use Rattle.trace_model.specs.Pages.{Page}
use Rattle.trace_model.specs.Reads.{Delivery}
use Rattle.trace_model.specs.Record.{record_of}
use Rattle.trace_model.specs.Sequences.{Sequence, IsFresh, is_known, sequence_in}
use Rattle.trace_model.specs.Tells.{Tells}
use Rattle.chunk_plain.specs.Setup.{Setup, sequence_of}
use Rattle.chunk_plain.specs.Views.{WriterView}
use Rattle.world_model.specs.Accounts.{HasCut}
use Rattle.world_model.specs.FirstBuffers.{BufferSpec, first_buffers}
use Rattle.commit_laws.specs.Commits.{page_commits}
use Rattle.commit_laws.specs.Streams.{IsBufferOf, IsCompletedCut, IsStreamOf, completed_commits}

-- the bytes of what is delivered of a sequence
abbrev pub records_in : ℕ → List Delivery → List (List ℕ)
records_in sequence deliveries = map (λ (delivery : Delivery). record_of delivery.body sequence delivery.marked) deliveries

-- Of one buffer: the records of the sequence tell of the packets that the stream's writer emitted, whatever else comes to the buffer.
abbrev pub EveryStreamIsTold : Type 0
EveryStreamIsTold =
    (size : ℕ) (calls : List Call) (pages : List Page) (room : ℕ) (policy : FullPolicy) (sequences : List Sequence)
    (sequence record_size : ℕ) (events : List Event)
    → is_known sequences sequence ≡ true → IsFresh sequence record_size (sequence_in sequences sequence)
    → IsStreamOf size calls pages sequence (empty_buffer room policy sequences) events
    → Tells (emissions_of calls) sequence (records_in sequence (delivered_to sequence (empty_buffer room policy sequences) events))

-- Of all buffers of a service, of which that of the sequence's writer takes the stream.
abbrev pub StreamsAreTold : Type 0
StreamsAreTold =
    (setup : Setup) (buffers : List BufferSpec) (place : ℕ) (buffer : Buffer) → IsBufferOf setup buffers place buffer
    → (size : ℕ) (calls : List Call) (pages : List Page) (events : List Event)
    → IsStreamOf size calls pages (sequence_of place) buffer events
    → Tells (emissions_of calls) (sequence_of place) (records_of (sequence_of place) (records_after (first_buffers setup 1 buffers) events))

-- A writer that holds no chunk leaves what a stream commits: its completed chunks, each with the patches of its body, are pages that are a cut of its packets.
abbrev pub WritersLeaveStreams : Type 0
WritersLeaveStreams = (size place : ℕ) (view : WriterView) → HasCut size place view []
    → (pages : List Page) × IsCompletedCut size view.calls pages × (completed_commits view.begun ≡ page_commits (sequence_of place) 0 pages)
