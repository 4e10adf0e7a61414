-- The events of a tracing service, and the buffers and the trace that they lead to, as one fold.
use Rattle.std.specs.Prelude.{ℕ, ◌-◌, ◌==◌, List, [], ◌∷◌, ◌++◌, length, map, if◌then◌else◌}
use Rattle.std.specs.List.{flat_map}
use Rattle.trace_model.specs.Images.{Image, Chunk, Patch}
use Rattle.trace_model.specs.Sequences.{is_known}
use Rattle.trace_model.specs.Buffers.{Buffer}
use Rattle.trace_model.specs.Arrivals.{with_arrival, with_partial_arrival, with_image}
use Rattle.trace_model.specs.Patches.{with_patches, with_close}
use Rattle.trace_model.specs.Reads.{Delivery, delivered_by, with_read}
use Rattle.trace_model.specs.Record.{record_of}
use Rattle.trace_model.specs.Delivery.{Delivered}

-- an event of the service
pub data Event : Type 0 where
  -- a complete chunk of the sequence's writer arrives
  Arrives : (sequence chunk_id : ℕ) → Chunk → Event
  -- the first fragments of a chunk arrive, which its writer holds
  ArrivesInPart : (sequence chunk_id : ℕ) → Chunk → Event
  -- the patches of a commit body are applied, in their order
  Patched : (sequence : ℕ) → List Patch → Event
  -- an image arrives that came by a commit, and then the patches given with it are applied
  Committed : Image → List Patch → Event
  Closed : (sequence : ℕ) → Event
  Read : (sequence limit : ℕ) → Event

-- the sequence that an event is about
abbrev pub event_sequence : Event → ℕ
event_sequence (Arrives sequence chunk_id chunk) = sequence
event_sequence (ArrivesInPart sequence chunk_id chunk) = sequence
event_sequence (Patched sequence patches) = sequence
event_sequence (Committed image patches) = image.sequence
event_sequence (Closed sequence) = sequence
event_sequence (Read sequence limit) = sequence

-- the buffer of the event's sequence after it
abbrev pub after : Buffer → Event → Buffer
after buffer (Arrives sequence chunk_id chunk) = with_arrival buffer sequence chunk_id chunk
after buffer (ArrivesInPart sequence chunk_id chunk) = with_partial_arrival buffer sequence chunk_id chunk
after buffer (Patched sequence patches) = with_patches buffer sequence patches
after buffer (Committed image patches) = with_patches (with_image buffer image) image.sequence patches
after buffer (Closed sequence) = with_close buffer sequence
after buffer (Read sequence limit) = with_read buffer sequence limit

-- a buffer takes part in the events of its own sequences alone
abbrev pub buffer_after : Buffer → Event → Buffer
buffer_after buffer event = if is_known buffer.sequences (event_sequence event) then after buffer event else buffer

-- the buffer after all events of a history
abbrev pub state_after : Buffer → List Event → Buffer
state_after buffer [] = buffer
state_after buffer (event ∷ events) = state_after (buffer_after buffer event) events

-- what an event delivers of a sequence
abbrev pub delivered_at : ℕ → Buffer → Event → List Delivery
delivered_at sequence buffer (Read other limit) = if other == sequence then delivered_by buffer other limit else []
delivered_at sequence buffer event = []

-- what a history delivers of a sequence of the buffer
abbrev pub delivered_to : ℕ → Buffer → List Event → List Delivery
delivered_to sequence buffer [] = []
delivered_to sequence buffer (event ∷ events) =
    delivered_at sequence buffer event ++ delivered_to sequence (buffer_after buffer event) events

-- The whole service: its buffers have distinct sequences.

abbrev pub buffers_after : List Buffer → List Event → List Buffer
buffers_after buffers events = map (λ buffer. state_after buffer events) buffers

-- a delivery as the record that it is in the trace
abbrev pub record_in : ℕ → Delivery → Delivered
record_in sequence delivery =
    record { sequence = sequence; bytes = record_of delivery.body sequence delivery.marked }

-- the records that an event writes
abbrev pub records_at : List Buffer → Event → List Delivered
records_at buffers (Read sequence limit) =
    flat_map
    (λ buffer.
    if is_known buffer.sequences sequence then map (record_in sequence) (delivered_by buffer sequence limit) else [])
    buffers
records_at buffers event = []

-- the records that a history writes, in their order
abbrev pub records_after : List Buffer → List Event → List Delivered
records_after buffers [] = []
records_after buffers (event ∷ events) =
    records_at buffers event ++ records_after (map (λ buffer. buffer_after buffer event) buffers) events

-- Reading a whole buffer with a limit: its sequences in the given order, each with what is left of the limit.
abbrev pub reads_of : ℕ → Buffer → List ℕ → List Event
reads_of limit buffer [] = []
reads_of limit buffer (sequence ∷ others) =
    Read sequence limit
    ∷ reads_of (limit - length (delivered_by buffer sequence limit)) (with_read buffer sequence limit) others
