-- What a history asks of its buffer's bytes: a record for each chunk, whole or in part, that has none.
use Rattle.std.specs.Prelude.{◌≡◌, ℕ, ◌+◌, ◌*◌, ◌<◌, Bool, true, false, List, [], ◌∷◌, length, if◌then◌else◌, ⊤}
use Rattle.trace_model.specs.Sequences.{Sequence, sequence_in, is_known}
use Rattle.trace_model.specs.Buffers.{Buffer}
use Rattle.trace_model.specs.Arrivals.{Arrived, Kept, Discarded, arrival_of, partial_arrival_of, image_arrival_of}
use Rattle.trace_model.specs.History.{Event, Arrives, ArrivesInPart, Patched, Committed, Closed, Read, event_sequence, buffer_after}

-- the outcome needs a new place, whether it gets one or not
abbrev pub is_placing : Arrived → Bool
is_placing Kept = true
is_placing Discarded = true
is_placing other = false

-- the bytes that an arrival of this outcome asks of the buffer
abbrev pub asks_for : Arrived → ℕ → ℕ
asks_for outcome size = if is_placing outcome then size else 0

-- the bytes that an event asks of the buffer
abbrev pub asks : Buffer → Event → ℕ
asks buffer (Arrives sequence chunk_id chunk) =
    asks_for (arrival_of buffer sequence chunk_id) (sequence_in buffer.sequences sequence).size
asks buffer (ArrivesInPart sequence chunk_id chunk) =
    asks_for (partial_arrival_of buffer sequence chunk_id (length chunk.fragments)) (sequence_in buffer.sequences sequence).size
asks buffer (Committed image patches) =
    asks_for (image_arrival_of buffer image) (sequence_in buffer.sequences image.sequence).size
asks buffer event = 0

-- the bytes of all records that a history asks for
abbrev pub asked : Buffer → List Event → ℕ
asked buffer [] = 0
asked buffer (event ∷ events) =
    (if is_known buffer.sequences (event_sequence event) then asks buffer event else 0) + asked (buffer_after buffer event) events

-- A bound on it

-- the bytes of a record for each of so many chunks of each sequence
abbrev pub wanted : (ℕ → ℕ) → List Sequence → ℕ
wanted chunks [] = 0
wanted chunks (state ∷ others) = chunks state.number * state.size + wanted chunks others

-- of each of these sequences no chunk comes but the first so many
abbrev pub EachBelow : (ℕ → ℕ) → List Sequence → List Event → Type 0
EachBelow chunks sequences [] = ⊤
EachBelow chunks sequences (Arrives sequence chunk_id chunk ∷ events) =
    (is_known sequences sequence ≡ true → chunk_id < chunks sequence) × EachBelow chunks sequences events
EachBelow chunks sequences (ArrivesInPart sequence chunk_id chunk ∷ events) =
    (is_known sequences sequence ≡ true → chunk_id < chunks sequence) × EachBelow chunks sequences events
EachBelow chunks sequences (Committed image patches ∷ events) =
    (is_known sequences image.sequence ≡ true → image.chunk_id < chunks image.sequence) × EachBelow chunks sequences events
EachBelow chunks sequences (Patched sequence patches ∷ events) = EachBelow chunks sequences events
EachBelow chunks sequences (Closed sequence ∷ events) = EachBelow chunks sequences events
EachBelow chunks sequences (Read sequence limit ∷ events) = EachBelow chunks sequences events
