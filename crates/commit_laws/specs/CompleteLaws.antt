-- Nothing of a stream of commits is absent where the bytes suffice and the packet check accepts what was emitted.
use Rattle.std.specs.Prelude.{◌≡◌, ℕ, ◌*◌, ◌≤◌, true, List, reverse, All}
use Rattle.trace_base.specs.declared.policy.FullPolicy.{FullPolicy}
use Rattle.trace_model.specs.Buffers.{Buffer, empty_buffer}
use Rattle.trace_model.specs.Calls.{Call}
use Rattle.trace_model.specs.Delivery.{records_of}
use Rattle.trace_model.specs.History.{Event, delivered_to, records_after}
use Rattle.trace_model.specs.Packets.{emissions_of, packets_of}
use Rattle.trace_model.specs.Pages.{Page}
use Rattle.trace_model.specs.Sequences.{Sequence, IsFresh, is_known, sequence_in}
use Rattle.trace_model.specs.Walks.{is_accepted}
use Rattle.chunk_plain.specs.Setup.{Setup, sequence_of}
use Rattle.world_model.specs.FirstBuffers.{BufferSpec, first_buffers}
use Rattle.commit_laws.specs.Commits.{AreByCommits}
use Rattle.commit_laws.specs.Complete.{IsReadOut, TellsAt, commits_to, kept_bodies, kept_places, largest_record}
use Rattle.commit_laws.specs.Streams.{IsBufferOf, IsStreamOf}
use Rattle.commit_laws.specs.StreamLaws.{records_in}

-- Of one buffer that takes commits alone, and has room for a largest record for each, and is read at the end: each emitted
-- packet that has a chain without a drop mark is in a record, and there are no other records. The packet check accepts each of
-- these packets: one that it refuses is passed as cut. What it makes of packets that were dropped is free.
abbrev pub EveryStreamIsComplete : Type 0
EveryStreamIsComplete =
    (size : ℕ) (calls : List Call) (pages : List Page) (room : ℕ) (policy : FullPolicy) (sequences : List Sequence)
    (sequence record_size : ℕ) (events : List Event)
    → is_known sequences sequence ≡ true → IsFresh sequence record_size (sequence_in sequences sequence)
    → IsStreamOf size calls pages sequence (empty_buffer room policy sequences) events
    → All (λ (body : List ℕ). is_accepted body ≡ true) (kept_bodies (reverse (packets_of calls)))
    → AreByCommits events → commits_to sequences events * largest_record sequences ≤ room
    → IsReadOut sequence (empty_buffer room policy sequences) events
    → TellsAt (emissions_of calls) sequence true 0 (kept_places 0 (reverse (packets_of calls)))
    (records_in sequence (delivered_to sequence (empty_buffer room policy sequences) events))

-- Of all buffers of a service that takes commits alone, of which that of the sequence's writer has the room and is read at the end.
abbrev pub StreamsAreComplete : Type 0
StreamsAreComplete =
    (setup : Setup) (buffers : List BufferSpec) (place : ℕ) (buffer : Buffer) → IsBufferOf setup buffers place buffer
    → (size : ℕ) (calls : List Call) (pages : List Page) (events : List Event)
    → IsStreamOf size calls pages (sequence_of place) buffer events
    → All (λ (body : List ℕ). is_accepted body ≡ true) (kept_bodies (reverse (packets_of calls)))
    → AreByCommits events → commits_to buffer.sequences events * largest_record buffer.sequences ≤ buffer.room
    → IsReadOut (sequence_of place) buffer events
    → TellsAt (emissions_of calls) (sequence_of place) true 0 (kept_places 0 (reverse (packets_of calls)))
    (records_of (sequence_of place) (records_after (first_buffers setup 1 buffers) events))
