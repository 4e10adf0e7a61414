-- Worked examples whole: what the service does with the pages of writers, the bytes of the trace, and the report.
use Rattle.std.specs.Prelude.{◌≡◌, ℕ, zero, suc, ◌-◌, ◌*◌, ◌^◌, true, false, List, [], ◌∷◌, ◌++◌, length, map, take}
use Rattle.std.specs.List.{flat_map}
use Rattle.page_geometry.specs.Sizes.{record_size}
use Rattle.trace_base.specs.declared.policy.FullPolicy.TheVariants.{Ring, Discard}
use Rattle.trace_model.specs.Calls.{Call, Begun, Number, Finished}
use Rattle.trace_model.specs.Encoding.{NoFields, NumberField}
use Rattle.trace_model.specs.Images.{first_fragments}
use Rattle.trace_model.specs.Packets.{packets_of}
use Rattle.trace_model.specs.Pages.{Page, chunk_of, patches_of}
use Rattle.trace_model.specs.Sequences.{fresh, sequence_in}
use Rattle.trace_model.specs.Buffers.{Buffer, empty_buffer}
use Rattle.trace_model.specs.Row.{Missing, Unpatched, row_from_cursor}
use Rattle.trace_model.specs.Reads.{ReadEnd, AtLimit, Stopped, read_end}
use Rattle.trace_model.specs.History.{Event, Arrives, ArrivesInPart, Patched, Closed, Read, state_after, records_after}
use Rattle.trace_model.specs.Delivery.{trace_of}
use Rattle.trace_model.specs.Balance.{PacketCounts, counts_of}
use Rattle.trace_model.specs.Cut.{CutsInto}
use Rattle.trace_model.specs.WorkedWriters.{letters, letter_field, whole, number_calls, number_page, plain_page, small_calls, small_pages, empty_calls, empty_pages, long_calls, long_pages, patched_calls, patched_pages, moved_calls, moved_pages, given_up_calls, given_up_pages}

-- Words of the examples

-- the counts of a buffer, in the order of the report's line
pub record BufferCounts : Type 0 where
  pub placed : ℕ
  pub rewritten : ℕ
  pub overwritten : ℕ
  pub discarded : ℕ
  pub unpatched : ℕ
  pub padding : ℕ

-- what a buffer has counted
abbrev pub buffer_counts : Buffer → BufferCounts
buffer_counts buffer = record {
  placed = buffer.placed;
  rewritten = buffer.rewritten;
  overwritten = buffer.overwritten;
  discarded = buffer.discarded;
  unpatched = buffer.unpatched;
  padding = buffer.padding;
}

-- so many records were placed, and nothing else happened
abbrev pub only_placed : ℕ → BufferCounts
only_placed placed = record { placed = placed; rewritten = 0; overwritten = 0; discarded = 0; unpatched = 0; padding = 0 }

-- so many packets were begun, and all delivered
abbrev pub all_delivered : ℕ → PacketCounts
all_delivered begun = record { begun = begun; delivered = begun; dropped = 0; overwritten = 0; discarded = 0; cut = 0 }

-- a read without a limit
abbrev pub no_limit : ℕ
no_limit = 2 ^ 64 - 1

-- a buffer of so many KB for writers 1 and 2, with chunks of this payload
abbrev pub ring_of : ℕ → ℕ → Buffer
ring_of kb payload = empty_buffer (kb * 1024) Ring (fresh 2 (record_size payload) 0 ∷ fresh 3 (record_size payload) 0 ∷ [])

-- the service takes these pages, the first of which has the position
abbrev pub taken : ℕ → ℕ → List Page → List Event
taken sequence chunk_id [] = []
taken sequence chunk_id (page ∷ pages) =
    Arrives sequence chunk_id (chunk_of page) ∷ Patched sequence page.patches ∷ taken sequence (suc chunk_id) pages

-- the closes and reads of the end
abbrev pub ended : List Event
ended = Closed 2 ∷ Closed 3 ∷ Read 2 no_limit ∷ Read 3 no_limit ∷ []

-- the history writes these bytes, and leaves the buffer with these counts
pub record IsPlayed (buffer : Buffer) (events : List Event) (trace : List ℕ) (counts : BufferCounts) : Type 0 where
  pub trace_is : trace_of (records_after (buffer ∷ []) events) ≡ trace
  pub counts_are : buffer_counts (state_after buffer events) ≡ counts

-- the report's line of the sequence
abbrev pub IsReported : Buffer → List Event → ℕ → List Call → PacketCounts → Type 0
IsReported buffer events sequence calls counts =
    counts_of buffer.policy calls (sequence_in (state_after buffer events).sequences sequence) ≡ counts

-- One writer's packets whole: how they are cut, the trace and the report.
pub record IsWorked (payload : ℕ) (calls : List Call) (pages : List Page) (trace : List ℕ) (counts : PacketCounts) : Type 0 where
  pub cut : CutsInto payload (packets_of calls) pages
  pub played : IsPlayed (ring_of 64 payload) (taken 2 0 pages ++ ended) trace (only_placed (length pages))
  pub reported : IsReported (ring_of 64 payload) (taken 2 0 pages ++ ended) 2 calls counts

-- a packet with a nested message, in one chunk
abbrev pub SmallPacket : Type 0
SmallPacket = IsWorked 284 small_calls small_pages
    (0x0A ∷ 0x11 ∷ 0xA2 ∷ 0x38 ∷ 0x86 ∷ 0x80 ∷ 0x80 ∷ 0x00 ∷ 0x0A ∷ 0x02 ∷ 0x68 ∷ 0x69 ∷ 0x10 ∷ 0x07
    ∷ 0x50 ∷ 0x02 ∷ 0xD0 ∷ 0x02 ∷ 0x01 ∷ [])
    (all_delivered 1)

-- a packet without fields
abbrev pub EmptyPacket : Type 0
EmptyPacket = IsWorked 284 empty_calls empty_pages
    (0x0A ∷ 0x05 ∷ 0x50 ∷ 0x02 ∷ 0xD0 ∷ 0x02 ∷ 0x01 ∷ []) (all_delivered 1)

-- a packet over two chunks
abbrev pub LongPacket : Type 0
LongPacket = IsWorked 284 long_calls long_pages
    (0x0A ∷ 0xB1 ∷ 0x02 ∷ 0x0A ∷ 0xA9 ∷ 0x02 ∷ letters 297 ++ 0x50 ∷ 0x02 ∷ 0xD0 ∷ 0x02 ∷ 0x01 ∷ [])
    (all_delivered 1)

-- a packet whose nested length is patched, since its chunk was completed before
abbrev pub PatchedPacket : Type 0
PatchedPacket = IsWorked 284 patched_calls patched_pages
    (0x0A ∷ 0xBA ∷ 0x02 ∷ 0xA2 ∷ 0x38 ∷ 0xAF ∷ 0x82 ∷ 0x80 ∷ 0x00 ∷ 0x0A ∷ 0xAC ∷ 0x02 ∷ letters 300
    ++ 0x50 ∷ 0x02 ∷ 0xD0 ∷ 0x02 ∷ 0x01 ∷ [])
    (all_delivered 1)

-- a nested length for which too few bytes are left stands in the next chunk, and needs no patch
abbrev pub MovedLength : Type 0
MovedLength = IsWorked 284 moved_calls moved_pages
    (0x0A ∷ 0xA1 ∷ 0x02 ∷ 0x0A ∷ 0x91 ∷ 0x02 ∷ letters 273
    ++ 0xA2 ∷ 0x38 ∷ 0x82 ∷ 0x80 ∷ 0x80 ∷ 0x00 ∷ 0x10 ∷ 0x07 ∷ 0x50 ∷ 0x02 ∷ 0xD0 ∷ 0x02 ∷ 0x01 ∷ [])
    (all_delivered 1)

-- a packet that is given up in its second chunk, and the mark on the next one
abbrev pub GivenUpPacket : Type 0
GivenUpPacket = IsWorked 2036 given_up_calls given_up_pages
    (0x0A ∷ 0x07 ∷ 0x40 ∷ 0x01 ∷ 0x50 ∷ 0x02 ∷ 0xD0 ∷ 0x02 ∷ 0x01
    ∷ 0x0A ∷ 0x0A ∷ 0xD0 ∷ 0x02 ∷ 0x01 ∷ 0x40 ∷ 0x02 ∷ 0x50 ∷ 0x02 ∷ 0xD0 ∷ 0x02 ∷ 0x01 ∷ [])
    (record { begun = 3; delivered = 2; dropped = 1; overwritten = 0; discarded = 0; cut = 0 })

-- Buffers: numbered packets, each in a chunk of its own

-- the numbers of so many packets from this one on
abbrev pub numbers : ℕ → ℕ → List ℕ
numbers first zero = []
numbers first (suc count) = first ∷ numbers (suc first) count

-- pages with one small packet each
abbrev pub number_pages : List ℕ → List Page
number_pages values = map (λ value. number_page value 278) values

-- the record of such a packet, with the service's mark
abbrev pub marked_record : ℕ → ℕ → List ℕ
marked_record sequence value = 0x0A ∷ 0x07 ∷ 0x40 ∷ value ∷ 0x50 ∷ sequence ∷ 0xD0 ∷ 0x02 ∷ 0x01 ∷ []

-- the record of such a packet
abbrev pub plain_record : ℕ → ℕ → List ℕ
plain_record sequence value = 0x0A ∷ 0x04 ∷ 0x40 ∷ value ∷ 0x50 ∷ sequence ∷ []

-- In a buffer of 4 KB the 14th record makes padding and lies over a record that was read, and the 15th overwrites one that
-- wasn't.
abbrev pub ring_events : List Event
ring_events = taken 2 0 (number_pages (1 ∷ [])) ++ (Read 2 no_limit ∷ []) ++ taken 2 1 (number_pages (numbers 2 14)) ++ ended

-- a ring that wraps overwrites one record that wasn't read
pub record OverwritesUnread : Type 0 where
  pub played : IsPlayed (ring_of 4 284) ring_events
      (marked_record 2 1 ++ marked_record 2 3 ++ flat_map (plain_record 2) (numbers 4 12))
      (record { placed = 15; rewritten = 0; overwritten = 1; discarded = 0; unpatched = 0; padding = 144 })
  pub reported : IsReported (ring_of 4 284) ring_events 2 (flat_map number_calls (numbers 1 15))
      (record { begun = 15; delivered = 14; dropped = 0; overwritten = 1; discarded = 0; cut = 0 })

-- With the discard policy the 14th and the 15th chunk are discarded, the last one also behind a read.
abbrev pub discard_buffer : Buffer
discard_buffer = empty_buffer 4096 Discard (fresh 2 304 0 ∷ fresh 3 304 0 ∷ [])

-- fourteen chunks, a read, one chunk more, and the end
abbrev pub discard_events : List Event
discard_events =
    taken 2 0 (number_pages (numbers 1 14)) ++ (Read 2 no_limit ∷ []) ++ taken 2 14 (number_pages (15 ∷ [])) ++ ended

-- a discard buffer takes nothing more once it has refused a record, also after a read
pub record DiscardsRest : Type 0 where
  pub played : IsPlayed discard_buffer discard_events
      (marked_record 2 1 ++ flat_map (plain_record 2) (numbers 2 12))
      (record { placed = 13; rewritten = 0; overwritten = 0; discarded = 2; unpatched = 0; padding = 0 })
  pub reported : IsReported discard_buffer discard_events 2 (flat_map number_calls (numbers 1 15))
      (record { begun = 15; delivered = 13; dropped = 0; overwritten = 0; discarded = 2; cut = 0 })

-- A record that fills its buffer exactly is overwritten by the next one.
abbrev pub filling_events : List Event
filling_events = taken 2 0 (number_page 1 4074 ∷ number_page 2 4074 ∷ []) ++ ended

-- a record that fills the buffer exactly overwrites the one before
abbrev pub FillsBuffer : Type 0
FillsBuffer = IsPlayed (ring_of 4 4080) filling_events (marked_record 2 2)
    (record { placed = 2; rewritten = 0; overwritten = 1; discarded = 0; unpatched = 0; padding = 0 })

-- Two writers share one chunk: writer 2 finds none for its second packet, and marks its third one.
abbrev pub shared_calls : List Call
shared_calls =
    number_calls 1 ++ (Begun false ∷ Number 8 7 ∷ Finished ∷ []) ++ Begun true ∷ Number 8 6 ∷ Finished ∷ []

-- the pages of a writer that lost a packet between two
abbrev pub shared_pages : List Page
shared_pages = number_page 1 4074 ∷ plain_page ((0xD0 ∷ 0x02 ∷ 0x01 ∷ 0x40 ∷ 0x06 ∷ []) ∷ []) 4071 ∷ []

-- two writers' chunks are taken in turn, and then the end
abbrev pub shared_events : List Event
shared_events =
    taken 3 0 (number_page 1 4074 ∷ []) ++ taken 2 0 (number_page 5 4074 ∷ [])
    ++ taken 3 1 (plain_page ((0xD0 ∷ 0x02 ∷ 0x01 ∷ 0x40 ∷ 0x06 ∷ []) ∷ []) 4071 ∷ []) ++ ended

-- a packet that found no chunk, and the front mark of the next one
pub record DropsAtBegin : Type 0 where
  pub cut : CutsInto 4080 (packets_of shared_calls) shared_pages
  pub played : IsPlayed (ring_of 64 4080) shared_events
      (marked_record 2 5 ++ marked_record 3 1
      ++ 0x0A ∷ 0x07 ∷ 0xD0 ∷ 0x02 ∷ 0x01 ∷ 0x40 ∷ 0x06 ∷ 0x50 ∷ 0x03 ∷ [])
      (only_placed 3)
  pub reported : IsReported (ring_of 64 4080) shared_events 3 shared_calls
      (record { begun = 3; delivered = 2; dropped = 1; overwritten = 0; discarded = 0; cut = 0 })

-- A scrape brings the first of two packets, its record is overwritten behind the read, and the whole chunk comes later.
abbrev pub pair_page : ℕ → Page
pair_page unused = plain_page ((0x40 ∷ 0x01 ∷ []) ∷ (0x40 ∷ 0x02 ∷ []) ∷ []) unused

-- a part of a chunk is read and overwritten before the whole chunk comes
abbrev pub scraped_events : List Event
scraped_events =
    ArrivesInPart 2 0 (first_fragments 1 (chunk_of (pair_page 4068))) ∷ Read 2 no_limit ∷ Read 3 no_limit
    ∷ taken 3 0 (number_page 9 4074 ∷ []) ++ (Read 2 no_limit ∷ Read 3 no_limit ∷ [])
    ++ taken 2 0 (pair_page 4068 ∷ []) ++ ended

-- the packets of a part are delivered once, and losing the part loses nothing
abbrev pub LosesScraped : Type 0
LosesScraped = IsPlayed (ring_of 4 4080) scraped_events
    (marked_record 2 1 ++ marked_record 3 9 ++ plain_record 2 2) (only_placed 3)

-- The whole chunk comes while the partial record is live, which is then rewritten in its place.
abbrev pub RewritesScraped : Type 0
RewritesScraped = IsPlayed (ring_of 64 284)
    (ArrivesInPart 2 0 (first_fragments 1 (chunk_of (pair_page 272))) ∷ taken 2 0 (pair_page 272 ∷ []) ++ ended)
    (marked_record 2 1 ++ plain_record 2 2)
    (record { placed = 1; rewritten = 1; overwritten = 0; discarded = 0; unpatched = 0; padding = 0 })

-- The sequence is closed before the patch of its first chunk comes.
abbrev pub closing_calls : List Call
closing_calls = patched_calls ++ Begun true ∷ []

-- the first page of a packet over two is taken, and then the end
abbrev pub closing_events : List Event
closing_events = taken 2 0 (first_page patched_pages) ++ ended
  where
    first_page : List Page → List Page
    first_page [] = []
    first_page (page ∷ pages) = page ∷ []

-- a packet whose rest and patch never came is cut
pub record ClosesUnpatched : Type 0 where
  pub played : IsPlayed (ring_of 64 284) closing_events []
      (record { placed = 1; rewritten = 0; overwritten = 0; discarded = 0; unpatched = 1; padding = 0 })
  pub reported : IsReported (ring_of 64 284) closing_events 2 closing_calls
      (record { begun = 2; delivered = 0; dropped = 0; overwritten = 0; discarded = 0; cut = 2 })

-- A packet that is there whole isn't delivered while the patch of its length is still to come.
abbrev pub awaiting_events : List Event
awaiting_events = arrived 0 patched_pages ++ (Read 2 no_limit ∷ Read 2 no_limit ∷ []) ++ Patched 2 (patches_of patched_pages) ∷ ended
  where
    arrived : ℕ → List Page → List Event
    arrived chunk_id [] = []
    arrived chunk_id (page ∷ pages) = Arrives 2 chunk_id (chunk_of page) ∷ arrived (suc chunk_id) pages

-- where a read of sequence 2 ends behind these events
abbrev pub end_behind : Buffer → List Event → ℕ → ReadEnd
end_behind buffer events limit =
    read_end limit (row_from_cursor (state_after buffer events) (sequence_in (state_after buffer events).sequences 2))

-- a packet that awaits its patch is delivered behind it, and not before
pub record AwaitsPatch : Type 0 where
  pub played : IsPlayed (ring_of 64 284) awaiting_events
      (0x0A ∷ 0xBA ∷ 0x02 ∷ 0xA2 ∷ 0x38 ∷ 0xAF ∷ 0x82 ∷ 0x80 ∷ 0x00 ∷ 0x0A ∷ 0xAC ∷ 0x02 ∷ letters 300
      ++ 0x50 ∷ 0x02 ∷ 0xD0 ∷ 0x02 ∷ 0x01 ∷ [])
      (only_placed 2)
  -- the first chunk's last fragment awaits its patch; with it one packet is due; and then the third chunk is missing
  pub waits : end_behind (ring_of 64 284) (take 3 awaiting_events) no_limit
      ≡ Stopped (record { at = record { chunk_id = 0; passed = 0 }; why = Unpatched })
  pub due : end_behind (ring_of 64 284) (take 5 awaiting_events) 0 ≡ AtLimit
  pub missing : end_behind (ring_of 64 284) (Read 2 1 ∷ take 5 awaiting_events ++ Read 2 1 ∷ []) 1
      ≡ Stopped (record { at = record { chunk_id = 2; passed = 0 }; why = Missing })

-- The second of two packets runs on into a chunk that is discarded.
abbrev pub halved_calls : List Call
halved_calls = whole (NumberField 8 1 NoFields) ++ whole (letter_field 3000)

-- a small packet, and one over two pages of half a page's size
abbrev pub halved_pages : List Page
halved_pages =
    record (plain_page ((0x40 ∷ 0x01 ∷ []) ∷ (0x0A ∷ 0xB8 ∷ 0x17 ∷ letters 2023) ∷ []) 0) { runs_on = true }
    ∷ record (plain_page (letters 977 ∷ []) 1055) { continues = true } ∷ []

-- a discard buffer with room for one record
abbrev pub halved_buffer : Buffer
halved_buffer = empty_buffer 4096 Discard (fresh 2 2064 0 ∷ fresh 3 2064 0 ∷ [])

-- a packet that runs into a discarded chunk counts as discarded
pub record RunsIntoDiscarded : Type 0 where
  pub cut : CutsInto 2036 (packets_of halved_calls) halved_pages
  pub played : IsPlayed halved_buffer (taken 2 0 halved_pages ++ ended) (marked_record 2 1)
      (record { placed = 1; rewritten = 0; overwritten = 0; discarded = 1; unpatched = 0; padding = 0 })
  pub reported : IsReported halved_buffer (taken 2 0 halved_pages ++ ended) 2 halved_calls
      (record { begun = 2; delivered = 1; dropped = 0; overwritten = 0; discarded = 1; cut = 0 })

-- All of them
pub record WorkedRows : Type 0 where
  pub small : SmallPacket
  pub empty : EmptyPacket
  pub long : LongPacket
  pub patched : PatchedPacket
  pub moved : MovedLength
  pub given_up : GivenUpPacket
  pub overwrites : OverwritesUnread
  pub discards : DiscardsRest
  pub fills : FillsBuffer
  pub drops : DropsAtBegin
  pub loses : LosesScraped
  pub rewrites : RewritesScraped
  pub closes : ClosesUnpatched
  pub awaits : AwaitsPatch
  pub halved : RunsIntoDiscarded
