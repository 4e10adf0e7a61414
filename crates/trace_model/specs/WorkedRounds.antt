-- Worked examples of two writers who share one chunk or wait for each other, of a chunk with as many fragments as it may
-- have, and of packets that the packet check refuses.
use Rattle.std.specs.Prelude.{◌≡◌, ℕ, ◌*◌, false, IsTrue, List, [], ◌∷◌, ◌++◌, map, replicate}
use Rattle.std.specs.List.{repeat}
use Rattle.trace_base.specs.declared.limits.TheConstants.{MAX_FRAGMENTS}
use Rattle.trace_base.specs.declared.policy.FullPolicy.TheVariants.{Ring}
use Rattle.trace_model.specs.Calls.{Call, Begun, Number, Finished}
use Rattle.trace_model.specs.Encoding.{NoFields, NumberField}
use Rattle.trace_model.specs.Packets.{packets_of, body_of}
use Rattle.trace_model.specs.Pages.{Page}
use Rattle.trace_model.specs.Sequences.{Sequence, fresh, sequence_in}
use Rattle.trace_model.specs.Buffers.{Buffer, empty_buffer}
use Rattle.trace_model.specs.History.{Event, Read, state_after}
use Rattle.trace_model.specs.Balance.{PacketCounts}
use Rattle.trace_model.specs.Cut.{CutsInto, all_begin_well}
use Rattle.trace_model.specs.Row.{Chain, bytes_of}
use Rattle.trace_model.specs.Written.{chains_of}
use Rattle.trace_model.specs.WorkedWriters.{whole, number_calls, number_page, plain_page}
use Rattle.trace_model.specs.WorkedRows.{IsPlayed, IsReported, ring_of, taken, ended, no_limit, only_placed, all_delivered, marked_record}

-- a packet with the number field 8 that is the last of its writer, or that was dropped at its begin
abbrev pub last_calls : ℕ → List Call
last_calls value = whole (NumberField 8 value NoFields)

-- the calls of a packet that was dropped at its begin
abbrev pub lost_calls : ℕ → List Call
lost_calls value = Begun false ∷ Number 8 value ∷ Finished ∷ []

-- Two writers that stall share one chunk. The first one flushes; the second one, who finds no chunk free, has it taken.
abbrev pub handed_events : List Event
handed_events = taken 2 0 (number_page 1 4074 ∷ []) ++ taken 3 0 (number_page 2 4074 ∷ []) ++ ended

-- two writers share one chunk, one behind the other
pub record HandsOver : Type 0 where
  pub first_cut : CutsInto 4080 (packets_of (number_calls 1)) (number_page 1 4074 ∷ [])
  pub second_cut : CutsInto 4080 (packets_of (last_calls 2)) (number_page 2 4074 ∷ [])
  pub played : IsPlayed (ring_of 64 4080) handed_events (marked_record 2 1 ++ marked_record 3 2) (only_placed 2)
  pub first_reported : IsReported (ring_of 64 4080) handed_events 2 (number_calls 1) (all_delivered 1)
  pub second_reported : IsReported (ring_of 64 4080) handed_events 3 (last_calls 2) (all_delivered 1)

-- A flush is asked for while the second writer is in the middle of a packet: the first one's chunk is taken and read, and
-- the second one's comes at the end.
abbrev pub flushed_events : List Event
flushed_events =
    taken 2 0 (number_page 1 278 ∷ []) ++ (Read 2 no_limit ∷ Read 3 no_limit ∷ []) ++ taken 3 0 (number_page 3 278 ∷ []) ++ ended

-- a flush has a packet delivered before its writer goes on
pub record AnswersFlush : Type 0 where
  pub played : IsPlayed (ring_of 64 284) flushed_events (marked_record 2 1 ++ marked_record 3 3) (only_placed 2)
  pub first_reported : IsReported (ring_of 64 284) flushed_events 2 (number_calls 1) (all_delivered 1)
  pub second_reported : IsReported (ring_of 64 284) flushed_events 3 (last_calls 3) (all_delivered 1)

-- Two writers that drop race for one chunk: whoever comes second loses its packet, and only the other's is in the trace.
abbrev pub lost_alone : PacketCounts
lost_alone = record { begun = 1; delivered = 0; dropped = 1; overwritten = 0; discarded = 0; cut = 0 }

-- the writer with this sequence got the chunk
abbrev pub race_events : ℕ → ℕ → List Event
race_events sequence value = taken sequence 0 (number_page value 4074 ∷ []) ++ ended

-- of two writers and one chunk either may win; the other's packet is dropped
pub record Races : Type 0 where
  pub kept_cut : CutsInto 4080 (packets_of (last_calls 1)) (number_page 1 4074 ∷ [])
  pub lost_cut : CutsInto 4080 (packets_of (lost_calls 2)) []
  pub first_wins : IsPlayed (ring_of 64 4080) (race_events 2 1) (marked_record 2 1) (only_placed 1)
  pub first_kept : IsReported (ring_of 64 4080) (race_events 2 1) 2 (last_calls 1) (all_delivered 1)
  pub second_lost : IsReported (ring_of 64 4080) (race_events 2 1) 3 (lost_calls 2) lost_alone
  pub second_wins : IsPlayed (ring_of 64 4080) (race_events 3 2) (marked_record 3 2) (only_placed 1)
  pub second_kept : IsReported (ring_of 64 4080) (race_events 3 2) 3 (last_calls 2) (all_delivered 1)
  pub first_lost : IsReported (ring_of 64 4080) (race_events 3 2) 2 (lost_calls 1) lost_alone

-- A chunk of 65,520 bytes holds 1,023 packets without fields, and the next one begins a chunk.
abbrev pub crowded_calls : List Call
crowded_calls = repeat 1024 (whole NoFields)

-- a chunk with as many fragments as one can have, and the next one
abbrev pub crowded_pages : List Page
crowded_pages = plain_page (replicate MAX_FRAGMENTS []) 61428 ∷ plain_page ([] ∷ []) 65516 ∷ []

-- a buffer with room for two such chunks
abbrev pub crowded_buffer : Buffer
crowded_buffer = empty_buffer (128 * 1024) Ring (fresh 2 65536 0 ∷ fresh 3 65536 0 ∷ [])

-- both chunks are taken, and then the end
abbrev pub crowded_events : List Event
crowded_events = taken 2 0 crowded_pages ++ ended

-- the 1,024th packet begins a new chunk, since 1,023 are the most that one has
pub record Crowds : Type 0 where
  -- each packet begins where it has to, and its chain is its body
  pub begins : IsTrue (all_begin_well 65520 (packets_of crowded_calls) (chains_of crowded_pages))
  pub bodies : map (λ (chain : Chain). bytes_of chain.pieces) (chains_of crowded_pages) ≡ map body_of (packets_of crowded_calls)
  pub played : IsPlayed crowded_buffer crowded_events
      ((0x0A ∷ 0x05 ∷ 0x50 ∷ 0x02 ∷ 0xD0 ∷ 0x02 ∷ 0x01 ∷ []) ++ repeat 1023 (0x0A ∷ 0x02 ∷ 0x50 ∷ 0x02 ∷ []))
      (only_placed 2)
  pub reported : IsReported crowded_buffer crowded_events 2 crowded_calls (all_delivered 1024)

-- What no writer of its own would leave in one chunk: a number; a field of the service's; the begin of a group; a number again.
abbrev pub foreign_pages : List Page
foreign_pages = plain_page ((0x40 ∷ 0x01 ∷ []) ∷ (0x50 ∷ 0x02 ∷ []) ∷ (0x43 ∷ []) ∷ (0x40 ∷ 0x04 ∷ []) ∷ []) 261 ∷ []

-- the chunk is taken, and then the end
abbrev pub foreign_events : List Event
foreign_events = taken 2 0 foreign_pages ++ ended

-- the state of the writer's sequence then
abbrev pub foreign_state : Sequence
foreign_state = sequence_in (state_after (ring_of 64 284) foreign_events).sequences 2

-- a packet that the packet check refuses is passed, counts as cut, and the next one is marked
pub record RefusesPackets : Type 0 where
  pub played : IsPlayed (ring_of 64 284) foreign_events (marked_record 2 1 ++ marked_record 2 4) (only_placed 1)
  pub delivered : foreign_state.delivered ≡ 2
  pub cut : foreign_state.cut ≡ 2

-- All of them
pub record WorkedRounds : Type 0 where
  pub hands_over : HandsOver
  pub answers : AnswersFlush
  pub races : Races
  pub crowds : Crowds
  pub refuses : RefusesPackets
