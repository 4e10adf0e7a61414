-- Scenarios over one chunk, in which more packets can't be delivered than there are chunks: three in which nobody has it collected, and one with a
-- line that does; and one in which it is filled again, and its chunks arrive in that order.
use Rattle.std.specs.Prelude.{◌≡◌, ℕ, ◌+◌, ◌<◌, true, false, List, [], ◌∷◌, length, map}
use Rattle.trace_base.specs.declared.policy.FullPolicy.TheVariants.{Ring}
use Rattle.trace_base.specs.declared.policy.WriterPolicy.TheVariants.{Drops, Stalls}
use Rattle.trace_base.specs.declared.policy.WriterSpec.{WriterSpec}
use Rattle.trace_model.specs.Calls.{Call, Begun}
use Rattle.trace_model.specs.Counts.{last_count}
use Rattle.trace_model.specs.Packets.{Packet as PacketOf, packets_of, lost_count}
use Rattle.field_tree.specs.Nodes.{Shown}
use Rattle.chunk_plain.specs.Setup.{Setup}
use Rattle.chunk_plain.specs.World.{World, writer}
use Rattle.chunk_schedules.specs.Laws.{ArrivesBefore}
use Rattle.scenario_text.specs.declared.scenario.LineKind.TheVariants.{Packet, Flush, Collect, Read}
use Rattle.scenario_text.specs.declared.scenario.NumberedLine.{NumberedLine}
use Rattle.scenario_text.specs.Scenario.{Parts}
use Rattle.run_model.specs.Settled.{IsRun}

-- a buffer, a producer whose one page is one chunk, and these writers and lines
abbrev pub over_one_chunk : List WriterSpec → List NumberedLine → Parts
over_one_chunk writers lines = record {
  buffers = record { kb = 64; policy = Ring } ∷ [];
  producers = record { pages = 1; page_size = 4096; chunks = 1 } ∷ [];
  writers = writers;
  lines = lines;
}

-- a writer of that producer that drops
abbrev pub dropping : WriterSpec
dropping = record { producer = 1; buffer = 1; policy = Drops; from = 0 }

-- a writer of that producer that stalls
abbrev pub stalling : WriterSpec
stalling = record { producer = 1; buffer = 1; policy = Stalls; from = 0 }

-- two packets of the first writer, with a flush between them, from this line of the text on
abbrev pub two_packets : (at : ℕ) (first second : List Shown) → List NumberedLine
two_packets at first second =
    record { line = at; what = Packet 1 first } ∷ record { line = at + 1; what = Flush 1 } ∷ record { line = at + 2; what = Packet 1 second } ∷ []

-- one writer's two packets, with a flush between them, where it is alone
abbrev pub flushed_between : (first second : List Shown) → Parts
flushed_between first second = over_one_chunk (dropping ∷ []) (two_packets 4 first second)

-- and where it is beside one that stalls, which has no lines and so asks for no chunk
abbrev pub beside_idle : (first second : List Shown) → Parts
beside_idle first second = over_one_chunk (dropping ∷ stalling ∷ []) (two_packets 5 first second)

-- a packet of each of two writers
abbrev pub one_of_each : (first second : List Shown) → Parts
one_of_each first second =
    over_one_chunk (dropping ∷ dropping ∷ [])
    (record { line = 5; what = Packet 1 first } ∷ record { line = 6; what = Packet 2 second } ∷ [])

-- three packets of one writer, with flushes between them, and a line that collects its producer
abbrev pub collected_once : (first second third : List Shown) → Parts
collected_once first second third =
    over_one_chunk (dropping ∷ [])
    (record { line = 4; what = Packet 1 first } ∷ record { line = 5; what = Flush 1 } ∷ record { line = 6; what = Packet 1 second }
    ∷ record { line = 7; what = Flush 1 } ∷ record { line = 8; what = Packet 1 third } ∷ record { line = 9; what = Collect 1 } ∷ [])

-- a packet of the first writer and two of the second, a line that collects, one that reads, and another that collects
abbrev pub filled_again : (first second third : List Shown) → Parts
filled_again first second third =
    over_one_chunk (dropping ∷ dropping ∷ [])
    (record { line = 5; what = Packet 1 first } ∷ record { line = 6; what = Packet 2 second } ∷ record { line = 7; what = Packet 2 third }
    ∷ record { line = 8; what = Collect 1 } ∷ record { line = 9; what = Read 1 last_count } ∷ record { line = 10; what = Collect 1 } ∷ [])

-- In each run of each of the first three a packet is lost: the account in which both are delivered is refused. Where a writer is alone it is the second of its two:
-- the first was begun in the chunk, and the second dropped at its begin. (The newest packet stands first.)
pub record OneChunkHoldsOnePacket : Type 0 where
  pub flushed : (first second : List Shown) (setup : Setup) (world : World) → IsRun (flushed_between first second) setup world
      → 0 < lost_count (packets_of (writer world 0).calls)
  pub first_kept : (first second : List Shown) (setup : Setup) (world : World) → IsRun (flushed_between first second) setup world
      → map (λ (packet : PacketOf). packet.kept) (packets_of (writer world 0).calls) ≡ false ∷ true ∷ []
  pub idle : (first second : List Shown) (setup : Setup) (world : World) → IsRun (beside_idle first second) setup world
      → 0 < lost_count (packets_of (writer world 0).calls)
  pub each : (first second : List Shown) (setup : Setup) (world : World) → IsRun (one_of_each first second) setup world
      → 0 < lost_count (packets_of (writer world 0).calls) + lost_count (packets_of (writer world 1).calls)

-- In each run of the last one is lost too: the line has the one chunk taken once at most, so it is free for no more than two packets.
abbrev pub OneCollectFreesOneChunk : Type 0
OneCollectFreesOneChunk = (first second third : List Shown) (setup : Setup) (world : World) → IsRun (collected_once first second third) setup world
    → 0 < lost_count (packets_of (writer world 0).calls)

-- In each run of this, where the second writer drops its first packet and yet begins a chunk, another chunk arrives before its own: the account in which
-- that comes behind, though its freeing made room for it, is refused.
abbrev pub ChunksArriveInTurn : Type 0
ChunksArriveInTurn = (first second third : List Shown) (setup : Setup) (world : World) → IsRun (filled_again first second third) setup world
    → (more : List Call) → (writer world 1).calls ≡ Begun false ∷ more → 0 < length (writer world 1).begun
    → ∥ ArrivesBefore world.service.events 1 ∥₁
