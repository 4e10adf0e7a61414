-- Where chunks and buffer bytes are enough no packet is missing, whichever schedule was taken.
use Rattle.std.specs.Prelude.{◌≡◌, ℕ, suc, ◌+◌, ◌-◌, ◌*◌, ◌<◌, ◌≤◌, ◌⊎◌, ◌==◌, All, true, false, List, [], ◌∷◌, length, Some, slice_get, if◌then◌else◌}
use Rattle.trace_base.specs.declared.policy.WriterPolicy.TheVariants.{Stalls}
use Rattle.trace_base.specs.declared.policy.WriterSpec.{WriterSpec}
use Rattle.page_geometry.specs.Sizes.{record_size}
use Rattle.trace_model.specs.Delivery.{records_of}
use Rattle.trace_model.specs.Enough.{most_chunks}
use Rattle.trace_model.specs.History.{records_after}
use Rattle.trace_model.specs.Packets.{packets_of, bodies_of, emissions_of, begun_count, is_writing, lost_count}
use Rattle.trace_model.specs.Walks.{is_accepted}
use Rattle.delivery_laws.specs.Finishing.{Finishes}
use Rattle.chunk_plain.specs.declared.setup.ProducerSpec.{ProducerSpec}
use Rattle.chunk_plain.specs.Laying.{setup_of}
use Rattle.chunk_plain.specs.Setup.{Setup, IsLaid, HasProducer, ProducersAreApart, producer_of, range_of, size_of, sequence_of}
use Rattle.chunk_plain.specs.World.{World, writer}
use Rattle.chunk_plain.specs.Plain.{first_world}
use Rattle.chunk_plain.specs.Histories.{history_of}
use Rattle.world_model.specs.FirstBuffers.{BufferSpec, first_buffers}
use Rattle.service_core.specs.Agreement.{spec_at}
use Rattle.chunk_schedules.specs.Moves.{Move}
use Rattle.chunk_schedules.specs.Schedules.{IsSchedule}
use Rattle.schedule_laws.specs.Resting.{AreBetweenCalls, AreNotedInOrder}

-- In each set-up that is laid out for producers no chunk is one of two of them.
abbrev pub SetupsAreApart : Type 0
SetupsAreApart = (producers : List ProducerSpec) (writers : List WriterSpec) → ProducersAreApart (setup_of producers writers)

-- Chunks

-- how many chunks the packets take at most that a producer's writers emitted, of these writers, of which the first has this place
abbrev pub chunks_from : Setup → World → (producer place : ℕ) → List WriterSpec → ℕ
chunks_from setup world producer place [] = 0
chunks_from setup world producer place (spec ∷ specs) =
    (if spec.producer == producer then most_chunks (size_of setup producer) (emissions_of (writer world place).calls) else 0)
    + chunks_from setup world producer (suc place) specs

-- all writers of the producer stall
abbrev pub AllStall : Setup → (producer : ℕ) → Type 0
AllStall setup producer = (place : ℕ) → place < length setup.writers → producer_of setup place ≡ producer
    → (spec_at setup.writers place).policy ≡ Stalls

-- Each writer is between two packets, and of each producer all writers stall, or there are chunks enough for all that they emitted.
pub record HasChunksEnough (setup : Setup) (world : World) : Type 0 where
  pub apart : ProducersAreApart setup
  pub between : (place : ℕ) → place < length setup.writers → is_writing (packets_of (writer world place).calls) ≡ false
  pub room : (producer : ℕ) → HasProducer setup producer
      → AllStall setup producer ⊎ (chunks_from setup world producer 0 setup.writers ≤ (range_of setup producer).count)

-- No writer has lost a packet then.
abbrev pub EnoughChunksLoseNothing : Type 0
EnoughChunksLoseNothing = (setup : Setup) (moves : List Move) (world : World) → IsLaid setup
    → IsSchedule setup (first_world setup) moves world
    → AreBetweenCalls setup world → HasChunksEnough setup world → (place : ℕ) → place < length setup.writers
    → lost_count (packets_of (writer world place).calls) ≡ 0

-- Bytes

-- how many bytes the records take at most of what a buffer's writers emitted, of these writers, of which the first has this place
abbrev pub bytes_from : Setup → World → (buffer place : ℕ) → List WriterSpec → ℕ
bytes_from setup world buffer place [] = 0
bytes_from setup world buffer place (spec ∷ specs) =
    (if spec.buffer == buffer
    then most_chunks (size_of setup spec.producer) (emissions_of (writer world place).calls) * record_size (size_of setup spec.producer)
    else 0)
    + bytes_from setup world buffer (suc place) specs

-- The writer's buffer has bytes enough, and all chunks that it began came, and then its sequence was closed and read whole.
pub record IsReadOut (setup : Setup) (buffers : List BufferSpec) (world : World) (place : ℕ) (spec : WriterSpec) : Type 0 where
  pub buffer : BufferSpec
  pub least : 1 ≤ spec.buffer
  pub named : slice_get buffers (spec.buffer - 1) ≡ Some buffer
  pub room : bytes_from setup world spec.buffer 0 setup.writers ≤ buffer.size
  pub finishes : Finishes (sequence_of place) (length (writer world place).begun) (begun_count (writer world place).calls) 0 false (history_of world.service)

-- Then no packet of the writer is missing, where each is one that the packet check accepts. (Calls may write any field, and a read
-- passes as cut what the check refuses.)
abbrev pub EnoughMissesNothing : Type 0
EnoughMissesNothing = (setup : Setup) (buffers : List BufferSpec) (moves : List Move) (world : World) → IsLaid setup
    → IsSchedule setup (first_world setup) moves world
    → AreBetweenCalls setup world → AreNotedInOrder setup world.service → HasChunksEnough setup world
    → (place : ℕ) (spec : WriterSpec) → slice_get setup.writers place ≡ Some spec
    → All (λ (body : List ℕ). is_accepted body ≡ true) (bodies_of (writer world place).calls) → IsReadOut setup buffers world place spec
    → length (records_of (sequence_of place) (records_after (first_buffers setup 1 buffers) (history_of world.service)))
    ≡ length (emissions_of (writer world place).calls)
