-- What the played lines of a scenario name: writers, producers and buffers that are there, and no producer that a line before
-- has closed, nor a writer of one.
use Rattle.std.specs.Prelude.{◌≡◌, ◌-◌, ℕ, ◌^◌, ◌<◌, ◌≤◌, Option, None, false, List, ◌∷◌, ◌++◌, length, Some, slice_get}
use Rattle.trace_base.specs.declared.limits.TheConstants.{MAX_FRAGMENTS, MAX_NUMBER}
use Rattle.page_geometry.specs.Sizes.{payload_size}
use Rattle.page_geometry.specs.declared.chunk_header.TheConstants.{MAX_FLAGS}
use Rattle.trace_base.specs.declared.policy.WriterSpec.{WriterSpec}
use Rattle.scenario_text.specs.declared.scenario.BufferLine.{BufferLine}
use Rattle.scenario_text.specs.declared.scenario.ProducerLine.{ProducerLine}
use Rattle.scenario_text.specs.declared.scenario.LineKind.{LineKind}
use Rattle.scenario_text.specs.declared.scenario.LineKind.TheVariants.{Packet, Begin, Add, Nest, Unnest, End, Flush, Collect, Scrape, Close, Read, Request, CloneBuffer, Raw}
use Rattle.scenario_text.specs.declared.scenario.NumberedLine.{NumberedLine}
use Rattle.scenario_text.specs.declared.scenario.Scenario.{Scenario}
use Rattle.scenario_text.specs.Scenario.{IsScenario}
use Rattle.scenario_text.specs.Accepted.{is_closed_by}
use Rattle.scenario_text.specs.declared.raw_chunk.RawPatch.{RawPatch}
use Rattle.scenario_text.specs.RawChunks.{AskedChunk}

-- there is a writer with this number, counted from 1, and no line before has closed its producer
pub record NamesWriter (writers : List WriterSpec) (before : List NumberedLine) (number : ℕ) : Type 0 where
  pub least : 1 ≤ number
  pub spec : WriterSpec
  pub there : slice_get writers (number - 1) ≡ Some spec
  pub opened : is_closed_by before spec.producer ≡ false

-- there is a producer with this number, counted from 1, and no line before has closed it
pub record NamesProducer (producers : List ProducerLine) (before : List NumberedLine) (number : ℕ) : Type 0 where
  pub least : 1 ≤ number
  pub most : number ≤ length producers
  pub opened : is_closed_by before number ≡ false

-- there is a buffer with this number, counted from 1
pub record NamesBuffer (buffers : List BufferLine) (number : ℕ) : Type 0 where
  pub least : 1 ≤ number
  pub most : number ≤ length buffers

-- there is a buffer with this number, counted from 1, and at least one packet is read, and no more than can be counted
pub record ReadsBuffer (buffers : List BufferLine) (number limit : ℕ) : Type 0 where
  pub least : 1 ≤ number
  pub most : number ≤ length buffers
  pub some_packets : 1 ≤ limit
  pub counted : limit ≤ MAX_NUMBER

-- a patch's numbers have 32 bits
abbrev pub IsPatch : Option RawPatch → Type 0
IsPatch None = Unit {0}
IsPatch (Some patch) = (patch.chunk_id < 2 ^ 32) × (patch.offset < 2 ^ 32)

-- There are the writer and the buffer that are named, the writer's producer isn't closed, the payload is no longer than one of the
-- writer's chunks has, and each number is one of a chunk header or of a patch.
pub record CommitsChunk (buffers : List BufferLine) (producers : List ProducerLine) (writers : List WriterSpec) (before : List NumberedLine)
    (number : ℕ) (chunk : AskedChunk) : Type 0 where
  pub of_writer : NamesWriter writers before number
  pub into_buffer : NamesBuffer buffers chunk.buffer
  pub of_producer : ProducerLine
  pub producer_is : slice_get producers (of_writer.spec.producer - 1) ≡ Some of_producer
  pub room : length chunk.payload ≤ payload_size of_producer.page_size of_producer.chunks
  pub id : chunk.chunk_id < 2 ^ 32
  pub count : chunk.count ≤ MAX_FRAGMENTS
  pub flags : chunk.flags ≤ MAX_FLAGS
  pub patch : IsPatch chunk.patch

-- what a line names is there, behind these lines
abbrev pub IsInReach : List BufferLine → List ProducerLine → List WriterSpec → List NumberedLine → LineKind → Type 0
IsInReach buffers producers writers before (Packet writer fields) = NamesWriter writers before writer
IsInReach buffers producers writers before (Begin writer) = NamesWriter writers before writer
IsInReach buffers producers writers before (Add writer fields) = NamesWriter writers before writer
IsInReach buffers producers writers before (Nest writer field) = NamesWriter writers before writer
IsInReach buffers producers writers before (Unnest writer) = NamesWriter writers before writer
IsInReach buffers producers writers before (End writer) = NamesWriter writers before writer
IsInReach buffers producers writers before (Flush writer) = NamesWriter writers before writer
IsInReach buffers producers writers before (Collect producer) = NamesProducer producers before producer
IsInReach buffers producers writers before (Scrape producer) = NamesProducer producers before producer
IsInReach buffers producers writers before (Close producer) = NamesProducer producers before producer
IsInReach buffers producers writers before (Read buffer limit) = ReadsBuffer buffers buffer limit
IsInReach buffers producers writers before Request = Unit {0}
IsInReach buffers producers writers before (CloneBuffer buffer) = NamesBuffer buffers buffer
IsInReach buffers producers writers before (Raw writer chunk) = CommitsChunk buffers producers writers before writer chunk

-- what each line names is there, behind the lines before it
abbrev pub AreInReach : List BufferLine → List ProducerLine → List WriterSpec → List NumberedLine → Type 0
AreInReach buffers producers writers lines = (before : List NumberedLine) (line : NumberedLine) (after : List NumberedLine)
    → lines ≡ before ++ line ∷ after → IsInReach buffers producers writers before line.what

-- the lines of each value that the grammar gives name what is there
abbrev pub ScenariosAreInReach : Type 0
ScenariosAreInReach = (scenario : Scenario) → IsScenario scenario
    → AreInReach scenario.buffers.items scenario.producers.items scenario.writers.items scenario.lines
