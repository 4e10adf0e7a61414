-- What the set-up of a scenario keeps to.
use Rattle.std.specs.Prelude.{◌≡◌, ◌-◌, ◌*◌, ◌≤◌, List, length, Some, slice_get}
use Rattle.std.specs.List.{AllByRecursion}
use Rattle.trace_base.specs.declared.limits.TheConstants.{BYTES_PER_KB, MAX_BUFFERS, MAX_BUFFER_KB, MAX_PAGES, MAX_PRODUCERS, MAX_WRITERS, MIN_BUFFER_KB}
use Rattle.trace_base.specs.declared.policy.WriterPolicy.{WriterPolicy}
use Rattle.trace_base.specs.declared.policy.WriterPolicy.TheVariants.{StallsThenDrops}
use Rattle.trace_base.specs.declared.policy.WriterSpec.{WriterSpec}
use Rattle.page_geometry.specs.Sizes.{IsPageSize, IsChunkCount, payload_size, record_size}
use Rattle.scenario_text.specs.declared.form.TheConstants.{MAX_TRIES}
use Rattle.scenario_text.specs.declared.scenario.BufferLine.{BufferLine}
use Rattle.scenario_text.specs.declared.scenario.ProducerLine.{ProducerLine}
use Rattle.scenario_text.specs.declared.scenario.Scenario.{Scenario}
use Rattle.scenario_text.specs.Scenario.{IsScenario}

-- a buffer can be this large
pub record IsBuffer (buffer : BufferLine) : Type 0 where
  pub least : MIN_BUFFER_KB ≤ buffer.kb
  pub most : buffer.kb ≤ MAX_BUFFER_KB

-- a producer can have these pages, cut so
pub record IsProducer (producer : ProducerLine) : Type 0 where
  pub some_pages : 1 ≤ producer.pages
  pub few_pages : producer.pages ≤ MAX_PAGES
  pub page_size : IsPageSize producer.page_size
  pub chunks : IsChunkCount producer.chunks

-- a writer can ask so often before it drops
abbrev pub HasTries : WriterPolicy → Type 0
HasTries (StallsThenDrops tries) = (1 ≤ tries) × (tries ≤ MAX_TRIES)
HasTries policy = Unit {0}

-- the writer names a producer and a buffer, counted from 1, and a record of its chunks fits the buffer
pub record IsWriter (buffers : List BufferLine) (producers : List ProducerLine) (writer : WriterSpec) : Type 0 where
  pub of_producer : ProducerLine
  pub into_buffer : BufferLine
  pub counts_producer : 1 ≤ writer.producer
  pub counts_buffer : 1 ≤ writer.buffer
  pub producer_is : slice_get producers (writer.producer - 1) ≡ Some of_producer
  pub buffer_is : slice_get buffers (writer.buffer - 1) ≡ Some into_buffer
  pub fits : record_size (payload_size of_producer.page_size of_producer.chunks) ≤ into_buffer.kb * BYTES_PER_KB
  pub tries : HasTries writer.policy

-- the set-up lines are within their limits, and their references are there
pub record IsSetUp (buffers : List BufferLine) (producers : List ProducerLine) (writers : List WriterSpec) : Type 0 where
  pub few_buffers : length buffers ≤ MAX_BUFFERS
  pub few_producers : length producers ≤ MAX_PRODUCERS
  pub few_writers : length writers ≤ MAX_WRITERS
  pub are_buffers : AllByRecursion IsBuffer buffers
  pub are_producers : AllByRecursion IsProducer producers
  pub are_writers : AllByRecursion (IsWriter buffers producers) writers

-- each value that the grammar gives keeps to the limits, and its writers name what is there
abbrev pub ScenariosAreSetUp : Type 0
ScenariosAreSetUp = (scenario : Scenario) → IsScenario scenario
    → IsSetUp scenario.buffers.items scenario.producers.items scenario.writers.items
