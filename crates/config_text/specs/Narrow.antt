-- A configuration in the numbers of the code: what blocks say of which none is refused, and no matter what of others.
use Rattle.std.specs.Prelude.{ℕ, ◌+◌, nat_lt, List, map, unwrap_or, if◌then◌else◌}
use Rattle.config_text.specs.declared.config.ConfigBuffer.{ConfigBuffer}
use Rattle.config_text.specs.declared.config.ConfigProducer.{ConfigProducer}
use Rattle.config_text.specs.declared.config.ConfigSource.{ConfigSource}
use Rattle.config_text.specs.declared.kept.BufferSaid.{BufferSaid}
use Rattle.trace_base.specs.declared.numeral.Numeral.{Numeral}
use Rattle.trace_base.specs.declared.numeral.Numeral.TheVariants.{Fits, TooLarge}
use Rattle.config_text.specs.Blocks.{Block, ProducerSaid, SourceSaid}
use Rattle.config_text.specs.Configs.{ConfigOf}
use Rattle.config_text.specs.Reasons.{buffers_said, sources_said, producer_place}

-- a number below a limit
unfoldable pub narrow : ℕ → Numeral → ℕ
narrow limit (Fits n) = if nat_lt n limit then n else 0
narrow limit TooLarge = 0

-- the number of a producer at a place, where it has 16 bits
unfoldable pub narrow_place : ℕ → ℕ
narrow_place place = if nat_lt place 65535 then place + 1 else 0

-- a buffer in such numbers
unfoldable pub buffer_of : BufferSaid → ConfigBuffer
buffer_of said = record { size_kb = narrow 4294967296 (unwrap_or said.size_kb (Fits 0)); policy = said.policy }

-- a producer in such numbers
unfoldable pub producer_of : ProducerSaid → ConfigProducer
producer_of said = record { name = said.name; shm_size_kb = narrow 4294967296 said.shm_size_kb; page_size_kb = narrow 4294967296 said.page_size_kb }

-- a source in such numbers
unfoldable pub source_of : List ProducerSaid → SourceSaid → ConfigSource
source_of producers said = record {
  name = said.name;
  target_buffer = narrow 256 said.target;
  producer = narrow_place (producer_place producers said.filters);
}

-- what blocks say, where these are the producers
unfoldable pub config_known : List ProducerSaid → List Block → ConfigOf
config_known producers blocks = record {
  buffers = map buffer_of (buffers_said blocks);
  producers = map producer_of producers;
  sources = map (source_of producers) (sources_said blocks);
}
