-- What a configuration asks for: the set-up of a table, its buffers, and what frames may name. A data source is a writer: source i has the
-- sequence i + 1, counted from 1, and its chunks are those of a page with 14. This profile's own.
use Rattle.std.specs.Prelude.{◌≡◌, ℕ, ◌+◌, ◌-◌, ◌*◌, List, [], length, map, slice_index_or}
use Rattle.std.specs.List.{AllZip}
use Rattle.trace_base.specs.declared.limits.TheConstants.{BYTES_PER_KB, MAX_CHUNKS_PER_PAGE}
use Rattle.trace_base.specs.declared.policy.WriterPolicy.TheVariants.{Drops}
use Rattle.trace_base.specs.declared.policy.WriterSpec.{WriterSpec}
use Rattle.page_geometry.specs.Sizes.{payload_size}
use Rattle.trace_model.specs.Buffers.{Buffer}
use Rattle.chunk_plain.specs.declared.setup.ProducerSpec.{ProducerSpec}
use Rattle.chunk_plain.specs.Laying.{setup_of}
use Rattle.chunk_plain.specs.Setup.{Setup}
use Rattle.world_model.specs.FirstBuffers as first
use Rattle.trace_buffer.specs.declared.answers.BufferSpec.{BufferSpec}
use Rattle.service_core.specs.Agreement.{spec_value}
use Rattle.config_text.specs.declared.config.ConfigBuffer.{ConfigBuffer}
use Rattle.config_text.specs.declared.config.ConfigProducer.{ConfigProducer}
use Rattle.config_text.specs.declared.config.ConfigSource.{ConfigSource}
use Rattle.config_text.specs.Configs.{ConfigOf}
use Rattle.stream_frames.specs.Frames.{Limits}

-- the pages of a producer: one, since no chunk of it is used
pub record IsSpecOf (producer : ConfigProducer) (spec : ProducerSpec) : Type 0 where
  pub pages : spec.pages ≡ 1
  pub page_size : spec.geometry.page_size ≡ producer.page_size_kb * BYTES_PER_KB
  pub chunks : spec.geometry.chunks ≡ MAX_CHUNKS_PER_PAGE

-- the source as a writer, whose first chunk has the id 0
abbrev pub writer_asked : ConfigSource → WriterSpec
writer_asked source = record { producer = source.producer; buffer = source.target_buffer + 1; policy = Drops; from = 0 }

-- what a buffer is made from
abbrev pub buffer_asked : ConfigBuffer → BufferSpec
buffer_asked buffer = record { size = buffer.size_kb * BYTES_PER_KB; policy = buffer.policy }

-- a set-up of a table for the configuration's producers and sources
pub record IsSetupFor (config : ConfigOf) (setup : Setup) : Type 0 where
  pub specs : List ProducerSpec
  pub made : AllZip IsSpecOf config.producers specs
  pub laid : setup ≡ setup_of specs (map writer_asked config.sources)

-- its buffers, as a service has them at first
abbrev pub config_buffers : ConfigOf → Setup → List Buffer
config_buffers config setup = first.first_buffers setup 1 (map spec_value (map buffer_asked config.buffers))

-- the payload size of a source's chunks
abbrev pub payload_asked : List ConfigProducer → ConfigSource → ℕ
payload_asked producers source =
    payload_size
    ((slice_index_or producers (source.producer - 1) (record { name = []; shm_size_kb = 0; page_size_kb = 0 })).page_size_kb * BYTES_PER_KB)
    MAX_CHUNKS_PER_PAGE

-- what frames may name
abbrev pub config_limits : ConfigOf → Limits
config_limits config = record { buffers = length config.buffers; sizes = map (payload_asked config.producers) config.sources }
