-- How a configuration is written, and which one can be: a line for each buffer, producer and source, in the order of the table of blocks.
use Rattle.std.specs.Prelude.{◌≡◌, ◌≢◌, ℕ, ◌-◌, ◌*◌, ◌%◌, ◌<◌, ◌≤◌, List, [], ◌++◌, length, codes, decimal, Some, unwrap_or, option_map, slice_get}
use Rattle.std.specs.List.{All, flat_map, slice_index_or}
use Rattle.trace_base.specs.declared.limits.TheConstants.{BYTES_PER_KB, MAX_BUFFERS, MAX_BUFFER_KB, MAX_CHUNKS_PER_PAGE, MAX_PAGES, MAX_PRODUCERS, MAX_WRITERS, MIN_BUFFER_KB}
use Rattle.trace_base.specs.declared.policy.FullPolicy.{FullPolicy}
use Rattle.trace_base.specs.declared.policy.FullPolicy.TheVariants.{Ring, Discard}
use Rattle.page_geometry.specs.Sizes.{payload_size, record_size}
use Rattle.text_form.specs.Bytes.{is_text_byte, AreAll}
use Rattle.config_text.specs.declared.config.ConfigBuffer.{ConfigBuffer}
use Rattle.config_text.specs.declared.config.ConfigProducer.{ConfigProducer}
use Rattle.config_text.specs.declared.config.ConfigSource.{ConfigSource}
use Rattle.config_text.specs.Configs.{ConfigOf}

-- ---- the text

abbrev pub policy_word : FullPolicy → List ℕ
policy_word Ring = codes "RING_BUFFER"
policy_word Discard = codes "DISCARD"

-- the policy, and the end of a buffer's line
unfoldable pub policy_end : FullPolicy → List ℕ
policy_end policy = policy_word policy ++ codes " }\n"

-- a number between two texts
unfoldable pub numbered : List ℕ → ℕ → List ℕ → List ℕ
numbered before number behind = before ++ (decimal number ++ behind)

-- the line of a buffer
abbrev pub buffer_line : ConfigBuffer → List ℕ
buffer_line buffer = numbered (codes "buffers { size_kb: ") buffer.size_kb (codes " fill_policy: ") ++ policy_end buffer.policy

-- behind the name
abbrev pub producer_rest : ConfigProducer → List ℕ
producer_rest producer =
    numbered (codes "\" shm_size_kb: ") producer.shm_size_kb (codes " page_size_kb: ") ++ numbered [] producer.page_size_kb (codes " }\n")

-- before its name
unfoldable pub producer_head : List ℕ
producer_head = codes "producers { producer_name: \""

-- the line of a producer
abbrev pub producer_line : ConfigProducer → List ℕ
producer_line producer = producer_head ++ (producer.name ++ producer_rest producer)

-- the name of the producer with this number
abbrev pub name_of : List ConfigProducer → ℕ → List ℕ
name_of producers number = unwrap_or (option_map (λ producer. producer.name) (slice_get producers (number - 1))) []

-- the number is that of a producer
abbrev pub HasNumber : List ConfigProducer → ConfigSource → Type 0
HasNumber producers source = (1 ≤ source.producer) × (source.producer ≤ length producers)

-- between its name and that of its producer
abbrev pub source_middle : ConfigSource → List ℕ
source_middle source = numbered (codes "\" target_buffer: ") source.target_buffer (codes " } producer_name_filter: \"")

-- before its name
unfoldable pub source_head : List ℕ
source_head = codes "data_sources { config { name: \""

-- the line of a source
abbrev pub source_line : List ConfigProducer → ConfigSource → List ℕ
source_line producers source =
    source_head ++ (source.name ++ (source_middle source ++ (name_of producers source.producer ++ codes "\" }\n")))

-- the text of a configuration
abbrev pub written_config : ConfigOf → List ℕ
written_config config =
    flat_map buffer_line config.buffers ++ (flat_map producer_line config.producers ++ flat_map (source_line config.producers) config.sources)

-- ---- what can be written

-- bytes of a text in quotes
abbrev pub IsQuotable : List ℕ → Type 0
IsQuotable name = AreAll is_text_byte name

-- a buffer can have this size
abbrev pub IsBuffer : ConfigBuffer → Type 0
IsBuffer buffer = (MIN_BUFFER_KB ≤ buffer.size_kb) × (buffer.size_kb ≤ MAX_BUFFER_KB)

-- pages of 4 to 64 KB, a multiple of 4, of which the shared memory has from 1 to 64
pub record IsProducer (producer : ConfigProducer) : Type 0 where
  pub quotable : IsQuotable producer.name
  pub least : 4 ≤ producer.page_size_kb
  pub most : producer.page_size_kb ≤ 64
  pub whole : producer.page_size_kb % 4 ≡ 0
  pub pages : ℕ
  pub some_page : 1 ≤ pages
  pub few_pages : pages ≤ MAX_PAGES
  pub memory : producer.shm_size_kb ≡ pages * producer.page_size_kb

-- The source's buffer and producer are there, and one of the producer's records fits the buffer. The producer is the first with its name,
-- and the first of all where the name is empty.
pub record IsSource (config : ConfigOf) (source : ConfigSource) : Type 0 where
  pub quotable : IsQuotable source.name
  pub buffer : ConfigBuffer
  pub has_buffer : slice_get config.buffers source.target_buffer ≡ Some buffer
  pub producer : ConfigProducer
  pub numbered : 1 ≤ source.producer
  pub has_producer : slice_get config.producers (source.producer - 1) ≡ Some producer
  pub first : (k : ℕ) (d : ConfigProducer) → k < source.producer - 1 → (slice_index_or config.producers k d).name ≢ producer.name
  pub unnamed : producer.name ≡ [] → source.producer ≡ 1
  pub fits : record_size (payload_size (producer.page_size_kb * BYTES_PER_KB) MAX_CHUNKS_PER_PAGE) ≤ buffer.size_kb * BYTES_PER_KB

-- a configuration as a text can spell it
pub record IsWritable (config : ConfigOf) : Type 0 where
  pub some_producer : 0 < length config.producers
  pub few_buffers : length config.buffers ≤ MAX_BUFFERS
  pub few_producers : length config.producers ≤ MAX_PRODUCERS
  pub few_sources : length config.sources ≤ MAX_WRITERS
  pub buffers : All IsBuffer config.buffers
  pub producers : All IsProducer config.producers
  pub sources : All (IsSource config) config.sources
