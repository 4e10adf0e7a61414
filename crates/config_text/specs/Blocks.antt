-- What the blocks of a configuration text say. A block says what its fields say, one after another: so of a field that is repeated the
-- last one counts, all fields of repeated `config` blocks count as those of one, and each `producer_name_filter` is one more entry.
-- Names and values are those of Perfetto's `TraceConfig`; which of its fields count is this project's profile.
use Rattle.std.specs.Prelude.{ℕ, Bool, true, false, Option, Some, None, option_map, List, [], ◌∷◌, ◌++◌, codes, if◌then◌else◌, ◌||◌}
use Rattle.std.specs.Str.{bytes_eq}
use Rattle.trace_base.specs.declared.policy.FullPolicy.{FullPolicy}
use Rattle.trace_base.specs.declared.policy.FullPolicy.TheVariants.{Ring, Discard}
use Rattle.text_form.specs.Entries.{Value, Word, Text, Entries, NoEntries, ValueEntry, BlockEntry}
use Rattle.config_text.specs.declared.kept.BufferSaid.{BufferSaid}
use Rattle.trace_base.specs.declared.numeral.Numeral.{Numeral}
use Rattle.trace_base.specs.declared.numeral.Numeral.TheVariants.{Fits}
use Rattle.trace_base.specs.Numerals.{numeral_of}

-- ---- what is said of a buffer (`BufferSaid`, of the code), a producer, a source

pub record ProducerSaid : Type 0 where
  pub name : List ℕ
  pub shm_size_kb : Numeral
  pub page_size_kb : Numeral

-- a source names producers by the entries of its filter
pub record SourceSaid : Type 0 where
  pub name : List ℕ
  pub target : Numeral
  pub filters : List (List ℕ)

-- what a block says, by its kind
pub data What : Type 0 where
  Buffer : BufferSaid → What
  Producer : ProducerSaid → What
  Source : SourceSaid → What

-- a block: the line of its name, whether each field of the table in it has a value of its kind, and what it says
pub record Block : Type 0 where
  pub line : ℕ
  pub fits : Bool
  pub what : What

-- ---- names

-- the name is this word
abbrev pub is : List ℕ → List ℕ → Bool
is name word = bytes_eq name word

-- what a buffer without fields says: no size, and that it overwrites
unfoldable pub no_buffer : BufferSaid
no_buffer = record { size_kb = None; policy = Ring }

-- a producer without fields, which is also that of a text without producers
unfoldable pub no_producer : ProducerSaid
no_producer = record { name = []; shm_size_kb = Fits 256; page_size_kb = Fits 4 }

-- a source without fields
unfoldable pub no_source : SourceSaid
no_source = record { name = []; target = Fits 0; filters = [] }

-- what a block of this name says without fields, where it is one of the three
unfoldable pub kind_of : List ℕ → Option What
kind_of name =
    if is name (codes "buffers") then Some (Buffer no_buffer)
    else if is name (codes "producers") then Some (Producer no_producer)
    else if is name (codes "data_sources") then Some (Source no_source)
    else None

-- ---- values of a kind

unfoldable pub number_in : Value → Option Numeral
number_in (Word bytes) = numeral_of bytes
number_in (Text bytes) = None

-- a text in quotes, without these
unfoldable pub text_in : Value → Option (List ℕ)
text_in (Word bytes) = None
text_in (Text bytes) = Some bytes

-- what a full buffer does
unfoldable pub policy_of : List ℕ → Option FullPolicy
policy_of word =
    if is word (codes "RING_BUFFER") then Some Ring
    else if is word (codes "DISCARD") then Some Discard
    else None

-- a word that says it
unfoldable pub policy_in : Value → Option FullPolicy
policy_in (Word bytes) = policy_of bytes
policy_in (Text bytes) = None

-- ---- a field with a value: what is said with it, or none where the field is one of the table and the value isn't of its kind

unfoldable pub with_size : BufferSaid → Numeral → BufferSaid
with_size said size = record { size_kb = Some size; policy = said.policy }

-- with another policy
unfoldable pub with_policy : BufferSaid → FullPolicy → BufferSaid
with_policy said policy = record { size_kb = said.size_kb; policy = policy }

-- a field of a buffer
unfoldable pub buffer_with : List ℕ → Value → BufferSaid → Option BufferSaid
buffer_with name value said =
    if is name (codes "size_kb") then option_map (with_size said) (number_in value)
    else if is name (codes "fill_policy") then option_map (with_policy said) (policy_in value)
    else Some said

-- with another name
unfoldable pub with_producer_name : ProducerSaid → List ℕ → ProducerSaid
with_producer_name said name = record { name = name; shm_size_kb = said.shm_size_kb; page_size_kb = said.page_size_kb }

-- with another size of the shared memory
unfoldable pub with_shm_size : ProducerSaid → Numeral → ProducerSaid
with_shm_size said size = record { name = said.name; shm_size_kb = size; page_size_kb = said.page_size_kb }

-- with another size of the pages
unfoldable pub with_page_size : ProducerSaid → Numeral → ProducerSaid
with_page_size said size = record { name = said.name; shm_size_kb = said.shm_size_kb; page_size_kb = size }

-- a field of a producer
unfoldable pub producer_with : List ℕ → Value → ProducerSaid → Option ProducerSaid
producer_with name value said =
    if is name (codes "producer_name") then option_map (with_producer_name said) (text_in value)
    else if is name (codes "shm_size_kb") then option_map (with_shm_size said) (number_in value)
    else if is name (codes "page_size_kb") then option_map (with_page_size said) (number_in value)
    else Some said

-- with one more entry of the filter
unfoldable pub with_filter : SourceSaid → List ℕ → SourceSaid
with_filter said entry = record { name = said.name; target = said.target; filters = said.filters ++ entry ∷ [] }

-- a field of a source, outside its `config`
unfoldable pub source_with : List ℕ → Value → SourceSaid → Option SourceSaid
source_with name value said =
    if is name (codes "producer_name_filter") then option_map (with_filter said) (text_in value)
    else if is name (codes "config") then None
    else Some said

-- in a source's `config`
unfoldable pub with_source_name : SourceSaid → List ℕ → SourceSaid
with_source_name said name = record { name = name; target = said.target; filters = said.filters }

-- with another target
unfoldable pub with_target : SourceSaid → Numeral → SourceSaid
with_target said target = record { name = said.name; target = target; filters = said.filters }

-- a field in the `config` of a source
unfoldable pub config_with : List ℕ → Value → SourceSaid → Option SourceSaid
config_with name value said =
    if is name (codes "name") then option_map (with_source_name said) (text_in value)
    else if is name (codes "target_buffer") then option_map (with_target said) (number_in value)
    else Some said

-- ---- a field of a block

-- a field of the table hasn't its kind
unfoldable pub unfit : Block → Block
unfit block = record { line = block.line; fits = false; what = block.what }

-- the block says this from now on, or has a field that hasn't its kind
unfoldable pub saying : Block → Option What → Block
saying block None = unfit block
saying block (Some what) = record { line = block.line; fits = block.fits; what = what }

-- with one more field that has a value
unfoldable pub what_with : List ℕ → Value → What → Option What
what_with name value (Buffer said) = option_map Buffer (buffer_with name value said)
what_with name value (Producer said) = option_map Producer (producer_with name value said)
what_with name value (Source said) = option_map Source (source_with name value said)

-- a block with one more field that has a value
unfoldable pub with_value : List ℕ → Value → Block → Block
with_value name value block = saying block (what_with name value block.what)

-- with one more field in its `config`
unfoldable pub what_with_config : List ℕ → Value → What → Option What
what_with_config name value (Buffer said) = Some (Buffer said)
what_with_config name value (Producer said) = Some (Producer said)
what_with_config name value (Source said) = option_map Source (config_with name value said)

-- the same with a field in its `config`
unfoldable pub with_config_value : List ℕ → Value → Block → Block
with_config_value name value block = saying block (what_with_config name value block.what)

-- ---- a block inside a block

-- the field is one of the table that has a value
unfoldable pub wants_value : List ℕ → What → Bool
wants_value name (Buffer said) = is name (codes "size_kb") || is name (codes "fill_policy")
wants_value name (Producer said) = is name (codes "producer_name") || (is name (codes "shm_size_kb") || is name (codes "page_size_kb"))
wants_value name (Source said) = is name (codes "producer_name_filter")

-- the same in a source's `config`
unfoldable pub config_wants_value : List ℕ → Bool
config_wants_value name = is name (codes "name") || is name (codes "target_buffer")

-- the block inside is a source's `config`
unfoldable pub opens_config : List ℕ → What → Bool
opens_config name (Buffer said) = false
opens_config name (Producer said) = false
opens_config name (Source said) = is name (codes "config")

-- with a block inside that is skipped
unfoldable pub with_block : List ℕ → Block → Block
with_block name block = if wants_value name block.what then unfit block else block

-- the same where the block inside stands in its `config`
unfoldable pub with_config_block : List ℕ → Block → Block
with_config_block name block = if config_wants_value name then unfit block else block

-- ---- all fields

-- a block says more with the fields of its `config`
abbrev pub config_said : Block → Entries → Block
config_said block NoEntries = block
config_said block (ValueEntry line name value others) = config_said (with_config_value name value block) others
config_said block (BlockEntry line name inner others) = config_said (with_config_block name block) others

-- a block says more with these fields
abbrev pub block_said : Block → Entries → Block
block_said block NoEntries = block
block_said block (ValueEntry line name value others) = block_said (with_value name value block) others
block_said block (BlockEntry line name inner others) =
    block_said (if opens_config name block.what then config_said block inner else with_block name block) others

-- a block that begins here
unfoldable pub begun : ℕ → What → Block
begun line what = record { line = line; fits = true; what = what }

-- a block's name with a value in place of the block: one that hasn't its kind
unfoldable pub value_block : ℕ → Option What → List Block
value_block line None = []
value_block line (Some what) = unfit (begun line what) ∷ []

-- a block at the top, where its name is one of the three
unfoldable pub top_block : ℕ → Option What → Entries → List Block
top_block line None inner = []
top_block line (Some what) inner = block_said (begun line what) inner ∷ []

-- the blocks of a text in their order. All other fields are skipped, with whatever is in them.
abbrev pub blocks_of : Entries → List Block
blocks_of NoEntries = []
blocks_of (ValueEntry line name value others) = value_block line (kind_of name) ++ blocks_of others
blocks_of (BlockEntry line name inner others) = top_block line (kind_of name) inner ++ blocks_of others
