-- The relation of a text and the configuration that it spells, and of a faulty text and its first fault.
use Rattle.std.specs.Prelude.{◌≡◌, ℕ, ◌+◌, List, [], map, Option, Some, None, unwrap_or, Result, Ok, Err, ◌⊎◌}
use Rattle.text_form.specs.Entries.{Entries}
use Rattle.text_form.specs.Grammar.{IsTextOf, IsBadAt}
use Rattle.config_text.specs.declared.config.ConfigBuffer.{ConfigBuffer}
use Rattle.config_text.specs.declared.config.ConfigProducer.{ConfigProducer}
use Rattle.config_text.specs.declared.config.ConfigSource.{ConfigSource}
use Rattle.trace_base.specs.declared.numeral.Numeral.TheVariants.{Fits}
use Rattle.config_text.specs.declared.reason.ConfigReason.{ConfigReason}
use Rattle.config_text.specs.declared.reason.ConfigReason.TheVariants.{BadText}
use Rattle.config_text.specs.Ranges.{value}
use Rattle.config_text.specs.Blocks.{Block, ProducerSaid, SourceSaid, blocks_of}
use Rattle.config_text.specs.declared.kept.BufferSaid.{BufferSaid}
use Rattle.config_text.specs.Configs.{ConfigOf}
use Rattle.config_text.specs.Reasons.{buffers_said, producers_said, sources_said, or_default, producer_place, known_in, first_refusal}

-- ---- the configuration that blocks say of which none is refused

unfoldable pub buffer_of : BufferSaid → ConfigBuffer
buffer_of said = record { size_kb = value (unwrap_or said.size_kb (Fits 0)); policy = said.policy }

-- the producer that was said
unfoldable pub producer_of : ProducerSaid → ConfigProducer
producer_of said = record { name = said.name; shm_size_kb = value said.shm_size_kb; page_size_kb = value said.page_size_kb }

-- its target counts from 0, and its producer from 1
unfoldable pub source_of : List ProducerSaid → SourceSaid → ConfigSource
source_of producers said = record { name = said.name; target_buffer = value said.target; producer = producer_place producers said.filters + 1 }

-- the buffers, producers and sources of the blocks, in their order
unfoldable pub config_in : List Block → ConfigOf
config_in blocks = record {
  buffers = map buffer_of (buffers_said blocks);
  producers = map producer_of (or_default (producers_said blocks));
  sources = map (source_of (or_default (producers_said blocks))) (sources_said blocks);
}

-- a configuration, unless there is a fault
unfoldable pub unless : Option (ℕ × ConfigReason) → ConfigOf → Result ConfigOf (ℕ × ConfigReason)
unless None config = Ok config
unless (Some fault) config = Err fault

-- what the blocks of a text say, or the first that is refused
unfoldable pub judged : List Block → Result ConfigOf (ℕ × ConfigReason)
judged blocks = unless (first_refusal (known_in blocks) [] blocks) (config_in blocks)

-- ---- the relation of text and configuration

-- the text spells the configuration
pub record SpellsConfig (text : List ℕ) (config : ConfigOf) : Type 0 where
  pub entries : Entries
  pub text_of : IsTextOf entries text
  pub says : judged (blocks_of entries) ≡ Ok config

-- a block of the text is refused, and none before it
pub record IsRefused (text : List ℕ) (fault : ℕ × ConfigReason) : Type 0 where
  pub entries : Entries
  pub text_of : IsTextOf entries text
  pub says : judged (blocks_of entries) ≡ Err fault

-- the line at which the text is no more of the form
pub record IsNoText (text : List ℕ) (fault : ℕ × ConfigReason) : Type 0 where
  pub bad : IsBadAt text fault.0
  pub reason : fault.1 ≡ BadText

-- the text has this as its first fault
abbrev pub IsFaulty : List ℕ → ℕ × ConfigReason → Type 0
IsFaulty text fault = IsNoText text fault ⊎ IsRefused text fault
