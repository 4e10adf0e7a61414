-- A configuration: its buffers, its producers, and the data sources that write for them.
use Rattle.std.specs.Prelude.{List}
use Rattle.config_text.specs.declared.config.ConfigBuffer.{ConfigBuffer}
use Rattle.config_text.specs.declared.config.ConfigProducer.{ConfigProducer}
use Rattle.config_text.specs.declared.config.ConfigSource.{ConfigSource}
use Rattle.config_text.specs.declared.config.Config.{Config}

-- the parts of a configuration as lists
pub record ConfigOf : Type 0 where
  pub buffers : List ConfigBuffer
  pub producers : List ConfigProducer
  pub sources : List ConfigSource

-- those of one in the code
abbrev pub parts_of : Config → ConfigOf
parts_of config = record { buffers = config.buffers.items; producers = config.producers.items; sources = config.sources.items }
