-- What the code keeps of blocks, in the words of the definitions.
use Rattle.std.specs.Prelude.{◌≡◌, ℕ, ◌≤◌, List, ◌++◌, map, slice_range}
use Rattle.std.specs.Borrow.{Bor}
use Rattle.std.specs.List.{All}
use Rattle.config_text.specs.declared.kept.KeptProducer.{KeptProducer}
use Rattle.config_text.specs.declared.kept.KeptSource.{KeptSource}
use Rattle.config_text.specs.declared.kept.KeptWhat.{KeptWhat}
use Rattle.config_text.specs.declared.kept.KeptWhat.TheVariants as kept
use Rattle.config_text.specs.declared.kept.KeptBlock.{KeptBlock}
use Rattle.config_text.specs.declared.kept.KeptLevel.{KeptLevel}
use Rattle.config_text.specs.declared.kept.KeptLevel.TheVariants as levels
use Rattle.config_text.specs.Blocks.{Block, What, Buffer, Producer, Source, ProducerSaid, SourceSaid}
use Rattle.config_text.specs.Collecting.{Level, AtTop, InBlock, InConfig}

-- parts of the text as lists of bytes
abbrev pub texts : List (Bor (List ℕ)) → List (List ℕ)
texts parts = map (λ part. part.now) parts

-- a producer
abbrev pub producer_kept : KeptProducer → ProducerSaid
producer_kept producer = record { name = producer.name.now; shm_size_kb = producer.shm_size_kb; page_size_kb = producer.page_size_kb }

-- a source has a part of all entries
abbrev pub source_kept : List (Bor (List ℕ)) → KeptSource → SourceSaid
source_kept entries source = record { name = source.name.now; target = source.target; filters = texts (slice_range entries source.from source.to) }

-- what a block says
abbrev pub what_kept : List (Bor (List ℕ)) → KeptWhat → What
what_kept entries (kept.Buffer said) = Buffer said
what_kept entries (kept.Producer producer) = Producer (producer_kept producer)
what_kept entries (kept.Source source) = Source (source_kept entries source)

-- a block
abbrev pub block_kept : List (Bor (List ℕ)) → KeptBlock → Block
block_kept entries block = record { line = block.line; fits = block.fits; what = what_kept entries block.what }

-- some blocks
abbrev pub blocks_kept : List (Bor (List ℕ)) → List KeptBlock → List Block
blocks_kept entries blocks = map (block_kept entries) blocks

-- where the next field stands
abbrev pub level_kept : List (Bor (List ℕ)) → KeptLevel → Level
level_kept entries levels.Top = AtTop
level_kept entries (levels.Block block) = InBlock (block_kept entries block)
level_kept entries (levels.Config block) = InConfig (block_kept entries block)

-- the part of a source lies among so many entries
abbrev pub IsInside : ℕ → KeptWhat → Type 0
IsInside count (kept.Buffer said) = Unit {0}
IsInside count (kept.Producer producer) = Unit {0}
IsInside count (kept.Source source) = (source.from ≤ source.to) × (source.to ≤ count)

-- and goes up to the last of them
abbrev pub IsNewest : ℕ → KeptWhat → Type 0
IsNewest count (kept.Buffer said) = Unit {0}
IsNewest count (kept.Producer producer) = Unit {0}
IsNewest count (kept.Source source) = (source.from ≤ source.to) × (source.to ≡ count)

-- the block that is open has the newest entries
abbrev pub IsOpen : ℕ → KeptLevel → Type 0
IsOpen count levels.Top = Unit {0}
IsOpen count (levels.Block block) = IsNewest count block.what
IsOpen count (levels.Config block) = IsNewest count block.what

-- each block's part lies among the entries
abbrev pub AreInside : ℕ → List KeptBlock → Type 0
AreInside count blocks = All (λ block. IsInside count block.what) blocks

-- the entries are those that there were, and maybe more behind them
pub record GrowsBy (old new : List (Bor (List ℕ))) : Type 0 where
  pub more : List (Bor (List ℕ))
  pub grown : new ≡ old ++ more
