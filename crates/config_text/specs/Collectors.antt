-- What a collector has of a text so far.
use Rattle.std.specs.Prelude.{length}
use Rattle.config_text.specs.declared.collector.Collector.{Collector}
use Rattle.config_text.specs.Collecting.{Collected}
use Rattle.config_text.specs.Kept.{blocks_kept, level_kept, AreInside, IsOpen}

-- in the words of the definitions
abbrev pub collected_of : Collector → Collected
collected_of collector = record {
  blocks = blocks_kept collector.entries.items collector.ended.items;
  level = level_kept collector.entries.items collector.level;
  skipped = collector.skipped;
}

-- each block's part lies among the entries, and the open one's at their end
pub record IsLaid (collector : Collector) : Type 0 where
  pub inside : AreInside (length collector.entries.items) collector.ended.items
  pub open_one : IsOpen (length collector.entries.items) collector.level
