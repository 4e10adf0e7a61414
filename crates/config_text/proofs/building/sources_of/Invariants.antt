use Rattle.std.proofs.Common.{◌≡◌, take, map}
use Rattle.config_text.specs.Kept.{producer_kept, blocks_kept}
use Rattle.config_text.specs.Narrow.{source_of}
use Rattle.config_text.specs.Reasons.{sources_said}
use Rattle.config_text.proofs.building.sources_of.Given as goal

abbrev pub invariant-loop-block : goal.invariant-loop-block
invariant-loop-block l = l.sources.items ≡ map (source_of (map producer_kept l.producers)) (sources_said (blocks_kept l.entries (take l.block-index l.blocks)))
