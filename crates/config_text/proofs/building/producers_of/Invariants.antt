use Rattle.std.proofs.Common.{◌≡◌, take, map}
use Rattle.config_text.specs.Kept.{producer_kept}
use Rattle.config_text.specs.Narrow.{producer_of}
use Rattle.config_text.proofs.building.producers_of.Given as goal

abbrev pub invariant-loop-producer : goal.invariant-loop-producer
invariant-loop-producer l = l.made.items ≡ map producer_of (map producer_kept (take l.producer-index l.producers))
