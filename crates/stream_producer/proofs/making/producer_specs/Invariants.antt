-- The producers before this one have their specifications.
use Rattle.std.proofs.Common.{take}
use Rattle.std.specs.List.{AllZip}
use Rattle.stream_producer.specs.Setups.{IsSpecOf}
use Rattle.stream_producer.proofs.making.producer_specs.Given as goal

abbrev pub invariant-loop-producer : goal.invariant-loop-producer
invariant-loop-producer l = AllZip IsSpecOf (take l.producer-index l.producers) l.specs.items
