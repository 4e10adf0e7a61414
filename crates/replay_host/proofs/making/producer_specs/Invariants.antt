use Rattle.std.proofs.Common.{take}
use Rattle.std.specs.List.{AllZip}
use Rattle.replay_model.specs.Played.{IsSpecOf}
use Rattle.replay_host.proofs.making.producer_specs.Given as goal

abbrev pub invariant-loop-producer : goal.invariant-loop-producer
invariant-loop-producer l = AllZip IsSpecOf (take l.producer-index l.producers) l.specs.items
