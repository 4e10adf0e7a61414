-- The sources before this one have their payload sizes.
use Rattle.std.proofs.Common.{◌≡◌, map, take}
use Rattle.stream_producer.specs.Setups.{payload_asked}
use Rattle.stream_producer.proofs.making.frame_limits.Given as goal

abbrev pub invariant-loop-source : goal.invariant-loop-source
invariant-loop-source l = l.payload_sizes.items ≡ map (payload_asked l.config.producers.items) (take l.source-index l.config.sources.items)
