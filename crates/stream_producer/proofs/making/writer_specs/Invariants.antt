-- The sources before this one have their specifications.
use Rattle.std.proofs.Common.{◌≡◌, map, take}
use Rattle.stream_producer.specs.Setups.{writer_asked}
use Rattle.stream_producer.proofs.making.writer_specs.Given as goal

abbrev pub invariant-loop-source : goal.invariant-loop-source
invariant-loop-source l = l.specs.items ≡ map writer_asked (take l.source-index l.sources)
