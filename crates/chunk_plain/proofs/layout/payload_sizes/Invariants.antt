use Rattle.std.proofs.Common.{◌≡◌, ◌++◌, drop}
use Rattle.chunk_plain.specs.Laying.{sizes_of}
use Rattle.chunk_plain.proofs.layout.payload_sizes.Given as goal

abbrev pub invariant-loop-producer : goal.invariant-loop-producer
invariant-loop-producer l = l.sizes.items ++ sizes_of (drop l.producer-index l.producers) ≡ sizes_of l.producers
