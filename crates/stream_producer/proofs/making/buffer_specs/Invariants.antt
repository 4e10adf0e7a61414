-- The buffers before this one have their specifications.
use Rattle.std.proofs.Common.{◌≡◌, map, take}
use Rattle.stream_producer.specs.Setups.{buffer_asked}
use Rattle.stream_producer.proofs.making.buffer_specs.Given as goal

abbrev pub invariant-loop-buffer : goal.invariant-loop-buffer
invariant-loop-buffer l = l.specs.items ≡ map buffer_asked (take l.buffer-index l.buffers)
