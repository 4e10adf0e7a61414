use Rattle.std.proofs.Common.{◌≡◌, map, take}
use Rattle.replay_host.specs.Making.{buffer_asked}
use Rattle.replay_host.proofs.making.buffer_specs.Given as goal

abbrev pub invariant-loop-buffer : goal.invariant-loop-buffer
invariant-loop-buffer l = l.specs.items ≡ map buffer_asked (take l.buffer-index l.buffers)
