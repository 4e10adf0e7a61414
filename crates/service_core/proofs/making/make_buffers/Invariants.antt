use Rattle.std.proofs.Common.{◌≡◌, map, take}
use Rattle.chunk_plain.specs.Laying.{setup_of}
use Rattle.world_model.specs.FirstBuffers.{first_buffers}
use Rattle.service_core.specs.Agreement.{spec_value}
use Rattle.service_core.proofs.making.make_buffers.Given as goal

abbrev pub invariant-loop-index : goal.invariant-loop-index
invariant-loop-index l = record {
  made : l.made.items ≡ first_buffers (setup_of l.producers l.writers) 1 (map spec_value (take l.index l.buffers));
}
