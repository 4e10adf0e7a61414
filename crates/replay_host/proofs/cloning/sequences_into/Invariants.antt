use Rattle.std.proofs.Common.{◌≡◌, ◌+◌, map, take}
use Rattle.chunk_plain.specs.Laying.{setup_of}
use Rattle.world_model.specs.FirstBuffers.{sequences_from}
use Rattle.trace_buffer.specs.Made.{sequence_of, AreDistinct, AllSmall}
use Rattle.service_core.proofs.MakeLemmas.{AllBelow}
use Rattle.replay_host.proofs.cloning.sequences_into.Given as goal

abbrev pub invariant-loop-place : goal.invariant-loop-place
invariant-loop-place l = record {
  sequences : map sequence_of l.specs.items ≡ sequences_from (setup_of l.producers l.writers) l.buffer 0 (take l.place l.writers);
  distinct : AreDistinct l.specs.items;
  small : AllSmall l.size l.specs.items;
  below : AllBelow (l.place + 2) l.specs.items;
}
