-- The sizes of the producers so far, and the largest of them.
use Rattle.std.proofs.Common.{◌≡◌, ℕ, ◌≤◌, take, get_or}
use Rattle.chunk_plain.specs.Laying.{sizes_of}
use Rattle.replay_host.proofs.raws.PayloadRoom.make.Given as goal

abbrev pub invariant-loop-producer : goal.invariant-loop-producer
invariant-loop-producer l = record {
  sizes : l.sizes.items ≡ sizes_of (take l.producer-index l.producers);
  most : (k : ℕ) → get_or l.sizes.items k 0 ≤ l.most;
}
