use Rattle.std.proofs.Common.{length, ◌-◌, ◌≤◌}
use Rattle.chunk_index.specs.Slots.{home}
use Rattle.chunk_index.specs.Table.{Passes}
use Rattle.chunk_index.proofs.slot.find_slot.Given as goal

abbrev pub invariant-loop-at : goal.invariant-loop-at
invariant-loop-at l = record {
  order : home l.capacity l.key ≤ l.at;
  inside : l.at ≤ length l.slots;
  passes : Passes l.slots l.key (home l.capacity l.key) l.at;
}

abbrev pub decreases-loop-at : goal.decreases-loop-at
decreases-loop-at l = length l.slots - l.at
