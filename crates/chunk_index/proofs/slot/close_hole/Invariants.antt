use Rattle.std.proofs.Common.{length, ◌-◌, ◌≡◌}
use Rattle.chunk_index.specs.Slots.{entries_of, map_of}
use Rattle.chunk_index.specs.Table.{IsHoled}
use Rattle.chunk_index.proofs.slot.close_hole.Given as goal

abbrev pub invariant-loop-at : goal.invariant-loop-at
invariant-loop-at l = record {
  holed : IsHoled l.capacity l.slots l.hole l.at;
  same : map_of l.slots ≡ map_of l.fn.slots;
  entries : length (entries_of l.slots) ≡ length (entries_of l.fn.slots);
}

abbrev pub decreases-loop-at : goal.decreases-loop-at
decreases-loop-at l = length l.initial.slots - l.at
