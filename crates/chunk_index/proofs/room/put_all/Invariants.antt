use Rattle.std.proofs.Common.{◌≡◌, ◌+◌, ◌*◌, length, take}
use Rattle.chunk_index.specs.Slots.{entries_of, map_of}
use Rattle.chunk_index.specs.Table.{IsTable}
use Rattle.chunk_index.proofs.room.put_all.Given as goal

abbrev pub invariant-loop-at : goal.invariant-loop-at
invariant-loop-at l = record {
  size : length l.into ≡ 3 * l.capacity + 1;
  table : IsTable l.capacity l.into;
  map : map_of l.into ≡ map_of (take l.at l.from);
  entries : length (entries_of l.into) ≡ length (entries_of (take l.at l.from));
}
