-- Slots that have room for some entries, and memory beside them for more.
use Rattle.std.specs.Prelude.{◌≡◌, ℕ, ◌+◌, ◌*◌, ◌<◌, ◌≤◌, List, [], length, Option}
use Rattle.chunk_index.specs.declared.slot.Entry.{Entry}
use Rattle.chunk_index.specs.Table.{IsTable}

-- The slots are a table with room for so many entries. Where that is less than the capacity, there are no others, and the memory of
-- each of the two is enough for as many entries as the capacity.
pub record HasRoom (room capacity : ℕ) (slots others : List (Option Entry)) (memory other_memory : ℕ) : Type 0 where
  pub size : length slots ≡ 3 * room + 1
  pub table : IsTable room slots
  pub within : room ≤ capacity
  pub free : room < capacity → others ≡ []
  pub fits : room < capacity → 3 * capacity + 1 ≤ memory
  pub others_fit : room < capacity → 3 * capacity + 1 ≤ other_memory
