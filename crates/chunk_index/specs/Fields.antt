-- What the fields of an index mean.
use Rattle.std.specs.Prelude.{◌≡◌, length, vec_capacity}
use Rattle.std.specs.FinMap.{len}
use Rattle.chunk_index.specs.declared.index.Index.TheInside.{Inside}
use Rattle.chunk_index.specs.Slots.{entries_of, map_of}
use Rattle.chunk_index.specs.Room.{HasRoom}
use Rattle.chunk_index.specs.Value.{IndexValue}

-- an index as its callers see it
abbrev pub index_view : Inside → IndexValue
index_view index = record { capacity = index.capacity; places = map_of index.slots.items }

-- the fields of an index hold together
pub record IsIndex (index : Inside) : Type 0 where
  pub room : HasRoom index.room index.capacity index.slots.items index.others.items (vec_capacity index.slots) (vec_capacity index.others)
  pub used : index.used ≡ length (entries_of index.slots.items)
  -- no entry is hidden by an earlier one with its key
  pub count : len (map_of index.slots.items) ≡ length (entries_of index.slots.items)
