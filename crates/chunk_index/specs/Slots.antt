-- The slots of an index, and the map that they are.
use Rattle.std.specs.Prelude.{ℕ, ◌+◌, ◌-◌, ◌*◌, ◌/◌, ◌%◌, ◌^◌, ◌==◌, min, Bool, true, false, List, [], ◌∷◌, slice_index_or, Option, Some, None, if◌then◌else◌}
use Rattle.std.specs.Option.{option_map}
use Rattle.std.specs.Ordering.{nat_cmp}
use Rattle.std.specs.FinMap.{FinMap, from_entries, insert}
use Rattle.chunk_index.specs.declared.slot.Entry.{Entry}
use Rattle.chunk_index.specs.Value.{key_of}

-- the slot from which a key is looked for, one of 2 * capacity + 1. Eight keys in a row have their homes in a row, the last
-- key the first one. The first of these is a share of the slots as large as the number of the eight, mixed by a factor, is of 2 ^ 64.
unfoldable pub home : ℕ → ℕ → ℕ
home capacity key = min (key / 8 * 0x9e3779b97f4a7c15 % 2 ^ 64 * (2 * capacity + 1) / 2 ^ 64 + (7 - key % 8)) (2 * capacity)

-- the key of an entry
abbrev pub entry_key : Entry → ℕ
entry_key entry = key_of entry.sequence entry.chunk_id

-- the slot at a place
abbrev pub slot : List (Option Entry) → ℕ → Option Entry
slot slots at = slice_index_or slots at None

-- the slot has an entry
abbrev pub is_used : Option Entry → Bool
is_used None = false
is_used (Some entry) = true

-- the slot has the entry of this key
abbrev pub has_key : ℕ → Option Entry → Bool
has_key key None = false
has_key key (Some entry) = key == entry_key entry

-- the place that the slot has for the key
abbrev pub place_in : ℕ → Option Entry → Option ℕ
place_in key there = if has_key key there then option_map (λ (entry : Entry). entry.place) there else None

-- keys and places, in the order of the slots
abbrev pub entries_of : List (Option Entry) → List (ℕ × ℕ)
entries_of [] = []
entries_of (None ∷ slots) = entries_of slots
entries_of (Some entry ∷ slots) = (entry_key entry, entry.place) ∷ entries_of slots

-- the finite map that the slots are
abbrev pub map_of : List (Option Entry) → FinMap nat_cmp ℕ
map_of slots = from_entries (entries_of slots)

-- the finite map with the entry of one slot more, where it has one
abbrev pub with_slot : Option Entry → FinMap nat_cmp ℕ → FinMap nat_cmp ℕ
with_slot None places = places
with_slot (Some entry) places = insert places (entry_key entry) entry.place
