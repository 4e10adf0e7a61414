-- Where the records of a buffer lie, and which are live. After the tracing service's buffers document: records stand one
-- behind another, a record that doesn't fit behind the last one goes to the buffer's start, and what a new record or the
-- padding before it meets is overwritten.
use Rattle.std.specs.Prelude.{ℕ, ◌+◌, ◌-◌, min, max, Bool, ◌||◌, not, nat_le, nat_lt, List, [], ◌∷◌, ◌++◌, filter, if◌then◌else◌}
use Rattle.std.specs.List.{list_any}

-- some byte lies both in the m bytes from a on and in the n bytes from b on
abbrev pub overlaps : ℕ → ℕ → ℕ → ℕ → Bool
overlaps a m b n = nat_lt (max a b) (min (a + m) (b + n))

-- a record of this size fits between the write place and the end of a buffer of `room` bytes
abbrev pub fits : ℕ → ℕ → ℕ → Bool
fits room next size = nat_le (next + size) room

-- the place of a next record, and the padding before it
abbrev pub place_after : ℕ → ℕ → ℕ → ℕ
place_after room next size = if fits room next size then next else 0

-- how many bytes of padding the next record makes
abbrev pub padding_before : ℕ → ℕ → ℕ → ℕ
padding_before room next size = if fits room next size then 0 else room - next

-- a next record of this size, or its padding, meets the interval of n bytes from `at` on
abbrev pub is_met : ℕ → ℕ → ℕ → ℕ → ℕ → Bool
is_met room next size at n =
    overlaps at n (place_after room next size) size || overlaps at n next (padding_before room next size)

-- The same said of all records at once, from their sizes alone

-- a record's interval, and that of the padding before it
pub record Placement : Type 0 where
  pub at : ℕ
  pub size : ℕ
  pub padding_at : ℕ
  pub padding : ℕ

-- where the next record comes to lie, with its padding
abbrev pub placement_after : ℕ → ℕ → ℕ → Placement
placement_after room next size = record {
  at = place_after room next size;
  size = size;
  padding_at = next;
  padding = padding_before room next size;
}

-- the placements of records of these sizes, in their order
abbrev pub placements_from : ℕ → ℕ → List ℕ → List Placement
placements_from room next [] = []
placements_from room next (size ∷ sizes) =
    placement_after room next size ∷ placements_from room (place_after room next size + size) sizes

-- the later record, or its padding, meets the interval of the earlier one
abbrev pub displaces : Placement → Placement → Bool
displaces later earlier =
    overlaps earlier.at earlier.size later.at later.size
    || overlaps earlier.at earlier.size later.padding_at later.padding

-- live are exactly those that no later one displaces
abbrev pub live_of : List Placement → List Placement
live_of [] = []
live_of (placement ∷ later) =
    if list_any (λ other. displaces other placement) later then live_of later else placement ∷ live_of later

-- live one step at a time, as a buffer knows them: a new record displaces what it meets
abbrev pub live_after : List Placement → List Placement → List Placement
live_after live [] = live
live_after live (placement ∷ later) =
    live_after (filter (λ other. not (displaces placement other)) live ++ placement ∷ []) later
