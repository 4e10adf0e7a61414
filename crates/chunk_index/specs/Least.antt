-- The least key of a range, among slots that are gone over one by one.
use Rattle.std.specs.Prelude.{◌≡◌, ℕ, suc, ◌<◌, ◌≤◌, Bool, true, false, ◌&&◌, nat_le, nat_lt, List, Option, Some, None, if◌then◌else◌}
use Rattle.chunk_index.specs.declared.slot.Entry.{Entry}
use Rattle.chunk_index.specs.Slots.{slot, has_key, entry_key}

-- there is no key so far, or a greater one
abbrev pub is_nearer : ℕ → Option (ℕ × ℕ) → Bool
is_nearer key None = true
is_nearer key (Some best) = nat_lt key best.0

-- the key is in the range, and below the best one so far
abbrev pub improves : ℕ → ℕ → Option (ℕ × ℕ) → ℕ → Bool
improves low high best key = nat_le low key && (nat_le key high && is_nearer key best)

-- the best one with one slot more
abbrev pub nearer_of : ℕ → ℕ → Option (ℕ × ℕ) → Option Entry → Option (ℕ × ℕ)
nearer_of low high best None = best
nearer_of low high best (Some entry) =
    if improves low high best (entry_key entry) then Some (entry_key entry, entry.place) else best

-- of the slots below `count`, none has a key from `low` up to below `limit`
abbrev pub NoneBetween : List (Option Entry) → ℕ → ℕ → ℕ → Type 0
NoneBetween slots count low limit =
    (at key : ℕ) → at < count → low ≤ key → key < limit → has_key key (slot slots at) ≡ false

-- a slot has the key, with this place
pub record HasPlace (slots : List (Option Entry)) (key place : ℕ) : Type 0 where
  pub at : ℕ
  pub entry : Entry
  pub there : slot slots at ≡ Some entry
  pub key_is : key ≡ entry_key entry
  pub place_is : entry.place ≡ place

-- of the slots below `count`, this is the least key of the range
abbrev pub IsLeast : List (Option Entry) → ℕ → ℕ → ℕ → Option (ℕ × ℕ) → Type 0
IsLeast slots count low high None = NoneBetween slots count low (suc high)
IsLeast slots count low high (Some best) =
    (low ≤ best.0) × (best.0 ≤ high) × HasPlace slots best.0 best.1 × NoneBetween slots count low best.0
