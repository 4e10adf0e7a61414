-- Where the slots of an index have their entries: each key's stands where a search for it, from its home up, ends.
use Rattle.std.specs.Prelude.{◌≡◌, ◌≢◌, ℕ, ◌<◌, ◌≤◌, ◌⊎◌, true, false, List, length, Option}
use Rattle.chunk_index.specs.declared.slot.Entry.{Entry}
use Rattle.chunk_index.specs.Slots.{home, slot, is_used, has_key}

-- the slots from `from` up to `at` are used, and none has the key
abbrev pub Passes : List (Option Entry) → ℕ → ℕ → ℕ → Type 0
Passes slots key from at =
    (other : ℕ) → from ≤ other → other < at
    → (is_used (slot slots other) ≡ true) × (has_key key (slot slots other) ≡ false)

-- a search for the key that begins at `from` ends at `at`: behind the last slot, at a free one, or at the key's
pub record EndsAt (slots : List (Option Entry)) (key from at : ℕ) : Type 0 where
  pub order : from ≤ at
  pub passes : Passes slots key from at
  pub ends : (length slots ≤ at) ⊎ (is_used (slot slots at) ≡ false) ⊎ (has_key key (slot slots at) ≡ true)

-- every entry stands where a search for it comes by
pub record IsTable (capacity : ℕ) (slots : List (Option Entry)) : Type 0 where
  -- no entry stands before its home
  pub reached : (at key : ℕ) → has_key key (slot slots at) ≡ true → home capacity key ≤ at
  -- from its home up to it each slot is used
  pub used : (at other key : ℕ) → has_key key (slot slots at) ≡ true → home capacity key ≤ other → other < at
      → is_used (slot slots other) ≡ true
  -- no key stands twice
  pub once : (at other key : ℕ) → has_key key (slot slots at) ≡ true → has_key key (slot slots other) ≡ true → at ≡ other

-- a table but for one free slot that a search may have to pass: only entries from `from` on may be behind it for their homes
pub record IsHoled (capacity : ℕ) (slots : List (Option Entry)) (hole from : ℕ) : Type 0 where
  pub reached : (at key : ℕ) → has_key key (slot slots at) ≡ true → home capacity key ≤ at
  pub used : (at other key : ℕ) → has_key key (slot slots at) ≡ true → home capacity key ≤ other → other < at
      → other ≢ hole → is_used (slot slots other) ≡ true
  pub once : (at other key : ℕ) → has_key key (slot slots at) ≡ true → has_key key (slot slots other) ≡ true → at ≡ other
  pub inside : hole < length slots
  pub empty : is_used (slot slots hole) ≡ false
  pub behind : hole < from
  pub past : (at key : ℕ) → has_key key (slot slots at) ≡ true → home capacity key ≤ hole → hole < at → from ≤ at
