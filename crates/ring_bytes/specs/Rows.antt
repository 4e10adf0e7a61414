-- Rows of parts in the bytes of a ring: records, padding and what is dead, one behind another, each with its header in
-- front.
use Rattle.std.specs.Prelude.{◌≡◌, ℕ, zero, suc, ◌+◌, ◌<◌, nat_lt, List, [], ◌∷◌, if◌then◌else◌}
use Rattle.page_geometry.specs.declared.geometry.TheConstants.{RECORD_HEADER_SIZE}
use Rattle.page_geometry.specs.Sizes.{record_size}
use Rattle.ring_bytes.specs.declared.header.Header.{Header}
use Rattle.ring_bytes.specs.declared.ring.TheConstants.{MAX_RING_SIZE}
use Rattle.ring_bytes.specs.Bytes.{slice}
use Rattle.ring_bytes.specs.Header.{header_at, StandsAt, is_live}
use Rattle.ring_bytes.specs.Value.{Stored}

-- a part of the ring, at its place
pub record Part : Type 0 where
  pub at : ℕ
  pub header : Header

-- the parts from a place up to `end`, read from their headers, `limit` of them at most
abbrev pub parts : ℕ → List ℕ → ℕ → ℕ → List Part
parts zero bytes at end = []
parts (suc limit) bytes at end =
    if nat_lt at end
    then record { at = at; header = header_at bytes at }
    ∷ parts limit bytes (at + record_size (header_at bytes at).len) end
    else []

-- Each part takes a byte at least, so `end` of them are enough.
unfoldable pub row : List ℕ → ℕ → ℕ → List Part
row bytes at end = parts end bytes at end

-- these parts stand from `at` on, one behind another, each with all bytes of its header, and the last one ends at `end`
abbrev pub AreParts : List ℕ → ℕ → List Part → ℕ → Type 0
AreParts bytes at [] end = at ≡ end
AreParts bytes at (part ∷ rest) end =
    (part.at ≡ at) × (part.header ≡ header_at bytes at) × (part.header.len < MAX_RING_SIZE)
    × StandsAt bytes at part.header × AreParts bytes (at + record_size part.header.len) rest end

-- what stands from `at` to `end` is parts
pub record IsRow (bytes : List ℕ) (at end : ℕ) : Type 0 where
  pub are : AreParts bytes at (row bytes at end) end

-- the record that a part is
abbrev pub stored_of : List ℕ → Part → Stored
stored_of bytes part =
    record { at = part.at; key = part.header.key; payload = slice (part.at + RECORD_HEADER_SIZE) part.header.len bytes }

-- the records of these parts that are live
abbrev pub live_in : List ℕ → List Part → List Stored
live_in bytes [] = []
live_in bytes (part ∷ rest) =
    if is_live part.header then stored_of bytes part ∷ live_in bytes rest else live_in bytes rest

-- the live records of a row
abbrev pub live_row : List ℕ → ℕ → ℕ → List Stored
live_row bytes at end = live_in bytes (row bytes at end)

-- a row from `from` to `end` of which nothing is live before `at`
pub record IsPast (bytes : List ℕ) (from at end : ℕ) : Type 0 where
  pub dead : IsRow bytes from at
  pub none : live_row bytes from at ≡ []
  pub rest : IsRow bytes at end
