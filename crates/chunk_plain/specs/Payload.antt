-- Payloads as bytes: the words that they stand in, and the fragments that they read as. After the shared memory ABI of the tracing service
-- each fragment has its size in front, a varint of at most four bytes. That byte j of a payload is byte j % 8 of its word j / 8, counted
-- from the low one, is this project's own.
use Rattle.std.specs.Prelude.{◌≡◌, ℕ, zero, suc, ◌+◌, ◌-◌, ◌*◌, ◌/◌, ◌%◌, ◌<◌, ◌≤◌, ◌⊎◌, nat_lt, List, [], ◌∷◌, ◌++◌, length, slice_index_or, if◌then◌else◌}
use Rattle.std.specs.Int.{w64, to_le_bytes}

-- byte m of a word, counted from the low one
abbrev pub byte_of : ℕ → ℕ → ℕ
byte_of word m = slice_index_or (to_le_bytes w64 word) m 0

-- byte j of the words
abbrev pub byte_at : List ℕ → ℕ → ℕ
byte_at words j = byte_of (slice_index_or words (j / 8) 0) (j % 8)

-- byte j of the bytes
abbrev pub byte_in : List ℕ → ℕ → ℕ
byte_in bytes j = slice_index_or bytes j 0

-- the words from one place on, up to another one, were stored with the bytes of a copy, and no other word; each other byte is as before, or
-- the copy's
pub record StoredUpTo (copy : List ℕ) (first index : ℕ) (old new : List ℕ) : Type 0 where
  pub count : length new ≡ length old
  pub done : (j : ℕ) → 8 * first ≤ j → j < 8 * index → j < length copy → byte_at new j ≡ byte_in copy j
  pub others : (j : ℕ) → j < length copy → (byte_at new j ≡ byte_at old j) ⊎ (byte_at new j ≡ byte_in copy j)
  pub before : (other : ℕ) → other < first → slice_index_or new other 0 ≡ slice_index_or old other 0
  pub behind : (other : ℕ) → index ≤ other → slice_index_or new other 0 ≡ slice_index_or old other 0

-- the first bytes, so many
abbrev pub first_bytes : (ℕ → ℕ) → ℕ → List ℕ
first_bytes byte zero = []
first_bytes byte (suc n) = first_bytes byte n ++ byte n ∷ []

-- the number that the low seven bits of so many bytes from this place on have
abbrev pub size_at : (ℕ → ℕ) → ℕ → ℕ → ℕ
size_at byte at zero = 0
size_at byte at (suc n) = byte at % 128 + 128 * size_at byte (at + 1) n

-- how many bytes the size has that stands at this place: it ends with the first one whose high bit is clear, and has four at most
abbrev pub size_bytes : (ℕ → ℕ) → ℕ → ℕ
size_bytes byte at = if nat_lt (byte at) 128 then 1 else if nat_lt (byte (at + 1)) 128 then 2 else if nat_lt (byte (at + 2)) 128 then 3 else 4

-- the place behind the fragment that begins at this one: behind its size and so many bytes
abbrev pub end_after : (ℕ → ℕ) → ℕ → ℕ
end_after byte at = at + size_bytes byte at + size_at byte at (size_bytes byte at)

-- a fragment stands from one place up to another: the high bit of the last byte of its size is clear, and it ends where its size says
pub record IsFragment (byte : ℕ → ℕ) (from to : ℕ) : Type 0 where
  pub low : byte (from + size_bytes byte from - 1) < 128
  pub end : to ≡ end_after byte from

-- where the fragment with this number begins, where the fragments before it end at these places
abbrev pub start_of : List ℕ → ℕ → ℕ
start_of ends zero = 0
start_of ends (suc k) = slice_index_or ends k 0

-- the place behind the last of them
abbrev pub sealed_to : List ℕ → ℕ
sealed_to ends = slice_index_or ends (length ends - 1) 0

-- the bytes read as fragments that end at these places
abbrev pub HasFragments : (ℕ → ℕ) → List ℕ → Type 0
HasFragments byte ends = (k : ℕ) → k < length ends
    → IsFragment byte (start_of ends k) (slice_index_or ends k 0) × (slice_index_or ends k 0 ≤ sealed_to ends)

-- the ends of the fragments from this place on, so many
abbrev pub ends_from : (ℕ → ℕ) → ℕ → ℕ → List ℕ
ends_from byte at zero = []
ends_from byte at (suc n) = end_after byte at ∷ ends_from byte (end_after byte at) n
