-- Which bytes are a varint, and of which number, after the protocol-buffers encoding.
use Rattle.std.specs.Prelude.{◌≡◌, ℕ, ◌+◌, ◌*◌, ◌%◌, ◌^◌, ◌<◌, ◌≤◌, List, [], ◌∷◌, length, take, slice_index, All}

-- the number that the low seven bits of the bytes join to, the lowest first
abbrev pub joined : List ℕ → ℕ
joined [] = 0
joined (byte ∷ bytes) = byte % 128 + 128 * joined bytes

-- each byte but the last has its high bit set, and the last hasn't
abbrev pub IsWhole : List ℕ → Type 0
IsWhole [] = ⊥
IsWhole (byte ∷ []) = byte < 128
IsWhole (byte ∷ next ∷ bytes) = (128 ≤ byte) × IsWhole (next ∷ bytes)

-- the bytes are a varint of the number, the shortest or a longer one: at most ten bytes and 64 bits
pub record IsVarint (bytes : List ℕ) (n : ℕ) : Type 0 where
  pub whole : IsWhole bytes
  pub most : length bytes ≤ 10
  pub value : joined bytes ≡ n
  pub fits : n < 2 ^ 64

-- no front of the bytes is a varint of any number
abbrev pub NoVarintInFront : List ℕ → Type 0
NoVarintInFront bytes = (n len : ℕ) → IsVarint (take len bytes) n → ⊥

-- the bytes end inside a varint: fewer than ten, and each has its high bit set
abbrev pub IsShort : List ℕ → Type 0
IsShort bytes = (length bytes ≤ 9) × All (λ byte. 128 ≤ byte) bytes

-- nine bytes with the high bit set hold 63 bits, and the tenth says more than the one that is left
abbrev pub IsOver64 : List ℕ → Type 0
IsOver64 bytes = (10 ≤ length bytes) × All (λ byte. 128 ≤ byte) (take 9 bytes) × (1 < slice_index bytes 9)
