-- How numbers and tags are written, after the protocol-buffers encoding.
use Rattle.std.specs.Prelude.{ℕ, zero, suc, ◌+◌, ◌*◌, ◌/◌, ◌%◌, nat_lt, List, [], ◌∷◌, if◌then◌else◌}

-- groups of seven bits, at most so many, the lowest first: each but the last has its high bit set
unfoldable pub groups : ℕ → ℕ → List ℕ
groups zero n = []
groups (suc most) n = if nat_lt n 128 then n ∷ [] else (128 + n % 128) ∷ groups most (n / 128)

-- the shortest varint of a number below 2 ^ 64
unfoldable pub varint : ℕ → List ℕ
varint n = groups 10 n

-- the varint of four bytes of a number below 2 ^ 28, whatever its size
unfoldable pub redundant : ℕ → List ℕ
redundant n = (128 + n % 128) ∷ (128 + n / 128 % 128) ∷ (128 + n / 16384 % 128) ∷ (n / 2097152 % 128) ∷ []

-- what stands in front of a field: its number, and how its value is written
unfoldable pub tag : ℕ → ℕ → List ℕ
tag field wire = varint (8 * field + wire)
