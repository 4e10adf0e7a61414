-- Reading several bytes at once: what the private calls do, in the words of the reading byte by byte.
use Rattle.std.specs.Prelude.{◌≡◌, ℕ, ◌+◌, ◌*◌, ◌<◌, ◌≤◌, List, [], ◌∷◌, ◌++◌, Some}
use Rattle.field_tree.specs.declared.mode.Mode.{Mode}
use Rattle.field_tree.specs.declared.mode.Mode.TheVariants.{Pairs}
use Rattle.field_tree.specs.declared.scan.Scanned.{Scanned}
use Rattle.field_tree.specs.Nodes.{Shown}
use Rattle.field_tree.specs.Machine.{TextReading, hex_value, next, run}

-- where a reading stands, with these nodes, so many open messages and this text
abbrev pub reading_with : List Shown → ℕ → List ℕ → Mode → TextReading
reading_with nodes depth text mode = record { nodes = nodes; depth = depth; text = text; mode = mode }

-- the bytes in front lead from one reading to another, and these bytes are left
abbrev pub RunsOver : TextReading → List ℕ → TextReading → List ℕ → Type 0
RunsOver from bytes to behind = (front : List ℕ) × (bytes ≡ front ++ behind) × (run from front ≡ Some to)

-- each digit more of a number that is at most so large is taken
abbrev pub TakesDigits : ℕ → (ℕ → TextReading) → Type 0
TakesDigits most to = (n digit : ℕ) → digit < 10 → n * 10 + digit ≤ most → next (to n) (48 + digit) ≡ Some (to (n * 10 + digit))

-- two hexadecimal digits in front say this byte
abbrev pub IsPair : List ℕ → ℕ → List ℕ → Type 0
IsPair bytes byte behind = record {
  high : ℕ;
  low : ℕ;
  cut : bytes ≡ high ∷ low ∷ behind;
  high_value : ℕ;
  low_value : ℕ;
  high_is : hex_value high ≡ Some high_value;
  low_is : hex_value low ≡ Some low_value;
  byte_is : byte ≡ 16 * high_value + low_value;
}

-- pairs of digits in front say these bytes
abbrev pub ArePairs : List ℕ → List ℕ → List ℕ → Type 0
ArePairs bytes [] behind = bytes ≡ behind
ArePairs bytes (byte ∷ more) behind = (rest : List ℕ) × IsPair bytes byte rest × ArePairs rest more behind

-- pairs of digits in front lead from one text to another
abbrev pub ReadsPairs : List ℕ → List ℕ → List ℕ → List ℕ → Type 0
ReadsPairs old bytes new behind = (nodes : List Shown) (depth field : ℕ)
    → RunsOver (reading_with nodes depth old (Pairs field)) bytes (reading_with nodes depth new (Pairs field)) behind

-- what was read on, where no text was being read
abbrev pub ScansFrom : Mode → List ℕ → Scanned → Type 0
ScansFrom mode bytes scanned = (nodes : List Shown) (depth : ℕ)
    → RunsOver (reading_with nodes depth [] mode) bytes (reading_with nodes depth scanned.text.now scanned.mode) scanned.behind.now
