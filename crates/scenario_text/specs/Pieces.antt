-- A text cut at each place of one byte.
use Rattle.std.specs.Prelude.{ℕ, ◌==◌, Option, Some, None, List, []}
use Rattle.std.specs.List.{slice_split, after_first}

-- The pieces round a byte: lines round the line feed, words round the space. There is always a last one, which may be
-- empty: a text whose last line has its line feed ends in an empty piece.
abbrev pub pieces : ℕ → List ℕ → List (List ℕ)
pieces separator bytes = slice_split (λ b. b == separator) bytes

-- the pieces behind a separator, and none where no separator came
unfoldable pub pieces_behind : ℕ → Option (List ℕ) → List (List ℕ)
pieces_behind separator None = []
pieces_behind separator (Some behind) = pieces separator behind

-- what stands behind the first space, and nothing where there is none
unfoldable pub behind_space : List ℕ → List ℕ
behind_space line = after_first (λ b. b == 32) line

-- What stands behind the second space of a line: its FIELDS where it has such, or the FIELD of an `n` line.
unfoldable pub fields_part : List ℕ → List ℕ
fields_part line = behind_space (behind_space line)
