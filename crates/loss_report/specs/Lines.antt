-- A line of the report: names with their numbers, after the report's format (docs/FORMATS.md).
use Rattle.std.specs.Prelude.{ℕ, List, [], ◌∷◌, ◌++◌, codes, decimal}

-- a name, and the number behind it
pub record Entry : Type 0 where
  pub name : List ℕ
  pub value : ℕ

-- with one space between them
unfoldable pub entry_text : Entry → List ℕ
entry_text entry = entry.name ++ (codes " " ++ decimal entry.value)

-- the entries behind the first one, a space before each
abbrev pub others_text : List Entry → List ℕ
others_text [] = []
others_text (entry ∷ entries) = (codes " " ++ entry_text entry) ++ others_text entries

-- the entries of a line, and its line feed
abbrev pub line_text : Entry → List Entry → List ℕ
line_text first others = entry_text first ++ (others_text others ++ codes "\n")
