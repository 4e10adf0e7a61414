-- What a configuration text says: fields with a value or with fields of their own, as a tree and one after another.
use Rattle.std.specs.Prelude.{ℕ, List, [], ◌∷◌, ◌++◌}

-- the bytes of a word, or of a text in quotes without these
pub data Value : Type 0 where
  Word : (bytes : List ℕ) → Value
  Text : (bytes : List ℕ) → Value

-- the fields of a block or of the whole text, each with the line on which its name stands
pub data Entries : Type 0 where
  NoEntries : Entries
  ValueEntry : (line : ℕ) (name : List ℕ) (value : Value) (others : Entries) → Entries
  BlockEntry : (line : ℕ) (name : List ℕ) (inner others : Entries) → Entries

-- a field with a value, or the beginning or the end of a block
pub data Item : Type 0 where
  Single : (line : ℕ) (name : List ℕ) (value : Value) → Item
  Begin : (line : ℕ) (name : List ℕ) → Item
  End : Item

-- the fields one after another, as the text has them
abbrev pub items_of : Entries → List Item
items_of NoEntries = []
items_of (ValueEntry line name value others) = Single line name value ∷ items_of others
items_of (BlockEntry line name inner others) = Begin line name ∷ (items_of inner ++ End ∷ items_of others)
