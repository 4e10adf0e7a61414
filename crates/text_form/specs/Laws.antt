-- Statements of the laws: what a text is read as is what it says.
use Rattle.std.specs.Prelude.{◌≡◌, ℕ, List, Result, Ok, Err}
use Rattle.text_form.specs.Entries.{Entries, Item, items_of}
use Rattle.text_form.specs.Grammar.{IsTextOf, IsBadAt}
use Rattle.text_form.specs.Machine.{items_or_line}

-- the text says fields with these items
pub record Says (text : List ℕ) (items : List Item) : Type 0 where
  pub entries : Entries
  pub text_of : IsTextOf entries text
  pub items_are : items ≡ items_of entries

-- items that the text says, or the line at which it is of this form no more
abbrev pub Means : List ℕ → Result (List Item) ℕ → Type 0
Means text (Ok items) = Says text items
Means text (Err line) = IsBadAt text line

-- what a text is read as is right
abbrev pub TextsAreRead : Type 0
TextsAreRead = (text : List ℕ) → Means text (items_or_line text)

-- a text of some fields is read as these
abbrev pub FieldsAreRead : Type 0
FieldsAreRead = (entries : Entries) (text : List ℕ) → IsTextOf entries text → items_or_line text ≡ Ok (items_of entries)

-- a text that is bad at some line is bad at this one alone
abbrev pub BadLinesAreFound : Type 0
BadLinesAreFound = (text : List ℕ) (line : ℕ) → IsBadAt text line → items_or_line text ≡ Err line

-- no two trees of fields have the same items
abbrev pub ItemsTellTheFields : Type 0
ItemsTellTheFields = (a b : Entries) → items_of a ≡ items_of b → a ≡ b
