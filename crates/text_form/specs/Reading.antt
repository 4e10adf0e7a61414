-- What a reader shows of the text that it hasn't read, and its items in the words of the grammar.
use Rattle.std.specs.Prelude.{ℕ, List, Result}
use Rattle.text_form.specs.declared.item.TextItem.{TextItem}
use Rattle.text_form.specs.declared.item.TextItem.TheVariants as text_items
use Rattle.text_form.specs.declared.item.TextValue.{TextValue}
use Rattle.text_form.specs.declared.item.TextValue.TheVariants as text_values
use Rattle.text_form.specs.Entries.{Value, Word, Text, Item, Single, Begin, End}

-- the items that are still to come, or the line of the fault that is; and how many bytes are left
pub record Unread : Type 0 where
  pub coming : Result (List Item) ℕ
  pub left : ℕ

-- a value as the grammar has it
abbrev pub value_of : TextValue → Value
value_of (text_values.Word bytes) = Word bytes.now
value_of (text_values.Quoted bytes) = Text bytes.now

-- an item as the grammar has it
abbrev pub item_of : TextItem → Item
item_of (text_items.Single line name value) = Single line name.now (value_of value)
item_of (text_items.Begin line name) = Begin line name.now
item_of text_items.End = End
