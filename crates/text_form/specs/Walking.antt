-- What the private calls say of the machine: a part of a text is passed, and the rest is read as if the reading stood there.
use Rattle.std.specs.Prelude.{◌≡◌, ℕ, suc, ◌+◌, ◌-◌, ◌≤◌, ◌<◌, ◌==◌, ◌||◌, List, [], ◌∷◌, ◌++◌, Bool, true, false, length, Err, Option, Some, None}
use Rattle.text_form.specs.Bytes.{is_blank, AreAll}
use Rattle.text_form.specs.Entries.{Value, Item, Single, Begin, End}
use Rattle.text_form.specs.Grammar.{EndsRun}
use Rattle.text_form.specs.Machine.{Place, Start, Ended, Valued, Between, InComment, items_from, with_item}

-- the longest front of bytes of a kind
pub record IsRun (kind : ℕ → Bool) (bytes front left : List ℕ) : Type 0 where
  pub whole : bytes ≡ front ++ left
  pub all : AreAll kind front
  pub ends : EndsRun kind left

-- neither a blank nor a comment
abbrev pub begins_gap : ℕ → Bool
begins_gap byte = is_blank byte || byte == 35

-- what else may stand behind a colon than a value
abbrev pub begins_no_value : ℕ → Bool
begins_no_value byte = begins_gap byte || byte == 123

-- what else may stand there than a word
abbrev pub begins_no_word : ℕ → Bool
begins_no_word byte = begins_no_value byte || byte == 34

-- one of this kind comes first
abbrev pub BeginsWith : (ℕ → Bool) → List ℕ → Type 0
BeginsWith kind [] = ⊥
BeginsWith kind (byte ∷ rest) = kind byte ≡ true

-- the end of a line, or of the text
abbrev pub EndsLine : List ℕ → Type 0
EndsLine [] = Unit {0}
EndsLine (byte ∷ rest) = byte ≡ 10

-- before a field: behind another one or not
abbrev pub place_before : Bool → Place
place_before true = Ended
place_before false = Start

-- what is left of some bytes on a line stands on this line
pub record Leaves (line : ℕ) (rest : List ℕ) (there : ℕ) (left : List ℕ) : Type 0 where
  pub shorter : length left ≤ length rest
  pub lines : there + length left ≤ line + length rest

-- the comment whose first bytes were read goes on up to what is left, or is refused
abbrev pub PassesComment : List ℕ → Option (List ℕ) → Type 0
PassesComment rest None = (depth line : ℕ) (place : Place) → items_from depth line (InComment place) rest ≡ Err line
PassesComment rest (Some left) = (length left ≤ length rest)
    × ((depth line : ℕ) (place : Place) → items_from depth line (InComment place) rest ≡ items_from depth line (Between place) left)

-- a gap is passed
pub record PassesGap (line : ℕ) (rest : List ℕ) (there : ℕ) (left : List ℕ) : Type 0 where
  pub leaves : Leaves line rest there left
  pub same : (depth : ℕ) (place : Place) → items_from depth line (Between place) rest ≡ items_from depth there (Between place) left

-- the text is refused in a gap
abbrev pub RefusesGap : ℕ → List ℕ → ℕ → Type 0
RefusesGap line rest bad = (depth : ℕ) (place : Place) → items_from depth line (Between place) rest ≡ Err bad

-- What stands before a field is passed.
pub record PassesLead (after : Bool) (line : ℕ) (rest : List ℕ) (there : ℕ) (left : List ℕ) : Type 0 where
  pub leaves : Leaves line rest there left
  pub same : (depth : ℕ) → items_from depth line (Between (place_before after)) rest ≡ items_from depth there (Between Start) left
  pub ends : EndsRun begins_gap left

-- The text is refused before a field.
abbrev pub RefusesLead : Bool → ℕ → List ℕ → ℕ → Type 0
RefusesLead after line rest bad = (depth : ℕ) → items_from depth line (Between (place_before after)) rest ≡ Err bad

-- a value of a field is read, with what is left behind it, or refused
abbrev pub ReadsValue : ℕ → List ℕ → Option (Value × List ℕ) → Type 0
ReadsValue line rest None = (depth at : ℕ) (name : List ℕ) → items_from depth line (Between (Valued at name)) rest ≡ Err line
ReadsValue line rest (Some (value, left)) = (length left < length rest)
    × ((depth at : ℕ) (name : List ℕ) → items_from depth line (Between (Valued at name)) rest
    ≡ with_item (Single at name value) (items_from depth line (Between Ended) left))

-- how many blocks are open behind an item
abbrev pub depth_behind : Item → ℕ → ℕ
depth_behind (Single line name value) depth = depth
depth_behind (Begin line name) depth = suc depth
depth_behind End depth = depth - 1

-- behind an item
abbrev pub place_behind : Item → Place
place_behind (Begin line name) = Start
place_behind item = Ended

-- an item is read; a block ends only where one is open
pub record ReadsItem (depth line : ℕ) (place : Place) (rest : List ℕ) (item : Item) (there : ℕ) (left : List ℕ) : Type 0 where
  pub shorter : length left < length rest
  pub lines : there + length left ≤ line + length rest
  pub closes : item ≡ End → 0 < depth
  pub same : items_from depth line (Between place) rest
      ≡ with_item item (items_from (depth_behind item depth) there (Between (place_behind item)) left)
