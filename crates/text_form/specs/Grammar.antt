-- The grammar of configuration texts: what stands between two spots of a text. It is that of protocol buffers' text form as
-- far as this project reads it: no escapes, no single quotes, no lists in brackets.
use Rattle.std.specs.Prelude.{◌≡◌, ℕ, suc, ◌<◌, ◌≤◌, List, [], ◌∷◌, ◌++◌, Bool, true, false, length, take, ◌⊎◌}
use Rattle.text_form.specs.Bytes.{is_blank, is_comment_byte, is_separator, is_name_start, is_name_byte, is_word_byte, is_text_byte, AreAll, line_behind, line_at}
use Rattle.text_form.specs.Entries.{Value, Word, Text, Entries, NoEntries, ValueEntry, BlockEntry}

-- a spot in a text: its line, and the bytes from there to the text's end
pub record Spot : Type 0 where
  pub line : ℕ
  pub rest : List ℕ

-- the spot on this line, before these bytes
abbrev pub spot : ℕ → List ℕ → Spot
spot line rest = record { line = line; rest = rest }

-- between two spots of one line stand just these bytes
pub record Stands (bytes : List ℕ) (here there : Spot) : Type 0 where
  pub same_line : there.line ≡ here.line
  pub text_is : here.rest ≡ bytes ++ there.rest

-- Between two spots stand blanks and comments, or nothing. A comment goes on to its line's end.
pub data Gap : Spot → Spot → Type 0 where
  NoGap : (here : Spot) → Gap here here
  Blank : (byte line : ℕ) (rest : List ℕ) (there : Spot) → is_blank byte ≡ true → Gap (spot (line_behind line byte) rest) there
      → Gap (spot line (byte ∷ rest)) there
  Comment : (bytes : List ℕ) (line : ℕ) (rest : List ℕ) (there : Spot) → AreAll is_comment_byte bytes → Gap (spot (suc line) rest) there
      → Gap (spot line (35 ∷ (bytes ++ 10 ∷ rest))) there

-- what stands before a field, or before the end: a gap, and behind another field of the same block one separator may stand
pub data Lead : Bool → Spot → Spot → Type 0 where
  Plain : (after : Bool) (here there : Spot) → Gap here there → Lead after here there
  Separated : (byte : ℕ) (here before behind there : Spot) → is_separator byte ≡ true → Gap here before → Stands (byte ∷ []) before behind
      → Gap behind there → Lead true here there

-- letters, digits and '_', not first a digit
abbrev pub IsName : List ℕ → Type 0
IsName [] = ⊥
IsName (byte ∷ bytes) = (is_name_start byte ≡ true) × AreAll is_name_byte bytes

-- one byte of a word at least
abbrev pub IsWord : List ℕ → Type 0
IsWord [] = ⊥
IsWord (byte ∷ bytes) = (is_word_byte byte ≡ true) × AreAll is_word_byte bytes

-- no byte of this kind comes next
abbrev pub EndsRun : (ℕ → Bool) → List ℕ → Type 0
EndsRun kind [] = Unit {0}
EndsRun kind (byte ∷ rest) = kind byte ≡ false

-- A name, which is the first token of a field.
pub record StandsName (name : List ℕ) (here there : Spot) : Type 0 where
  pub is_name : IsName name
  pub stands : Stands name here there

-- A word ends where no byte of a word follows, so that two tokens never are one. A text stands in quotes.
abbrev pub StandsValue : Value → Spot → Spot → Type 0
StandsValue (Word bytes) here there = IsWord bytes × Stands bytes here there × EndsRun is_word_byte there.rest
StandsValue (Text bytes) here there = AreAll is_text_byte bytes × Stands (34 ∷ (bytes ++ 34 ∷ [])) here there

-- a token of one byte, with a gap before it
pub record StandsBehindGap (byte : ℕ) (here there : Spot) : Type 0 where
  pub before : Spot
  pub gap : Gap here before
  pub token : Stands (byte ∷ []) before there

-- what opens a block behind its name: '{', with or without ':' before it
pub data Opens : Spot → Spot → Type 0 where
  Brace : (here there : Spot) → StandsBehindGap 123 here there → Opens here there
  ColonBrace : (here behind there : Spot) → StandsBehindGap 58 here behind → StandsBehindGap 123 behind there → Opens here there

-- Between two spots stand these fields, and the gap behind them. A field is `name: value`, `name { fields }` or
-- `name: { fields }`; `after` says whether one of the same block stands before them.
pub data Fields : Bool → Entries → Spot → Spot → Type 0 where
  NoField : (after : Bool) (here there : Spot) → Lead after here there → Fields after NoEntries here there
  ValueField : (after : Bool) (name : List ℕ) (value : Value) (others : Entries) (here at named behind valued ended there : Spot)
      → Lead after here at → StandsName name at named → StandsBehindGap 58 named behind → Gap behind valued
      → StandsValue value valued ended → Fields true others ended there
      → Fields after (ValueEntry at.line name value others) here there
  BlockField : (after : Bool) (name : List ℕ) (inner others : Entries) (here at named inside last ended there : Spot)
      → Lead after here at → StandsName name at named → Opens named inside → Fields false inner inside last
      → Stands (125 ∷ []) last ended → Fields true others ended there
      → Fields after (BlockEntry at.line name inner others) here there

-- nothing is left, or a last comment without a line feed
abbrev pub IsEnd : List ℕ → Type 0
IsEnd rest = (rest ≡ []) ⊎ ((bytes : List ℕ) × (rest ≡ 35 ∷ bytes) × AreAll is_comment_byte bytes)

-- the text says these fields
pub record IsTextOf (entries : Entries) (text : List ℕ) : Type 0 where
  pub last : Spot
  pub fields : Fields false entries (spot 1 text) last
  pub ends : IsEnd last.rest

-- some text of this form begins with these bytes
pub record Begins (front : List ℕ) : Type 0 where
  pub entries : Entries
  pub more : List ℕ
  pub whole : IsTextOf entries (front ++ more)

-- The text is of this form no more at this line: there stands the first byte with which no text of this form begins so, or
-- the end of a text that goes on in every text of this form.
pub record IsBadAt (text : List ℕ) (line : ℕ) : Type 0 where
  pub place : ℕ
  pub inside : place ≤ length text
  pub before : Begins (take place text)
  pub here : place < length text → Begins (take (suc place) text) → ⊥
  pub at_end : place ≡ length text → (entries : Entries) → IsTextOf entries text → ⊥
  pub line_is : line ≡ line_at 1 (take place text)
