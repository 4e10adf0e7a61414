-- Reading byte by byte, without a stack: where the reading stands and what a byte does there. What it means is said by the
-- grammar alone; the laws tie the two together.
use Rattle.std.specs.Prelude.{ℕ, suc, ◌-◌, List, [], ◌∷◌, ◌++◌, nat_lt, ◌==◌, ◌&&◌, if◌then◌else◌, Result, Ok, Err}
use Rattle.text_form.specs.Bytes.{is_blank, is_comment_byte, is_separator, is_name_start, is_name_byte, is_word_byte, is_text_byte, line_behind}
use Rattle.text_form.specs.Entries.{Word, Text, Item, Single, Begin, End}

-- between which tokens: before a field, behind one, behind a name, and behind the colon of a name
pub data Place : Type 0 where
  Start : Place
  Ended : Place
  Named : (line : ℕ) (name : List ℕ) → Place
  Valued : (line : ℕ) (name : List ℕ) → Place

-- in which token, with what was read of it
pub data Mode : Type 0 where
  Between : (place : Place) → Mode
  InComment : (place : Place) → Mode
  InName : (line : ℕ) (name : List ℕ) → Mode
  InWord : (line : ℕ) (name word : List ℕ) → Mode
  InQuotes : (line : ℕ) (name text : List ℕ) → Mode

-- what a byte does: the text is refused, or some items end with it, and the reading stands elsewhere
pub data Step : Type 0 where
  Refused : Step
  Moved : (items : List Item) (depth : ℕ) (mode : Mode) → Step

-- an item ends before the step
abbrev pub behind_item : Item → Step → Step
behind_item item Refused = Refused
behind_item item (Moved items depth mode) = Moved (item ∷ items) depth mode

-- where a field may begin or a block end
abbrev pub at_field : ℕ → ℕ → ℕ → Step
at_field depth line byte =
    if is_name_start byte then Moved [] depth (InName line (byte ∷ []))
    else if byte == 125 && nat_lt 0 depth then Moved (End ∷ []) (depth - 1) (Between Ended)
    else Refused

-- a byte of a token, between two tokens
abbrev pub at_token : ℕ → ℕ → Place → ℕ → Step
at_token depth line Start byte = at_field depth line byte
at_token depth line Ended byte = if is_separator byte then Moved [] depth (Between Start) else at_field depth line byte
at_token depth line (Named at name) byte =
    if byte == 58 then Moved [] depth (Between (Valued at name))
    else if byte == 123 then Moved (Begin at name ∷ []) (suc depth) (Between Start)
    else Refused
at_token depth line (Valued at name) byte =
    if byte == 123 then Moved (Begin at name ∷ []) (suc depth) (Between Start)
    else if byte == 34 then Moved [] depth (InQuotes at name [])
    else if is_word_byte byte then Moved [] depth (InWord at name (byte ∷ []))
    else Refused

-- any byte between two tokens
abbrev pub between : ℕ → ℕ → Place → ℕ → Step
between depth line place byte =
    if is_blank byte then Moved [] depth (Between place)
    else if byte == 35 then Moved [] depth (InComment place)
    else at_token depth line place byte

-- any byte
abbrev pub step : ℕ → ℕ → Mode → ℕ → Step
step depth line (Between place) byte = between depth line place byte
step depth line (InComment place) byte =
    if byte == 10 then Moved [] depth (Between place)
    else if is_comment_byte byte then Moved [] depth (InComment place)
    else Refused
step depth line (InName at name) byte =
    if is_name_byte byte then Moved [] depth (InName at (name ++ byte ∷ [])) else between depth line (Named at name) byte
step depth line (InWord at name word) byte =
    if is_word_byte byte then Moved [] depth (InWord at name (word ++ byte ∷ []))
    else behind_item (Single at name (Word word)) (between depth line Ended byte)
step depth line (InQuotes at name text) byte =
    if byte == 34 then Moved (Single at name (Text text) ∷ []) depth (Between Ended)
    else if is_text_byte byte then Moved [] depth (InQuotes at name (text ++ byte ∷ []))
    else Refused

-- an item before those of the rest
abbrev pub with_item : Item → Result (List Item) ℕ → Result (List Item) ℕ
with_item item (Ok items) = Ok (item ∷ items)
with_item item (Err line) = Err line

-- some items before those of the rest
abbrev pub with_items : List Item → Result (List Item) ℕ → Result (List Item) ℕ
with_items [] rest = rest
with_items (item ∷ items) rest = with_item item (with_items items rest)

-- the items at the text's end, or its line
abbrev pub at_end : ℕ → ℕ → Mode → Result (List Item) ℕ
at_end depth line (Between Start) = if depth == 0 then Ok [] else Err line
at_end depth line (Between Ended) = if depth == 0 then Ok [] else Err line
at_end depth line (InComment Start) = if depth == 0 then Ok [] else Err line
at_end depth line (InComment Ended) = if depth == 0 then Ok [] else Err line
at_end depth line (InWord at name word) = if depth == 0 then Ok (Single at name (Word word) ∷ []) else Err line
at_end depth line mode = Err line

-- goes on behind a step
abbrev pub behind_step : ℕ → (ℕ → Mode → Result (List Item) ℕ) → Step → Result (List Item) ℕ
behind_step line go_on Refused = Err line
behind_step line go_on (Moved items depth mode) = with_items items (go_on depth mode)

-- The items of the rest of a text, or the line of its first fault: so many blocks are open, and the rest begins on this line.
abbrev pub items_from : ℕ → ℕ → Mode → List ℕ → Result (List Item) ℕ
items_from depth line mode [] = at_end depth line mode
items_from depth line mode (byte ∷ rest) =
    behind_step line (λ deep to. items_from deep (line_behind line byte) to rest) (step depth line mode byte)

-- the items of a text, or the line of its first fault
unfoldable pub items_or_line : List ℕ → Result (List Item) ℕ
items_or_line text = items_from 0 1 (Between Start) text
