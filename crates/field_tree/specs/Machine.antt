-- Reading byte by byte: what the private calls do, and what a text comes to by them. What that means is said by the
-- grammar alone; the laws tie the two together.
use Rattle.std.specs.Prelude.{◌≡◌, ℕ, suc, ◌+◌, ◌-◌, ◌*◌, ◌^◌, ◌<◌, ◌≤◌, List, [], ◌∷◌, ◌++◌, length, Bool, true, false, nat_lt, nat_le, ◌==◌, ◌&&◌, ◌||◌, not, if◌then◌else◌, Option, Some, None, Result, Ok, Err}
use Rattle.std.specs.List.{AllByRecursion}
use Rattle.trace_base.specs.declared.limits.TheConstants.{MAX_FIELD, MAX_PACKET_LEN, MAX_NUMBER}
use Rattle.field_tree.specs.declared.node.FieldNode.{FieldNode}
use Rattle.field_tree.specs.declared.node.FieldNode.TheVariants.{Number, Bytes, Begin, End}
use Rattle.field_tree.specs.declared.mode.Mode.{Mode}
use Rattle.field_tree.specs.declared.mode.Mode.TheVariants.{Start, Field, Value, Zero, Digits, Text, Quoted, Star, Times, Tick, Pairs, Half, Packed, After}
use Rattle.field_tree.specs.declared.mode.Action.{Action}
use Rattle.field_tree.specs.declared.mode.Action.TheVariants.{Refuse, Go, Keep, Open, Close}
use Rattle.field_tree.specs.Nodes.{Shown, IsField}
use Rattle.field_tree.specs.Grammar.{IsTextByte, IsByte, number, is_digit}

-- a digit that a number may begin with
abbrev pub is_first_digit : ℕ → Bool
is_first_digit byte = nat_le 49 byte && nat_le byte 57

-- a byte that a quoted text may have
abbrev pub is_text_byte : ℕ → Bool
is_text_byte byte = nat_le 32 byte && nat_le byte 126 && not (byte == 34) && not (byte == 92)

-- the number with one digit more, which is at most so large
unfoldable pub grown : ℕ → ℕ → ℕ → Option ℕ
grown most value byte =
    if is_digit byte && nat_le (value * 10 + (byte - 48)) most then Some (value * 10 + (byte - 48)) else None

-- the value of a lower-case hexadecimal digit
unfoldable pub hex_value : ℕ → Option ℕ
hex_value byte =
    if is_digit byte then Some (byte - 48) else if nat_le 97 byte && nat_le byte 102 then Some (byte - 87) else None

-- a value below 16, or more than any pair of digits says where there is none
abbrev pub or_more : Option ℕ → ℕ
or_more None = 256
or_more (Some value) = value

-- the value of a lower-case hexadecimal digit, and more than any pair of digits says for another byte
abbrev pub digit_or_more : ℕ → ℕ
digit_or_more byte = or_more (hex_value byte)

-- the action with a number, where there is one; else the text is refused
abbrev pub go_on : Option ℕ → (ℕ → Action) → Action
go_on None action = Refuse
go_on (Some n) action = action n

-- what is done at a byte, inside a nested message or not
unfoldable pub act : Mode → Bool → ℕ → Action
act (Start opened) inner byte =
    if is_first_digit byte then Go (Field (byte - 48)) else if opened && inner && byte == 125 then Close else Refuse
act (Field n) inner byte =
    if byte == 58 then Go (Value n) else if byte == 123 then Open n else go_on (grown MAX_FIELD n byte) (λ m. Go (Field m))
act (Value n) inner byte =
    if byte == 34 then Go (Text n)
    else if byte == 120 then Go (Tick n)
    else if byte == 48 then Go (Zero n)
    else if is_first_digit byte then Go (Digits n (byte - 48))
    else Refuse
act (Zero n) inner byte = Refuse
act (Digits n value) inner byte = go_on (grown MAX_NUMBER value byte) (λ m. Go (Digits n m))
act (Text n) inner byte = if byte == 34 then Go (Quoted n) else if is_text_byte byte then Keep (Text n) byte else Refuse
act (Quoted n) inner byte = if byte == 42 then Go (Star n) else Refuse
act (Star n) inner byte = if is_first_digit byte then Go (Times n (byte - 48)) else Refuse
act (Times n times) inner byte = go_on (grown MAX_PACKET_LEN times byte) (λ m. Go (Times n m))
act (Tick n) inner byte = if byte == 39 then Go (Pairs n) else Refuse
act (Pairs n) inner byte = if byte == 39 then Go (Packed n) else go_on (hex_value byte) (λ high. Go (Half n high))
act (Half n high) inner byte = go_on (hex_value byte) (λ low. Keep (Pairs n) (16 * high + low))
act (Packed n) inner byte = Refuse
act After inner byte = if byte == 32 then Go (Start false) else if inner && byte == 125 then Close else Refuse

-- where the reading stands: the nodes so far, how many messages are open, and the text that is being read
pub record TextReading : Type 0 where
  pub nodes : List Shown
  pub depth : ℕ
  pub text : List ℕ
  pub mode : Mode

-- the node that ends here, if one may
abbrev pub pending : Mode → Option FieldNode
pending (Zero n) = Some (Number n 0)
pending (Digits n value) = Some (Number n value)
pending (Quoted n) = Some (Bytes n 1)
pending (Times n times) = Some (Bytes n times)
pending (Packed n) = Some (Bytes n 1)
pending mode = None

-- with one node more, whose text is the one that was being read
abbrev pub with_node : FieldNode → TextReading → TextReading
with_node node r = record { nodes = r.nodes ++ (node, r.text) ∷ []; depth = r.depth; text = []; mode = r.mode }

-- with one byte more of that text
abbrev pub with_byte : ℕ → TextReading → TextReading
with_byte byte r = record r { text = r.text ++ byte ∷ [] }

-- the node that was being read is complete
abbrev pub settled_as : Option FieldNode → TextReading → TextReading
settled_as None r = r
settled_as (Some node) r = record (with_node node r) { mode = After }

-- a field that may end has ended
unfoldable pub settled : TextReading → TextReading
settled r = settled_as (pending r.mode) r

-- the reading after an action
unfoldable pub applied : Action → TextReading → Option TextReading
applied Refuse r = None
applied (Go mode) r = Some (record r { mode = mode })
applied (Keep mode byte) r = Some (record (with_byte byte r) { mode = mode })
applied (Open n) r = Some (record (with_node (Begin n) r) { depth = suc r.depth; mode = Start true })
applied Close r = Some (record (with_node End r) { depth = r.depth - 1; mode = After })

-- a space and a closing brace end a field
abbrev pub before_byte : ℕ → TextReading → TextReading
before_byte byte r = if byte == 32 || byte == 125 then settled r else r

-- a field ends before this byte, and the byte is taken then
abbrev pub ends_here : ℕ → ℕ → Bool
ends_here depth byte = byte == 32 || nat_lt 0 depth && byte == 125

-- another text is being read
abbrev pub with_text : List ℕ → TextReading → TextReading
with_text text r = record r { text = text }

-- the reading after a byte, without what the byte ends
abbrev pub moved : ℕ → TextReading → Option TextReading
moved byte r = applied (act r.mode (nat_lt 0 r.depth) byte) r

-- the reading after a byte
unfoldable pub next : TextReading → ℕ → Option TextReading
next r byte = moved byte (before_byte byte r)

-- goes on where the reading wasn't refused
abbrev pub then_run : (TextReading → Option TextReading) → Option TextReading → Option TextReading
then_run f None = None
then_run f (Some r) = f r

-- where the reading stands after these bytes, if none is refused
unfoldable pub run : TextReading → List ℕ → Option TextReading
run r [] = Some r
run r (byte ∷ bytes) = then_run (λ q. run q bytes) (next r byte)

-- a field has just ended
abbrev pub is_after : Mode → Bool
is_after After = true
is_after mode = false

-- the nodes, where the text may end here
abbrev pub ended : TextReading → Option (List Shown)
ended r = if is_after r.mode && r.depth == 0 then Some r.nodes else None

-- the nodes, where the text may end here
unfoldable pub finish : TextReading → Option (List Shown)
finish r = ended (settled r)

-- the reading of nothing
unfoldable pub beginning : TextReading
beginning = record { nodes = []; depth = 0; text = []; mode = Start false }

-- where a reading stands: all numbers are in their ranges, and so are the bytes of the text
abbrev pub IsValid : Mode → List ℕ → Type 0
IsValid (Start opened) t = t ≡ []
IsValid (Field n) t = IsField n × (t ≡ [])
IsValid (Value n) t = IsField n × (t ≡ [])
IsValid (Zero n) t = IsField n × (t ≡ [])
IsValid (Digits n value) t = IsField n × (1 ≤ value) × (value < 2 ^ 64) × (t ≡ [])
IsValid (Text n) t = IsField n × AllByRecursion IsTextByte t
IsValid (Quoted n) t = IsField n × AllByRecursion IsTextByte t
IsValid (Star n) t = IsField n × AllByRecursion IsTextByte t
IsValid (Times n times) t = IsField n × AllByRecursion IsTextByte t × (1 ≤ times) × (times ≤ MAX_PACKET_LEN)
IsValid (Tick n) t = IsField n × (t ≡ [])
IsValid (Pairs n) t = IsField n × AllByRecursion IsByte t
IsValid (Half n high) t = IsField n × AllByRecursion IsByte t × (high < 16)
IsValid (Packed n) t = IsField n × AllByRecursion IsByte t
IsValid After t = t ≡ []

-- an action that has a message begin or end comes where no text is being read
abbrev pub IsBetween : Action → List ℕ → Type 0
IsBetween (Open n) t = t ≡ []
IsBetween Close t = t ≡ []
IsBetween action t = Unit {0}

-- a node that isn't a text has none
abbrev pub MayHave : FieldNode → List ℕ → Type 0
MayHave (Bytes n times) t = Unit {0}
MayHave node t = t ≡ []

-- the first digit of a pair is one of sixteen
abbrev pub HalfFits : Mode → Type 0
HalfFits (Half n high) = high < 16
HalfFits mode = Unit {0}

-- the digits of the number that is being read
abbrev pub open_digits : Mode → List ℕ
open_digits (Field n) = number n
open_digits (Digits n value) = number value
open_digits (Times n times) = number times
open_digits mode = []

-- What a refused byte takes back: where it is one digit too many for the number's range, the number's digits.
abbrev pub taken_back : Mode → ℕ → List ℕ
taken_back mode byte = if is_digit byte then open_digits mode else []

-- ---- what a text comes to: its nodes, or the column of its first fault

abbrev pub at_end : ℕ → Option (List Shown) → Result (List Shown) ℕ
at_end place None = Err (place + 1)
at_end place (Some nodes) = Ok nodes

-- goes on where the byte wasn't refused; else its column is the fault's
abbrev pub at_byte : ℕ → (TextReading → Result (List Shown) ℕ) → Option TextReading → Result (List Shown) ℕ
at_byte column f None = Err column
at_byte column f (Some r) = f r

-- the nodes of the rest of a text, or the column of its first fault
unfoldable pub nodes_or_column_from : TextReading → ℕ → List ℕ → Result (List Shown) ℕ
nodes_or_column_from r place [] = at_end place (finish r)
nodes_or_column_from r place (byte ∷ bytes) =
    at_byte (place + 1 - length (taken_back r.mode byte)) (λ q. nodes_or_column_from q (place + 1) bytes) (next r byte)

-- the nodes of a text, or the column of its first fault
unfoldable pub nodes_or_column : List ℕ → Result (List Shown) ℕ
nodes_or_column text = nodes_or_column_from beginning 0 text
