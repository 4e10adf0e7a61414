-- The fields of a protobuf message, after the protocol-buffers encoding, with whatever varints their writer took.
use Rattle.std.specs.Prelude.{◌≡◌, ℕ, ◌+◌, ◌*◌, ◌≤◌, ◌==◌, List, [], ◌∷◌, ◌++◌, length, fold, if◌then◌else◌}
use Rattle.trace_base.specs.declared.limits.TheConstants.{MAX_FIELD}
use Rattle.wire_varint.specs.Reading.{IsVarint}

-- what stands behind a field's tag: a number as a varint, eight bytes, the content of a text or a message with its length
-- in front, or four bytes
pub data FieldValue : Type 0 where
  Number : (n : ℕ) → FieldValue
  EightBytes : FieldValue
  Content : (bytes : List ℕ) → FieldValue
  FourBytes : FieldValue

-- a field of a message: its number and its value (the encoding)
pub record MessageField : Type 0 where
  pub number : ℕ
  pub value : FieldValue

-- the wire type
abbrev pub wire_of : FieldValue → ℕ
wire_of (Number n) = 0
wire_of EightBytes = 1
wire_of (Content bytes) = 2
wire_of FourBytes = 5

-- these bytes are the value
abbrev pub IsValue : FieldValue → List ℕ → Type 0
IsValue (Number n) spelled = IsVarint spelled n
IsValue EightBytes spelled = length spelled ≡ 8
IsValue (Content bytes) spelled = (size : List ℕ) × IsVarint size (length bytes) × (spelled ≡ size ++ bytes)
IsValue FourBytes spelled = length spelled ≡ 4

-- these bytes are the field: the varint of eight times its number and its wire type, and then its value
pub record Spells (field : MessageField) (bytes : List ℕ) : Type 0 where
  pub numbered : 1 ≤ field.number
  pub in_range : field.number ≤ MAX_FIELD
  pub tag : List ℕ
  pub behind : List ℕ
  pub cut : bytes ≡ tag ++ behind
  pub is_tag : IsVarint tag (8 * field.number + wire_of field.value)
  pub is_value : IsValue field.value behind

-- these bytes are the fields, one behind another
abbrev pub SpellsAll : List MessageField → List ℕ → Type 0
SpellsAll [] bytes = bytes ≡ []
SpellsAll (field ∷ fields) bytes =
    (front : List ℕ) × (rest : List ℕ) × (bytes ≡ front ++ rest) × Spells field front × SpellsAll fields rest

-- the number of a field, where it is the one that is wanted, and else the one before
abbrev pub number_at : ℕ → ℕ → ℕ → FieldValue → ℕ
number_at wanted before number (Number n) = if number == wanted then n else before
number_at wanted before number other = before

-- the number of the last field of wire type 0 with the wanted field number, and 0 where there is none
unfoldable pub last_number : ℕ → List MessageField → ℕ
last_number wanted fields = fold (λ before field. number_at wanted before field.number field.value) 0 fields
