-- The grammar of FIELDS in a line of a scenario, which is this project's own: which texts spell a tree of fields, and
-- where the fault of every other text stands. Bytes are numbers: 32 is the space, 34 '"', 39 ''', 42 '*', 58 ':',
-- 120 'x', 123 '{' and 125 '}'.
use Rattle.std.specs.Prelude.{◌≡◌, ◌≢◌, ℕ, ◌+◌, ◌-◌, ◌/◌, ◌%◌, ◌^◌, ◌<◌, ◌≤◌, List, [], ◌∷◌, ◌++◌, length, Bool, true, false, nat_lt, nat_le, ◌&&◌, take, drop, if◌then◌else◌}
use Rattle.std.specs.List.{AllByRecursion}
use Rattle.std.specs.Fmt.{decimal}
use Rattle.trace_base.specs.declared.limits.TheConstants.{MAX_PACKET_LEN}
use Rattle.field_tree.specs.Nodes.{Shown, nodes_of, IsField}
use Rattle.trace_model.specs.Encoding.{Fields, NoFields, NumberField, BytesField, NestedField}

-- a byte of a quoted text: 0x20 to 0x7E without '"' and '\'
abbrev pub IsTextByte : ℕ → Type 0
IsTextByte byte = (32 ≤ byte) × (byte ≤ 126) × (byte ≢ 34) × (byte ≢ 92)

-- the number is a byte
abbrev pub IsByte : ℕ → Type 0
IsByte byte = byte < 256

-- decimal digits, without a zero in front
unfoldable pub number : ℕ → List ℕ
number n = decimal n

-- a lower-case hexadecimal digit
abbrev pub hex_digit : ℕ → ℕ
hex_digit n = if nat_lt n 10 then 48 + n else 87 + n

-- two of them for each byte
abbrev pub pairs : List ℕ → List ℕ
pairs [] = []
pairs (byte ∷ bytes) = hex_digit (byte / 16) ∷ hex_digit (byte % 16) ∷ pairs bytes

-- How a text that stands so many times over is written: "text", "text"*K, or in pairs x'00ff'. One that stands once may
-- be written in each of these ways.
pub data BytesSpelling (text : List ℕ) (times : ℕ) (value : List ℕ) : Type 0 where
  Quoted : AllByRecursion IsTextByte text → times ≡ 1 → value ≡ 34 ∷ (text ++ 34 ∷ []) → BytesSpelling text times value
  Repeated : AllByRecursion IsTextByte text → 1 ≤ times → times ≤ MAX_PACKET_LEN
      → value ≡ 34 ∷ (text ++ 34 ∷ 42 ∷ number times) → BytesSpelling text times value
  InPairs : AllByRecursion IsByte text → times ≡ 1 → value ≡ 120 ∷ 39 ∷ (pairs text ++ 39 ∷ []) → BytesSpelling text times value

-- a space, where a field of the same message stands before
abbrev pub space : Bool → List ℕ
space true = 32 ∷ []
space false = []

-- The text spells the fields, where a field of the same message stands before or none: N:V, N:"text" and the like,
-- N{FIELDS} or N{}, with one space between two fields of a message.
abbrev pub IsSpelling : Bool → Fields → List ℕ → Type 0
IsSpelling after NoFields text = text ≡ []
IsSpelling after (NumberField field value others) text =
    IsField field × (value < 2 ^ 64)
    × (rest : List ℕ) × (text ≡ space after ++ ((number field ++ 58 ∷ number value) ++ rest))
    × IsSpelling true others rest
IsSpelling after (BytesField field bytes times others) text =
    IsField field × (value : List ℕ) × BytesSpelling bytes times value
    × (rest : List ℕ) × (text ≡ space after ++ ((number field ++ 58 ∷ value) ++ rest))
    × IsSpelling true others rest
IsSpelling after (NestedField field inner others) text =
    IsField field × (between : List ℕ) × IsSpelling false inner between
    × (rest : List ℕ) × (text ≡ space after ++ ((number field ++ 123 ∷ between ++ 125 ∷ []) ++ rest))
    × IsSpelling true others rest

-- the text is FIELDS, which are one field at least, and spells this tree
pub record IsTextOf (fields : Fields) (text : List ℕ) : Type 0 where
  pub some : fields ≢ NoFields
  pub spelled : IsSpelling false fields text

-- the text is FIELDS with these nodes
pub record Spells (text : List ℕ) (nodes : List Shown) : Type 0 where
  pub fields : Fields
  pub text_of : IsTextOf fields text
  pub nodes_are : nodes ≡ nodes_of fields

-- the text begins some FIELDS
pub record IsFrontOfFields (text : List ℕ) : Type 0 where
  pub fields : Fields
  pub more : List ℕ
  pub whole : IsTextOf fields (text ++ more)

-- ---- the column of a fault

abbrev pub is_digit : ℕ → Bool
is_digit byte = nat_le 48 byte && nat_le byte 57

-- the digits in front
abbrev pub leading_digits : List ℕ → List ℕ
leading_digits [] = []
leading_digits (byte ∷ bytes) = if is_digit byte then byte ∷ leading_digits bytes else []

-- the number that the bytes begin with, all its digits; else the first byte
unfoldable pub first_word : List ℕ → List ℕ
first_word [] = []
first_word (byte ∷ bytes) = if nat_le 49 byte && nat_le byte 57 then byte ∷ leading_digits bytes else byte ∷ []

-- Column c, counted from 1, is the least at which the text up to the end of the number or the byte that stands there
-- begins no FIELDS; or the place after the last byte of a text that begins FIELDS and is none.
pub record IsFaultAt (text : List ℕ) (c : ℕ) : Type 0 where
  pub before : (i : ℕ) → i + 1 < c → IsFrontOfFields (take i text ++ first_word (drop i text))
  pub inside : (1 ≤ c) × (c ≤ length text + 1)
  pub here : c ≤ length text → IsFrontOfFields (take (c - 1) text ++ first_word (drop (c - 1) text)) → ⊥
  pub at_end : c ≡ length text + 1 → (fields : Fields) → IsTextOf fields text → ⊥
