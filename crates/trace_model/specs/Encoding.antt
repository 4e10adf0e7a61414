-- How the fields of a packet are written, after the protocol-buffers encoding. Where that leaves a choice this project
-- takes one: numbers and the lengths of texts are written in the shortest varint, and the length of a nested message
-- always in four bytes, so that it can be put in once the message has ended.
use Rattle.std.specs.Prelude.{ℕ, suc, ◌+◌, ◌*◌, max, List, [], ◌∷◌, ◌++◌, length}
use Rattle.std.specs.List.{repeat}
use Rattle.wire_varint.specs.Varint.{varint, redundant, tag}
use Rattle.trace_model.specs.Calls.{Call, Number, Bytes, Nested, Ended}

-- the fields of a message: the first one, and then the others
pub data Fields : Type 0 where
  NoFields : Fields
  NumberField : (field value : ℕ) → (others : Fields) → Fields
  -- a text, so many times over
  BytesField : (field : ℕ) → (text : List ℕ) → (times : ℕ) → (others : Fields) → Fields
  NestedField : (field : ℕ) → (inner : Fields) → (others : Fields) → Fields

-- a number: wire type 0
unfoldable pub number_field : ℕ → ℕ → List ℕ
number_field field value = tag field 0 ++ varint value

-- what stands before the bytes of a text: wire type 2, and their length
unfoldable pub bytes_head : ℕ → ℕ → List ℕ
bytes_head field count = tag field 2 ++ varint count

-- the field of a text so many times over: its tag, its length, its bytes
unfoldable pub bytes_field : ℕ → List ℕ → ℕ → List ℕ
bytes_field field text times = bytes_head field (times * length text) ++ repeat times text

-- a nested message: wire type 2; its length follows, and then its fields
abbrev pub nested_tag : ℕ → List ℕ
nested_tag field = tag field 2

-- the bytes of the fields
abbrev pub encoding_of : Fields → List ℕ
encoding_of NoFields = []
encoding_of (NumberField field value others) = number_field field value ++ encoding_of others
encoding_of (BytesField field text times others) = bytes_field field text times ++ encoding_of others
encoding_of (NestedField field inner others) =
    nested_tag field ++ redundant (length (encoding_of inner)) ++ encoding_of inner ++ encoding_of others

-- how many they are
abbrev pub encoding_len : Fields → ℕ
encoding_len NoFields = 0
encoding_len (NumberField field value others) = length (number_field field value) + encoding_len others
encoding_len (BytesField field text times others) =
    length (bytes_head field (times * length text)) + times * length text + encoding_len others
encoding_len (NestedField field inner others) =
    length (nested_tag field) + 4 + encoding_len inner + encoding_len others

-- how many nested messages stand inside one another
abbrev pub depth_of : Fields → ℕ
depth_of NoFields = 0
depth_of (NumberField field value others) = depth_of others
depth_of (BytesField field text times others) = depth_of others
depth_of (NestedField field inner others) = max (suc (depth_of inner)) (depth_of others)

-- the calls by which a writer is given the fields
abbrev pub calls_of : Fields → List Call
calls_of NoFields = []
calls_of (NumberField field value others) = Number field value ∷ calls_of others
calls_of (BytesField field text times others) = Bytes field text times ∷ calls_of others
calls_of (NestedField field inner others) = Nested field ∷ calls_of inner ++ Ended ∷ calls_of others
