-- Statements of the laws about the encoding of fields.
use Rattle.std.specs.Prelude.{◌≡◌, length}
use Rattle.trace_model.specs.Encoding.{Fields, encoding_of, encoding_len}

-- the length of an encoding is the sum of the lengths of its parts
abbrev pub EncodingsAreAsLong : Type 0
EncodingsAreAsLong = (fields : Fields) → length (encoding_of fields) ≡ encoding_len fields
