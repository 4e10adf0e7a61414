-- The length of an encoding.
use Rattle.std.proofs.Common.{◌≡◌, ◌∙◌, ℕ, zero, suc, ◌+◌, ◌*◌, length, List, ◌++◌, refl, sym, ap, length-append, arith}
use Rattle.std.proofs.Math.Nat.{zero-mul, suc-mul}
use Rattle.std.specs.List.{repeat}
use Rattle.wire_varint.specs.Varint.{redundant}
use Rattle.wire_varint.proofs.Lengths.{length-redundant}
use Rattle.trace_model.specs.Encoding.{Fields, NoFields, NumberField, BytesField, NestedField, number_field, bytes_head, bytes_field, nested_tag, encoding_of, encoding_len}

pub length-repeat : (n : ℕ) (xs : List ℕ) → length (repeat n xs) ≡ n * length xs
length-repeat zero xs = sym (zero-mul (length xs))
length-repeat (suc n) xs = length-append xs (repeat n xs) ∙ omega (arith, length-repeat n xs, suc-mul n (length xs))

pub length-bytes_field : (field : ℕ) (text : List ℕ) (times : ℕ)
    → length (bytes_field field text times) ≡ length (bytes_head field (times * length text)) + times * length text
unfolding bytes_field
length-bytes_field field text times =
    length-append (bytes_head field (times * length text)) (repeat times text)
    ∙ ap (λ (n : ℕ). length (bytes_head field (times * length text)) + n) (length-repeat times text)

length_of_parts : (a b c d : List ℕ) → length (a ++ b ++ c ++ d) ≡ length a + length b + length c + length d
length_of_parts a b c d = simp length-append (omega arith)

pub encoding_as_long : (fields : Fields) → length (encoding_of fields) ≡ encoding_len fields
encoding_as_long NoFields = refl
encoding_as_long (NumberField field value others) =
    length-append (number_field field value) (encoding_of others) ∙ omega (arith, encoding_as_long others)
encoding_as_long (BytesField field text times others) =
    length-append (bytes_field field text times) (encoding_of others)
    ∙ omega (arith, encoding_as_long others, length-bytes_field field text times)
encoding_as_long (NestedField field inner others) =
    length_of_parts (nested_tag field) (redundant (length (encoding_of inner))) (encoding_of inner) (encoding_of others)
    ∙ omega (arith, length-redundant (length (encoding_of inner)), encoding_as_long inner, encoding_as_long others)
