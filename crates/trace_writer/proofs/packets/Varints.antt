-- The fields of a packet as the varints that they begin with.
use Rattle.std.proofs.Common.{◌≡◌, ℕ, ◌+◌, ◌*◌, ◌++◌, refl, ap, arith}
use Rattle.wire_varint.specs.Varint.{varint, tag}
use Rattle.trace_model.specs.Encoding.{bytes_head, nested_tag, number_field}

-- a number's field is two varints, since the wire type of numbers is 0
pub number_parts : (field value : ℕ) → number_field field value ≡ varint (8 * field) ++ varint value
unfolding number_field tag
number_parts field value = let none : 8 * field + 0 ≡ 8 * field = omega arith in ap (λ (n : ℕ). varint n ++ varint value) none

-- the wire type of what has its length in front is 2
pub tag_number : (field : ℕ) → nested_tag field ≡ varint (8 * field + 2)
unfolding tag
tag_number field = refl

-- and so what stands before a text is two varints
pub head_parts : (field len : ℕ) → bytes_head field len ≡ varint (8 * field + 2) ++ varint len
unfolding bytes_head tag
head_parts field len = refl
