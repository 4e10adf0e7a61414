-- Lengths of the parts of an encoding.
use Rattle.std.proofs.Common.{◌≡◌, ℕ, ◌+◌, ◌-◌, ◌*◌, ◌^◌, min, inl, inr, length, length-append, arith, ap, sym, ◌∙◌}
use Rattle.std.proofs.lemmas.Bool.{cases_lt}
use Rattle.wire_varint.specs.Varint.{varint, tag}
use Rattle.trace_model.specs.Encoding.{number_field, bytes_head}
use Rattle.field_tree.specs.declared.node.FieldNode.TheVariants.{Bytes}
use Rattle.field_tree.specs.Judged.{node_len_at}
use Rattle.field_tree.specs.Surveys.{IsCounted}

pub length_number_field : (field value : ℕ) → length (number_field field value) ≡ length (tag field 0) + length (varint value)
unfolding number_field
length_number_field field value = length-append (tag field 0) (varint value)

pub length_bytes_head : (field count : ℕ) → length (bytes_head field count) ≡ length (tag field 2) + length (varint count)
unfolding bytes_head
length_bytes_head field count = length-append (tag field 2) (varint count)

-- a text's length, counted from that of what is written, which may be counted too
pub text_counted : (field times len whole sum : ℕ) {front_tag front_len : ℕ} → whole ≡ min (times * len) (2 ^ 64 - 1)
    → front_tag ≡ length (tag field 2) → front_len ≡ length (varint whole) → sum ≡ min (front_tag + front_len + whole) (2 ^ 64 - 1)
    → IsCounted sum (node_len_at (Bytes field times) len)
unfolding node_len_at
text_counted field times len whole sum {front_tag} {front_len} whole_is tag_is len_is sum_is = elim (cases_lt (2 ^ 64 - 1) (times * len)) [
  | inl large ↦ omega (arith, whole_is, sum_is, large)
  | inr fits ↦
      let same : whole ≡ times * len = omega (arith, whole_is, fits) in
      let head : length (bytes_head field (times * len)) ≡ front_tag + front_len =
      length_bytes_head field (times * len) ∙ ap (λ (n : ℕ). length (tag field 2) + length (varint n)) (sym same)
      ∙ ap (λ (n : ℕ). n + length (varint whole)) (sym tag_is) ∙ ap (λ (n : ℕ). front_tag + n) (sym len_is) in
      omega (arith, sum_is, same, head)
]
