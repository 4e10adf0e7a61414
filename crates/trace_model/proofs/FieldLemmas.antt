-- A field in front of some bytes, put together from what was read of it.
use Rattle.std.proofs.Common.{◌≡◌, ℕ, ◌+◌, ◌*◌, ◌/◌, ◌%◌, ◌≤◌, List, length, take, drop, sym, subst, arith, length-drop}
use Rattle.std.proofs.lemmas.List.{length-take-le}
use Rattle.std.proofs.Math.Seq.{take-add}
use Rattle.trace_base.specs.declared.limits.TheConstants.{MAX_FIELD}
use Rattle.wire_varint.specs.Reading.{IsVarint}
use Rattle.trace_model.specs.Fields.{FieldValue, Content, wire_of, IsValue, Spells}

-- a length, and so many bytes behind it
pub content_behind : (bytes : List ℕ) (width size : ℕ) → IsVarint (take width bytes) size → width ≤ length bytes → width + size ≤ length bytes
    → IsValue (Content (take size (drop width bytes))) (take (width + size) bytes)
content_behind bytes width size p low most =
    let long : length (take size (drop width bytes)) ≡ size = length-take-le size (drop width bytes) (omega (arith, length-drop width bytes)) in
    (take width bytes, subst (IsVarint (take width bytes)) (sym long) p, take-add width size bytes)

-- a tag and a value behind it
pub spells : (bytes : List ℕ) (width tag len : ℕ) (value : FieldValue) → IsVarint (take width bytes) tag → 1 ≤ tag / 8 → tag / 8 ≤ MAX_FIELD
    → wire_of value ≡ tag % 8 → IsValue value (take len (drop width bytes))
    → Spells (record { number = tag / 8; value = value }) (take (width + len) bytes)
spells bytes width tag len value p low most wire is = record {
  numbered = low;
  in_range = most;
  tag = take width bytes;
  behind = take len (drop width bytes);
  cut = take-add width len bytes;
  is_tag = let whole : tag ≡ 8 * (tag / 8) + wire_of value = omega (arith, wire) in subst (IsVarint (take width bytes)) whole p;
  is_value = is;
}
