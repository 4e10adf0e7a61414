-- What the readers of a field in front have found.
use Rattle.std.proofs.Common.{◌≡◌, ℕ, ◌+◌, ◌-◌, ◌*◌, ◌/◌, ◌%◌, ◌^◌, ◌<◌, ◌≤◌, List, length, take, drop, refl, subst, arith, length-take, length-drop}
use Rattle.std.proofs.lemmas.List.{length-take-le, take_rest}
use Rattle.std.proofs.Math.Nat.{pow-le-pow_right}
use Rattle.std.proofs.Math.Seq.{take-add}
use Rattle.wire_varint.specs.Reading.{joined, IsWhole, IsVarint}
use Rattle.wire_varint.proofs.Joined.{joined-lt}
use Rattle.trace_model.specs.Fields.{Number, EightBytes, Content, FourBytes}
use Rattle.trace_model.proofs.FieldLemmas.{content_behind, spells}
use Rattle.packet_check.specs.Messages.{HasField, HasHead}
use Rattle.packet_check.specs.Values.{HasValue}

-- a number that ends within nine bytes stays within 64 bits
pub number_value : (bytes : List ℕ) (len : ℕ) → IsWhole (take len bytes) → len ≤ 9 → HasValue 0 bytes len
number_value bytes len whole few =
    let short : length (take len bytes) ≤ 9 = omega (arith, length-take len bytes) in
    let most : 128 ^ length (take len bytes) ≤ 128 ^ 9 = pow-le-pow_right {n = 128} (omega arith) {i = length (take len bytes)} {j = 9} short in
    record {
      value = Number (joined (take len bytes));
      wire_is = refl;
      is = record { whole = whole; most = omega (arith, short); value = refl; fits = omega (arith, joined-lt (take len bytes), most) };
    }

pub content_value : (bytes : List ℕ) (width size : ℕ) → IsVarint (take width bytes) size → width ≤ length bytes → size ≤ length bytes - width
    → HasValue 2 bytes (width + size)
content_value bytes width size p low most = record {
  value = Content (take size (drop width bytes));
  wire_is = refl;
  is = content_behind bytes width size p low (omega arith);
}

pub eight_value : (bytes : List ℕ) → 8 ≤ length bytes → HasValue 1 bytes 8
eight_value bytes most = record { value = EightBytes; wire_is = refl; is = length-take-le 8 bytes most }

pub four_value : (bytes : List ℕ) → 4 ≤ length bytes → HasValue 5 bytes 4
four_value bytes most = record { value = FourBytes; wire_is = refl; is = length-take-le 4 bytes most }

-- a tag, and a value behind it
pub field_is : (bytes : List ℕ) (width tag len : ℕ) → IsVarint (take width bytes) tag → width ≤ length bytes → 1 ≤ tag / 8 → tag < 2 ^ 14
    → HasValue (tag % 8) (take (length bytes - width) (drop width bytes)) len → len ≤ length (take (length bytes - width) (drop width bytes)) → HasField bytes (tag / 8) (width + len)
field_is bytes width tag len p low some small has most =
    let behind : HasValue (tag % 8) (drop width bytes) len = rw take_rest at has in
    record {
      value = behind.value;
      spells = spells bytes width tag len behind.value p some (omega (arith, small)) behind.wire_is behind.is;
      within = omega (arith, low, most, length-take (length bytes - width) (drop width bytes), length-drop width bytes);
    }

-- the tag of a content, and its length behind it
pub head_is : (bytes : List ℕ) (wide tag width size : ℕ) → IsVarint (take wide bytes) tag → wide ≤ length bytes → 8 ≤ tag → tag % 8 ≡ 2 → tag < 2 ^ 14
    → IsVarint (take width (take (length bytes - wide) (drop wide bytes))) size → width ≤ length (take (length bytes - wide) (drop wide bytes))
    → HasHead bytes (tag / 8) (wide + width) size
head_is bytes wide tag width size p low some content small sized most =
    let is_size : IsVarint (take width (drop wide bytes)) size = rw take_rest at sized in
    let is : tag ≡ 8 * (tag / 8) + 2 = omega (arith, content) in
    record {
      tag = take wide bytes;
      low = take width (drop wide bytes);
      cut = take-add wide width bytes;
      is_tag = subst (IsVarint (take wide bytes)) is p;
      numbered = omega (arith, some);
      in_range = omega (arith, small);
      is_size = is_size;
      within = omega (arith, low, most, length-take (length bytes - wide) (drop wide bytes), length-drop wide bytes);
    }

pub ruleset value_steps = (number_value, content_value, eight_value, four_value)
