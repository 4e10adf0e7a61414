-- What a reader of one field has found.
use Rattle.std.proofs.Common.{◌≡◌, ◌≢◌, ℕ, ◌+◌, ◌-◌, ◌/◌, ◌%◌, ◌<◌, ◌≤◌, List, length, take, drop, sym, arith, inl, inr}
use Rattle.std.proofs.lemmas.List.{take-append-drop, take_rest}
use Rattle.trace_base.specs.declared.limits.TheConstants.{MAX_FIELD}
use Rattle.wire_varint.specs.Reading.{IsVarint}
use Rattle.trace_file.specs.declared.field.FieldFault.{FieldFault}
use Rattle.trace_file.specs.declared.field.FieldFault.TheVariants.{Group, Malformed, CutShort}
use Rattle.trace_model.specs.Fields.{Content, IsValue}
use Rattle.trace_model.proofs.FieldLemmas.{content_behind}
use Rattle.trace_file.specs.Faults.{HasTag, HasTooLittle, IsGroup, IsBadTag, Lacks, LacksValue}

-- a length, and so many bytes behind it, as a slice of a slice
pub content_is : (bytes : List ℕ) (width size : ℕ) → IsVarint (take width bytes) size → width ≤ length bytes → size ≤ length bytes - width
    → IsValue (Content (take size (take (length bytes - width) (drop width bytes)))) (take (width + size) bytes)
content_is bytes width size p low most = rw (take_rest bytes width) (content_behind bytes width size p low (omega arith))

-- a length, and fewer bytes behind it
pub too_little : (bytes : List ℕ) (width size : ℕ) → IsVarint (take width bytes) size → length (drop width bytes) < size
    → HasTooLittle bytes
too_little bytes width size p less = record {
  length_of = size;
  size = take width bytes;
  content = drop width bytes;
  cut = sym (take-append-drop width bytes);
  is_size = p;
  little = less;
}

pub has_tag : (bytes : List ℕ) (width tag : ℕ) → IsVarint (take width bytes) tag → HasTag bytes tag (drop width bytes)
has_tag bytes width tag p = record { tag = take width bytes; cut = sym (take-append-drop width bytes); is_tag = p }

-- no value behind a tag
pub lacks_behind : (bytes : List ℕ) (fault : FieldFault) (width tag : ℕ) → IsVarint (take width bytes) tag → ¬ IsGroup tag → ¬ IsBadTag tag
    → LacksValue fault (tag % 8) (drop width bytes) → Lacks fault bytes
lacks_behind bytes Group width tag p no_group good lacks = absurd lacks
lacks_behind bytes Malformed width tag p no_group good lacks = inr (tag, drop width bytes, has_tag bytes width tag p, (no_group, inr lacks))
lacks_behind bytes CutShort width tag p no_group good lacks = inr (tag, drop width bytes, has_tag bytes width tag p, (no_group, good, lacks))

pub is_group : (bytes : List ℕ) (width tag : ℕ) → IsVarint (take width bytes) tag → IsGroup tag → Lacks Group bytes
is_group bytes width tag p group = inr (tag, drop width bytes, has_tag bytes width tag p, group)

pub is_bad : (bytes : List ℕ) (width tag : ℕ) → IsVarint (take width bytes) tag → ¬ IsGroup tag → IsBadTag tag → Lacks Malformed bytes
is_bad bytes width tag p no_group bad = inr (tag, drop width bytes, has_tag bytes width tag p, (no_group, inl bad))

pub no_group : (tag : ℕ) → tag % 8 ≢ 3 → tag % 8 ≢ 4 → ¬ IsGroup tag
no_group tag three four (inl e) = three e
no_group tag three four (inr e) = four e

pub good_tag : (tag : ℕ) → tag / 8 ≢ 0 → tag / 8 ≤ MAX_FIELD → tag % 8 ≤ 5 → ¬ IsBadTag tag
good_tag tag some most wire (inl e) = some e
good_tag tag some most wire (inr (inl e)) = omega (arith, most, e)
good_tag tag some most wire (inr (inr e)) = omega (arith, wire, e)
