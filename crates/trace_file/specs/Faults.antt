-- Why some bytes begin with no field. Of what holds of one field, a group comes first, then what is malformed, and then
-- what is cut short: this project's profile.
use Rattle.std.specs.Prelude.{◌≡◌, ℕ, ◌/◌, ◌%◌, ◌<◌, ◌⊎◌, List, ◌++◌, length}
use Rattle.trace_base.specs.declared.limits.TheConstants.{MAX_FIELD}
use Rattle.trace_file.specs.declared.field.FieldFault.{FieldFault}
use Rattle.trace_file.specs.declared.field.FieldFault.TheVariants.{Group, Malformed, CutShort}
use Rattle.wire_varint.specs.Reading.{IsVarint, IsShort, IsOver64}

-- a tag of this number stands in front of these bytes
pub record HasTag (bytes : List ℕ) (n : ℕ) (behind : List ℕ) : Type 0 where
  pub tag : List ℕ
  pub cut : bytes ≡ tag ++ behind
  pub is_tag : IsVarint tag n

-- wire types 3 and 4 begin and end a group
abbrev pub IsGroup : ℕ → Type 0
IsGroup tag = (tag % 8 ≡ 3) ⊎ (tag % 8 ≡ 4)

-- there is no such field number, or no such wire type
abbrev pub IsBadTag : ℕ → Type 0
IsBadTag tag = (tag / 8 ≡ 0) ⊎ ((MAX_FIELD < tag / 8) ⊎ (5 < tag % 8))

-- a length stands in front, and fewer bytes behind it
pub record HasTooLittle (bytes : List ℕ) : Type 0 where
  pub length_of : ℕ
  pub size : List ℕ
  pub content : List ℕ
  pub cut : bytes ≡ size ++ content
  pub is_size : IsVarint size length_of
  pub little : length content < length_of

-- the number or the length of a field of this wire type passes 64 bits
abbrev pub IsMalformedValue : ℕ → List ℕ → Type 0
IsMalformedValue wire bytes = ((wire ≡ 0) ⊎ (wire ≡ 2)) × IsOver64 bytes

-- the bytes end inside the value
abbrev pub IsCutValue : ℕ → List ℕ → Type 0
IsCutValue wire bytes = ((wire ≡ 0) × IsShort bytes) ⊎ (((wire ≡ 1) × (length bytes < 8))
    ⊎ (((wire ≡ 2) × (IsShort bytes ⊎ HasTooLittle bytes)) ⊎ ((wire ≡ 5) × (length bytes < 4))))

-- no value of this wire type stands in front, for this reason
abbrev pub LacksValue : FieldFault → ℕ → List ℕ → Type 0
LacksValue Group wire bytes = ⊥
LacksValue Malformed wire bytes = IsMalformedValue wire bytes
LacksValue CutShort wire bytes = IsCutValue wire bytes

-- no tag stands in front
abbrev pub LacksTag : FieldFault → List ℕ → Type 0
LacksTag Group bytes = ⊥
LacksTag Malformed bytes = IsOver64 bytes
LacksTag CutShort bytes = IsShort bytes

-- behind this tag no field is
abbrev pub LacksBehind : FieldFault → ℕ → List ℕ → Type 0
LacksBehind Group tag bytes = IsGroup tag
LacksBehind Malformed tag bytes = (¬ IsGroup tag) × (IsBadTag tag ⊎ IsMalformedValue (tag % 8) bytes)
LacksBehind CutShort tag bytes = (¬ IsGroup tag) × (¬ IsBadTag tag) × IsCutValue (tag % 8) bytes

-- no field stands in front
abbrev pub Lacks : FieldFault → List ℕ → Type 0
Lacks fault bytes =
    LacksTag fault bytes ⊎ ((tag : ℕ) × (behind : List ℕ) × HasTag bytes tag behind × LacksBehind fault tag behind)
