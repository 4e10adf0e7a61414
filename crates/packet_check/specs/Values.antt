-- What the types of the code are in the words of the walk.
use Rattle.std.specs.Prelude.{◌≡◌, ℕ, ◌^◌, ◌<◌, ◌≤◌, List, length, take, drop}
use Rattle.trace_base.specs.declared.limits.TheConstants.{MAX_INPUT}
use Rattle.packet_check.specs.Answers.{walk_behind}
use Rattle.packet_check.specs.declared.walk.Part.{Part}
use Rattle.packet_check.specs.declared.walk.Part.TheVariants as parts
use Rattle.packet_check.specs.declared.walk.VarintOf.{VarintOf}
use Rattle.packet_check.specs.declared.walk.VarintOf.TheVariants as varints
use Rattle.packet_check.specs.declared.walk.Walk.{Walk}
use Rattle.trace_model.specs.Fields.{FieldValue, wire_of, IsValue}
use Rattle.trace_model.specs.Walks as model

-- what a varint is read for
abbrev pub purpose_of : VarintOf → model.VarintOf
purpose_of varints.Tag = model.OfTag
purpose_of varints.Number = model.OfNumber
purpose_of varints.Length = model.OfLength

-- what the bytes end in
abbrev pub part_of : Part → model.WalkPart
part_of parts.Between = model.Between
part_of (parts.InVarint purpose value scale count) = model.InVarint (purpose_of purpose) value count
part_of (parts.InContent left) = model.InContent left
part_of parts.Unfit = model.Unfit
part_of parts.Refused = model.Refused

-- where the bytes have come to
abbrev pub walk_of : Walk → model.Walk
walk_of walk = record { at = walk.at; start = walk.start; number = walk.number; part = part_of walk.part }

-- nine bytes of a varint came at most, the next one's place is worth the scale, and the value is below it
pub record IsVarintPart (value scale count : ℕ) : Type 0 where
  pub most : count ≤ 9
  pub scale_is : scale ≡ 128 ^ count
  pub small : value < 128 ^ count

-- what holds of what the bytes end in
abbrev pub IsPart : Part → Type 0
IsPart parts.Between = Unit {0}
IsPart (parts.InVarint purpose value scale count) = IsVarintPart value scale count
IsPart (parts.InContent left) = 1 ≤ left
IsPart parts.Unfit = Unit {0}
IsPart parts.Refused = Unit {0}

-- a value of this wire type stands in front of the bytes, and has so many of them
pub record HasValue (wire : ℕ) (bytes : List ℕ) (len : ℕ) : Type 0 where
  pub value : FieldValue
  pub wire_is : wire_of value ≡ wire
  pub is : IsValue value (take len bytes)

-- what holds of a check: its last field began where it is or before, and all its pieces so far have so many bytes at most
pub record IsCheck (walk : Walk) : Type 0 where
  pub part : IsPart walk.part
  pub begun : walk.start ≤ walk.at
  pub few : walk.at ≤ MAX_INPUT

-- So far whole fields lead in the packet that writers may write: where that is its end, the walk over it ends between fields;
-- and before its end, the walk from there on over what is left is that over all of it.
pub record IsFront (bytes : List ℕ) (at : ℕ) : Type 0 where
  pub within : at ≤ length bytes
  pub whole : at ≡ length bytes → (model.walk_over model.packet_start bytes).part ≡ model.Between
  pub rest : at < length bytes → model.walk_over (walk_behind at) (drop at bytes) ≡ model.walk_over model.packet_start bytes
