-- What writers may write, and that the check accepts it. The inner fields of a message are free: a message is a content, of which
-- the check knows the length alone.
use Rattle.std.specs.Prelude.{◌≡◌, ℕ, ◌*◌, ◌^◌, ◌<◌, ◌≤◌, Bool, true, false, ◌++◌, length}
use Rattle.trace_base.specs.declared.limits.TheConstants.{MAX_FIELD}
use Rattle.trace_model.specs.Encoding.{Fields, NoFields, NumberField, BytesField, NestedField, encoding_of}
use Rattle.trace_model.specs.Record.{mark_where}
use Rattle.trace_model.specs.Walks.{is_refused, is_accepted}

-- writers may write the field
pub record IsAllowed (field : ℕ) : Type 0 where
  pub numbered : 1 ≤ field
  pub in_range : field ≤ MAX_FIELD
  pub free : is_refused field ≡ false

-- writers may write each of the fields, whose numbers and lengths have the room that their varints give them
abbrev pub AreAllowed : Fields → Type 0
AreAllowed NoFields = Unit {0}
AreAllowed (NumberField field value others) = IsAllowed field × (value < 2 ^ 64) × AreAllowed others
AreAllowed (BytesField field text times others) = IsAllowed field × (times * length text < 2 ^ 64) × AreAllowed others
AreAllowed (NestedField field inner others) = IsAllowed field × (length (encoding_of inner) < 2 ^ 28) × AreAllowed others

-- a packet of such fields, with the mark of a dropped packet in front or without, is accepted
abbrev pub WritersPacketsPass : Type 0
WritersPacketsPass = (marked : Bool) (fields : Fields) → AreAllowed fields → is_accepted (mark_where marked ++ encoding_of fields) ≡ true
