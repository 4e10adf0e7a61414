-- What a packet is that writers may leave: fields, one behind another, none of which is refused; and how it can be no such
-- packet. A field is what the protocol-buffers encoding makes one, of whatever varints, and without groups.
use Rattle.std.specs.Prelude.{◌≡◌, ◌≢◌, ℕ, ◌+◌, ◌*◌, ◌≤◌, true, false, List, [], ◌++◌, length, take, All}
use Rattle.trace_base.specs.declared.limits.TheConstants.{MAX_FIELD}
use Rattle.wire_varint.specs.Reading.{IsVarint}
use Rattle.trace_model.specs.Fields.{FieldValue, MessageField, Spells, SpellsAll}
use Rattle.trace_model.specs.Walks.{is_refused}

-- a field of this number stands in front of the bytes, and has so many of them
pub record HasField (bytes : List ℕ) (number len : ℕ) : Type 0 where
  pub value : FieldValue
  pub spells : Spells (record { number = number; value = value }) (take len bytes)
  pub within : len ≤ length bytes

-- a field that writers may write stands in front of the bytes, and has so many of them
pub record HasFreeField (bytes : List ℕ) (len : ℕ) : Type 0 where
  pub number : ℕ
  pub field : HasField bytes number len
  pub free : is_refused number ≡ false

-- a content of this field number and this length begins in front of the bytes, with so many of them for its tag and its length
pub record HasHead (bytes : List ℕ) (number width size : ℕ) : Type 0 where
  pub tag : List ℕ
  pub low : List ℕ
  pub cut : take width bytes ≡ tag ++ low
  pub is_tag : IsVarint tag (8 * number + 2)
  pub numbered : 1 ≤ number
  pub in_range : number ≤ MAX_FIELD
  pub is_size : IsVarint low size
  pub within : width ≤ length bytes

-- no field stands in front of the bytes
abbrev pub NoFieldInFront : List ℕ → Type 0
NoFieldInFront bytes = (field : MessageField) (front rest : List ℕ) → Spells field front → bytes ≡ front ++ rest → ⊥

-- the bytes are fields that writers may write
pub record Passes (bytes : List ℕ) : Type 0 where
  pub fields : List MessageField
  pub spells : SpellsAll fields bytes
  pub none : All (λ (field : MessageField). is_refused field.number ≡ false) fields

-- fields that writers may write stand in front, and behind them, at this place, bytes that begin with no field
pub record StopsAt (bytes : List ℕ) (at : ℕ) : Type 0 where
  pub front : List ℕ
  pub rest : List ℕ
  pub cut : bytes ≡ front ++ rest
  pub passes : Passes front
  pub at_is : at ≡ length front
  pub more : rest ≢ []
  pub no_field : NoFieldInFront rest

-- fields that writers may write stand in front, and behind them a field of this number, which they may not
pub record RefusesField (bytes : List ℕ) (number : ℕ) : Type 0 where
  pub front : List ℕ
  pub spelled : List ℕ
  pub behind : List ℕ
  pub cut : bytes ≡ front ++ (spelled ++ behind)
  pub passes : Passes front
  pub field : MessageField
  pub spells : Spells field spelled
  pub number_is : number ≡ field.number
  pub refused : is_refused field.number ≡ true
