-- What the bytes of a trace read as: a list of fields, of which those with number 1 and a content are its packets. The
-- content is again a list of fields, and two of them are looked at: field 10 of TracePacket, `trusted_packet_sequence_id`,
-- and field 42, `previous_packet_dropped`.
use Rattle.std.specs.Prelude.{◌≡◌, ◌≢◌, ℕ, ◌+◌, ◌-◌, ◌==◌, ◌⊎◌, Bool, not, List, [], ◌∷◌, ◌++◌, length, All, Option, Some, None}
use Rattle.trace_file.specs.declared.field.FieldFault.{FieldFault}
use Rattle.trace_file.specs.declared.field.FieldFault.TheVariants as faults
use Rattle.trace_file.specs.declared.fault.TraceFault.{TraceFault}
use Rattle.trace_file.specs.declared.fault.TraceFault.TheVariants.{BadRecord, Group, CutShort}
use Rattle.trace_model.specs.Fields.{Content, MessageField, Spells, SpellsAll, last_number}
use Rattle.trace_file.specs.Faults.{Lacks}

-- One packet of a trace: the offset of its record and the record's bytes, the content of these, and what two of its
-- fields say.
pub record TracePacket : Type 0 where
  pub at : ℕ
  pub bytes : List ℕ
  pub content : List ℕ
  pub sequence : ℕ
  pub marked : Bool

-- the field of a trace that is a packet's record
abbrev pub record_field : List ℕ → MessageField
record_field content = record { number = 1; value = Content content }

-- what two fields of a packet's content say: the last field 10 of wire type 0, and the last field 42
pub record SaysNumbers (content : List ℕ) (sequence mark : ℕ) : Type 0 where
  pub fields : List MessageField
  pub spells : SpellsAll fields content
  pub sequence_is : sequence ≡ last_number 10 fields
  pub mark_is : mark ≡ last_number 42 fields

-- the packet's record stands at this offset
pub record IsPacketAt (at : ℕ) (packet : TracePacket) : Type 0 where
  pub at_is : packet.at ≡ at
  pub spells : Spells (record_field packet.content) packet.bytes
  pub mark : ℕ
  pub says : SaysNumbers packet.content packet.sequence mark
  pub marked_is : packet.marked ≡ not (mark == 0)

-- a field that isn't a packet's record
abbrev pub IsOther : MessageField → Type 0
IsOther field = (content : List ℕ) → field ≢ record_field content

-- the bytes are fields without a packet among them
pub record IsPassed (bytes : List ℕ) : Type 0 where
  pub fields : List MessageField
  pub spells : SpellsAll fields bytes
  pub others : All IsOther fields

-- fields stand in front, and behind them, at this place, bytes that begin with no field
pub record StopsInside (bytes : List ℕ) (fault : FieldFault) (at : ℕ) : Type 0 where
  pub fields : List MessageField
  pub front : List ℕ
  pub rest : List ℕ
  pub cut : bytes ≡ front ++ rest
  pub spells : SpellsAll fields front
  pub at_is : at ≡ length front
  pub more : rest ≢ []
  pub lacks : Lacks fault rest

-- the reason of a field at the top level, at its offset
abbrev pub top_fault : FieldFault → ℕ → TraceFault
top_fault faults.Group offset = Group offset
top_fault faults.Malformed offset = BadRecord offset
top_fault faults.CutShort offset = CutShort offset

-- a field of a record that is cut short passes the record's end
abbrev pub inner_fault : FieldFault → ℕ → TraceFault
inner_fault faults.Group offset = Group offset
inner_fault faults.Malformed offset = BadRecord offset
inner_fault faults.CutShort offset = BadRecord offset

-- a field at the top level has a fault
pub record HasTopFault (at : ℕ) (rest : List ℕ) (fault : TraceFault) : Type 0 where
  pub reason : FieldFault
  pub more : rest ≢ []
  pub lacks : Lacks reason rest
  pub fault_is : fault ≡ top_fault reason at

-- a record stands there whole, and a field of its content has a fault
pub record HasInnerFault (at : ℕ) (rest : List ℕ) (fault : TraceFault) : Type 0 where
  pub bytes : List ℕ
  pub behind : List ℕ
  pub content : List ℕ
  pub cut : rest ≡ bytes ++ behind
  pub spells : Spells (record_field content) bytes
  pub reason : FieldFault
  pub place : ℕ
  pub stops : StopsInside content reason place
  pub fault_is : fault ≡ inner_fault reason (at + (length bytes - length content) + place)

-- behind the fields that were passed, at this offset, the trace ends or has its first fault
abbrev pub EndsAt : ℕ → List ℕ → Option TraceFault → Type 0
EndsAt at rest None = rest ≡ []
EndsAt at rest (Some fault) = HasTopFault at rest fault ⊎ HasInnerFault at rest fault

-- fields without a packet stand in front, and behind them the trace ends or has its first fault
pub record EndsBehind (at : ℕ) (bytes : List ℕ) (ending : Option TraceFault) : Type 0 where
  pub front : List ℕ
  pub rest : List ℕ
  pub cut : bytes ≡ front ++ rest
  pub passed : IsPassed front
  pub ends : EndsAt (at + length front) rest ending

-- fields without a packet stand in front, and behind them the packet's record
pub record IsNext (at : ℕ) (bytes : List ℕ) (packet : TracePacket) : Type 0 where
  pub front : List ℕ
  pub rest : List ℕ
  pub cut : bytes ≡ front ++ (packet.bytes ++ rest)
  pub passed : IsPassed front
  pub is : IsPacketAt (at + length front) packet

-- the bytes from this offset on read as these packets, and then the trace ends, or has its first fault
abbrev pub ReadsFrom : ℕ → List ℕ → List TracePacket → Option TraceFault → Type 0
ReadsFrom at bytes [] ending = EndsBehind at bytes ending
ReadsFrom at bytes (packet ∷ packets) ending =
    (next : IsNext at bytes packet) × ReadsFrom (packet.at + length packet.bytes) next.rest packets ending

-- the trace reads as these packets
abbrev pub ReadsAsTrace : List ℕ → List TracePacket → Type 0
ReadsAsTrace bytes packets = ReadsFrom 0 bytes packets None

-- the trace has this first fault, behind the packets that stand in front of it
abbrev pub IsFaultIn : List ℕ → TraceFault → Type 0
IsFaultIn bytes fault = (packets : List TracePacket) × ReadsFrom 0 bytes packets (Some fault)

-- no two readings of the same bytes differ, and none is with a fault and without
abbrev pub TracesReadOnce : Type 0
TracesReadOnce = (at : ℕ) (bytes : List ℕ) (packets others : List TracePacket) (ending other : Option TraceFault)
    → ReadsFrom at bytes packets ending → ReadsFrom at bytes others other → (packets ≡ others) × (ending ≡ other)
