-- What the packet of an event notes.
use Rattle.std.specs.Prelude.{◌≡◌, ℕ, zero, suc, ◌+◌, ◌≤◌, ◌==◌, false, List, [], ◌∷◌, ◌++◌, length, Bool, Some, if◌then◌else◌}
use Rattle.trace_base.specs.declared.limits.TheConstants.{MAX_INPUT}
use Rattle.chunk_plain.specs.declared.tokens.TheConstants.{POSITION_LIMIT}
use Rattle.trace_writer.specs.declared.ids.TheConstants.{PACKET_IDS}
use Rattle.trace_model.specs.Calls.{Call, Begun, Number, Bytes, Nested, Ended, Finished}
use Rattle.trace_model.specs.Encoding.{number_field}
use Rattle.trace_writer.specs.declared.fault.CallFault.{CallFault}
use Rattle.trace_writer.specs.Core.{in_packet, open_depth, field_fault, nested_fault, bytes_size}
use Rattle.tracesmb_c.specs.declared.writer.OwnedWriter.{OwnedWriter}
use Rattle.tracesmb_c.specs.declared.writer_events.TheConstants.{COUNTER}
use Rattle.tracesmb_c.specs.Lending.{view_of, Stays, Notes, NotesField}

-- ---- the fields

-- a kind and a track
abbrev pub kind_calls : (kind track : ℕ) → List Call
kind_calls kind track = Number 9 kind ∷ Number 11 track ∷ []

-- an event with these
abbrev pub body_calls : (kind track : ℕ) → List Call
body_calls kind track = Nested 11 ∷ kind_calls kind track

-- and before it a time
abbrev pub head_calls : (kind time track : ℕ) → List Call
head_calls kind time track = Number 8 time ∷ body_calls kind track

-- its name, where it has one
abbrev pub name_calls : List ℕ → List Call
name_calls [] = []
name_calls (byte ∷ name) = Bytes 23 (byte ∷ name) 1 ∷ []

-- and of a counter its value
abbrev pub value_calls : (kind value : ℕ) → List Call
value_calls kind value = if kind == COUNTER then Number 30 value ∷ [] else []

-- all fields of an event, in the order in which they are written
abbrev pub field_calls : (kind time track value : ℕ) → (name : List ℕ) → List Call
field_calls kind time track value name = head_calls kind time track ++ (name_calls name ++ value_calls kind value)

-- ---- what is noted

-- These calls were noted one after another, behind each maybe that the packet was given up for want of a chunk, and nothing else.
abbrev pub NotesAll : OwnedWriter → OwnedWriter → List Call → Type 0
NotesAll old new [] = Stays old new
NotesAll old new (call ∷ calls) = (between : OwnedWriter) × NotesField old between call × NotesAll between new calls

-- the field is refused where its packet stands
abbrev pub IsRefused : OwnedWriter → Call → Type 0
IsRefused owned (Number field value) =
    (fault : CallFault) × (field_fault (view_of owned) field (length (number_field field value)) ≡ Some fault)
IsRefused owned (Bytes field text times) =
    (fault : CallFault) × (field_fault (view_of owned) field (bytes_size field times text) ≡ Some fault)
IsRefused owned (Nested field) = (fault : CallFault) × (nested_fault (view_of owned) field ≡ Some fault)
IsRefused owned _ = ⊥

-- Of these fields the first ones were noted, and the next one is refused.
pub record NotesSome (old new : OwnedWriter) (calls : List Call) : Type 0 where
  pub front : List Call
  pub field : Call
  pub later : List Call
  pub between : OwnedWriter
  pub cut : calls ≡ front ++ field ∷ later
  pub noted : NotesAll old between front
  pub refused : IsRefused between field
  pub stays : Stays between new

-- ---- the packet

-- so many messages ended
abbrev pub ended_calls : ℕ → List Call
ended_calls zero = []
ended_calls (suc number) = Ended ∷ ended_calls number

-- the packet ended, with each message that was open in it
abbrev pub NotesEnd : OwnedWriter → OwnedWriter → Type 0
NotesEnd old new = NotesAll old new (ended_calls (open_depth (view_of old)) ++ Finished ∷ [])

-- A packet was begun, kept or dropped as a whole, with all fields of the event, and finished.
pub record NotesEvent (kept : Bool) (fields : List Call) (old new : OwnedWriter) : Type 0 where
  pub begun : OwnedWriter
  pub written : OwnedWriter
  pub begins : Notes old begun (Begun kept ∷ [])
  pub noted : NotesAll begun written fields
  pub ends : NotesEnd written new

-- A packet was begun, and ended before a field that is refused.
pub record CutsEvent (fields : List Call) (old new : OwnedWriter) : Type 0 where
  pub kept : Bool
  pub begun : OwnedWriter
  pub written : OwnedWriter
  pub begins : Notes old begun (Begun kept ∷ [])
  pub some : NotesSome begun written fields
  pub ends : NotesEnd written new

-- it is between two packets with ids for one, and the event has a kind and a name of a length that there is
abbrev pub MayWriteEvent : (kind : ℕ) → (name : List ℕ) → OwnedWriter → Type 0
MayWriteEvent kind name owned = (1 ≤ kind) × (kind ≤ COUNTER) × (length name ≤ MAX_INPUT) × (in_packet (view_of owned) ≡ false)
    × (length (view_of owned).begun + PACKET_IDS ≤ POSITION_LIMIT)
