-- A writer that is lent to a program, between two of its calls.
use Rattle.std.specs.Prelude.{◌≡◌, ℕ, ◌+◌, ◌≤◌, Bool, true, false, List, [], ◌∷◌, ◌++◌}
use Rattle.std.specs.Prelude.{Some, None, Result, Ok, Err, IfOk, OnErr, MatchResult}
use Rattle.std.specs.Arc.{arc_value}
use Rattle.trace_base.specs.declared.limits.TheConstants.{MAX_FIELD}
use Rattle.trace_base.specs.declared.policy.WriterPolicy.TheVariants.{Drops}
use Rattle.trace_model.specs.Calls.{Call, Begun}
use Rattle.chunk_plain.specs.Setup.{range_of, producer_of}
use Rattle.chunk_plain.specs.Views.{WriterView}
use Rattle.chunk_words.specs.Sits.{setup_in}
use Rattle.chunk_words.specs.declared.host.HostTable.{HostTable}
use Rattle.trace_writer.specs.declared.fault.Begun.{Begun as BegunPacket}
use Rattle.trace_writer.specs.declared.fault.Begun.TheVariants.{Kept, Dropping}
use Rattle.trace_writer.specs.declared.fault.CallFault.{CallFault}
use Rattle.trace_writer.specs.Asked.{written_as}
use Rattle.trace_writer.specs.Calling.{packet_fault}
use Rattle.trace_writer.specs.Core.{in_packet, open_depth, route_of}
use Rattle.trace_writer.specs.Losing.{LosesBehind}
use Rattle.thread_writer.specs.Writing.{core_of, view_in, Writes}
use Rattle.tracesmb_c.specs.declared.writer.OwnedWriter.{OwnedWriter}
use Rattle.tracesmb_c.specs.declared.codes.TheConstants.{OK, REFUSED, DROPPING}

-- the table that it writes to
abbrev pub table_of : OwnedWriter → HostTable
table_of owned = arc_value owned.table

-- what its seat knows
abbrev pub view_of : OwnedWriter → WriterView
view_of owned = view_in owned.writer

-- It is a writer of its table, drops packets where no chunk is free, and has its number.
pub record IsReady (owned : OwnedWriter) : Type 0 where
  pub writes : Writes (table_of owned) owned.writer
  pub drops : (route_of (core_of owned.writer)).spec.policy ≡ Drops
  pub number_is : owned.number ≡ (core_of owned.writer).seat.place + 1

-- The same writer of the same table has noted these calls more, and nothing else was noted.
pub record Notes (old new : OwnedWriter) (noted : List Call) : Type 0 where
  pub calls : (view_of new).calls ≡ (view_of old).calls ++ noted
  pub table : table_of new ≡ table_of old
  pub number : new.number ≡ old.number

-- it noted none
abbrev pub Stays : OwnedWriter → OwnedWriter → Type 0
Stays old new = Notes old new []

-- it noted this field, and behind it that it gave the packet up where no chunk was to be had for it
abbrev pub NotesField : OwnedWriter → OwnedWriter → Call → Type 0
NotesField old new call = (stopped : Bool) × Notes old new (written_as stopped Drops call)

-- Behind this call no chunk was to be had: its last claims are one whole round in vain, one of each chunk of the writer's producer.
abbrev pub IsOutOfChunks : OwnedWriter → OwnedWriter → Type 0
IsOutOfChunks old new = LosesBehind (setup_in (table_of old)) (range_of (setup_in (table_of old)) (producer_of (setup_in (table_of old))
    (core_of old.writer).seat.place)) 1 (view_of old) (view_of new)

-- what a packet's begin notes
abbrev pub noted_begin : BegunPacket → List Call
noted_begin Kept = Begun true ∷ []
noted_begin Dropping = Begun false ∷ []

-- what is answered to it
abbrev pub begin_answer : BegunPacket → ℕ
begin_answer Kept = OK
begin_answer Dropping = DROPPING

-- what is answered to a field
abbrev pub field_answer : Result (Unit {0}) CallFault → ℕ
field_answer (Ok done) = OK
field_answer (Err fault) = REFUSED

-- a field can have this number
pub record IsField (field : ℕ) : Type 0 where
  pub least : 1 ≤ field
  pub most : field ≤ MAX_FIELD

-- A packet was begun, kept or dropped as is answered. Where it is dropped the writer was out of chunks.
pub record BeginsPacket (answer : BegunPacket) (old new : OwnedWriter) : Type 0 where
  pub ready : IsReady new
  pub notes : Notes old new (noted_begin answer)
  pub reason : answer ≡ Dropping → IsOutOfChunks old new
  pub begun : in_packet (view_of new) ≡ true
  pub depth : open_depth (view_of new) ≡ 0

-- A field was noted in the packet that is begun; or it was refused, for what its packet has, and nothing was noted.
pub record WritesField (call : Call) (answer : Result (Unit {0}) CallFault) (old new : OwnedWriter) : Type 0 where
  pub ready : IsReady new
  pub notes : IfOk answer (λ _. NotesField old new call)
  pub refused : OnErr answer (Stays old new)
  pub reason : MatchResult answer (λ _. packet_fault (view_of old) call ≡ None) (λ fault. packet_fault (view_of old) call ≡ Some fault)
  pub begun : in_packet (view_of new) ≡ true
