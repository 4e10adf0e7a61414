-- A session that a program has: its table, its service with the reading pass, and its writers.
use Rattle.std.specs.Prelude.{◌≡◌, ℕ, ◌-◌, ◌<◌, ◌≤◌, true, false, List, [], ◌∷◌, ◌++◌, length, map, Option, Some, None}
use Rattle.std.specs.Prelude.{slice_get, slice_set, slice_index_or}
use Rattle.std.specs.Arc.{arc_value}
use Rattle.trace_base.specs.declared.policy.WriterPolicy.{WriterPolicy}
use Rattle.trace_base.specs.declared.policy.WriterPolicy.TheVariants.{Drops}
use Rattle.trace_base.specs.declared.policy.WriterSpec.{WriterSpec}
use Rattle.trace_model.specs.Balance.{PacketCounts, IsBalanced, counts_of}
use Rattle.trace_model.specs.Calls.{Flushed}
use Rattle.trace_model.specs.Counts.{last_count}
use Rattle.trace_model.specs.Delivery as delivery
use Rattle.trace_model.specs.Delivery.{Delivered, IsFaithful, trace_of}
use Rattle.trace_model.specs.Packets.{begun_count, emissions_of}
use Rattle.trace_model.specs.Sequences.{sequence_in}
use Rattle.chunk_plain.specs.Laying.{setup_of}
use Rattle.chunk_plain.specs.Owned.{held_count}
use Rattle.chunk_plain.specs.Setup.{sequence_of}
use Rattle.chunk_plain.specs.Views.{ServiceView, newcomer, taken_of}
use Rattle.chunk_plain.specs.Plain.{first_world}
use Rattle.chunk_words.specs.declared.host.HostTable.{HostTable}
use Rattle.chunk_words.specs.declared.seats.WriterSeat.{WriterSeat}
use Rattle.chunk_words.specs.Sits.{Sits, Passes, setup_in, known_by, known_by_pass}
use Rattle.service_core.specs.Agreement.{is_closed}
use Rattle.trace_writer.specs.Core.{in_packet, holds_chunk, route_of}
use Rattle.schedule_laws.specs.Resting.{IsBetweenCalls}
use Rattle.thread_writer.specs.declared.writer.TraceWriter.{TraceWriter}
use Rattle.thread_writer.specs.Writing as writing
use Rattle.thread_service.specs.Reading.{IsKnownWhole, records_of}
use Rattle.thread_service.specs.Serving.{core_of, view_in, Serves}
use Rattle.tracesmb_c.specs.declared.closing.Losses.{Losses}
use Rattle.tracesmb_c.specs.declared.planning.Plan.{Plan}
use Rattle.tracesmb_c.specs.declared.planning.SessionSetup.{SessionSetup}
use Rattle.tracesmb_c.specs.declared.session.Counted.{Counted}
use Rattle.tracesmb_c.specs.declared.session.OwnedSession.{OwnedSession}
use Rattle.tracesmb_c.specs.declared.writer.OwnedWriter.{OwnedWriter}
use Rattle.tracesmb_c.specs.Ending.{AreThere, HaveRoom, IsCountOf, none_counted}
use Rattle.tracesmb_c.specs.Lending.{IsReady, table_of, view_of}
use Rattle.tracesmb_c.specs.Losing.{buffer_for}
use Rattle.tracesmb_c.specs.Planning.{IsPlanFor}
use Rattle.tracesmb_c.specs.Waits.{left_in}

-- ---- what it has

-- its table
abbrev pub session_table : OwnedSession → HostTable
session_table session = arc_value session.table

-- what its service knows
abbrev pub known_in : OwnedSession → ServiceView
known_in session = view_in session.service

-- A writer of this place that isn't lent: it stands between two packets, and holds no chunk.
pub record IsHome (table : HostTable) (place : ℕ) (writer : TraceWriter) : Type 0 where
  pub writes : writing.Writes table writer
  pub drops : (route_of (writing.core_of writer)).spec.policy ≡ Drops
  pub place_is : (writing.core_of writer).seat.place ≡ place
  pub none_begun : in_packet (writing.view_in writer) ≡ false
  pub none_held : holds_chunk (writing.core_of writer) ≡ false

-- the writers that are home are those of their places
abbrev pub AreHome : HostTable → List (Option TraceWriter) → Type 0
AreHome table homes = (place : ℕ) (writer : TraceWriter) → slice_get homes place ≡ Some (Some writer) → IsHome table place writer

-- The seat of a writer that has ended: a writer agreed with what it knows, which holds no chunk, and all that it has begun was taken. So
-- much the writer counted.
pub record IsEnded (table : HostTable) (view : ServiceView) (place : ℕ) (seat : WriterSeat) (count : Counted) : Type 0 where
  pub sits : Sits table seat
  pub place_is : seat.place ≡ place
  pub between : IsBetweenCalls (setup_in table) place (known_by seat)
  pub none_held : held_count (known_by seat).begun ≡ 0
  pub taken : length (known_by seat).begun ≤ (taken_of view place).count
  pub counts : IsCountOf (known_by seat) count

-- While it goes on there is a place for each writer, whose seat has none yet, and no sequence is closed.
pub record IsGoingOn (session : OwnedSession) : Type 0 where
  pub many : length session.homes.items ≡ length (setup_in (session_table session)).writers
  pub homes : AreHome (session_table session) session.homes.items
  pub opened : (place : ℕ) → place < length (setup_in (session_table session)).writers
      → is_closed (setup_in (session_table session)) (core_of session.service) place ≡ false
  pub room : HaveRoom (length (setup_in (session_table session)).writers) session.seats session.counts

-- Once it is stopped each writer has ended.
pub record HasEnded (session : OwnedSession) : Type 0 where
  pub many : length session.seats.items ≡ length (setup_in (session_table session)).writers
  pub counts : length session.counts.items ≡ length (setup_in (session_table session)).writers
  pub each : (place : ℕ) (seat : WriterSeat) → slice_get session.seats.items place ≡ Some seat
      → IsEnded (session_table session) (known_in session) place seat (slice_index_or session.counts.items place none_counted)

-- A session between two calls. No image came by a commit.
pub record IsSession (session : OwnedSession) : Type 0 where
  pub serves : Serves (session_table session) session.service
  pub pass : Passes (session_table session) session.pass
  pub known : IsKnownWhole (known_by_pass session.pass)
  pub own : (known_in session).commits ≡ []
  pub producers : session.producers ≡ length (setup_in (session_table session)).ranges
  pub goes_on : session.stopped ≡ false → IsGoingOn session
  pub ended : session.stopped ≡ true → HasEnded session

-- ---- the trace

-- the records that its reading pass knows
abbrev pub records_in : OwnedSession → List Delivered
records_in session = records_of (setup_in (session_table session)) (core_of session.service) (known_by_pass session.pass)

-- What its reads gave in a row is this: with what still waits it is the trace of the records that its reading pass knows. Where a record
-- found no memory to wait in, it is a front part of that trace.
pub record HasGiven (session : OwnedSession) (bytes : List ℕ) : Type 0 where
  pub rest : List ℕ
  pub trace : trace_of (records_in session) ≡ bytes ++ rest
  pub waits : session.torn ≡ false → rest ≡ left_in session.waiting

-- a call that gives nothing
abbrev pub KeepsGiven : OwnedSession → OwnedSession → Type 0
KeepsGiven old new = (bytes : List ℕ) → HasGiven old bytes → HasGiven new bytes

-- Its table is laid out, and its only buffer made, for a plan of this set-up.
pub record IsMadeFor (setup : SessionSetup) (session : OwnedSession) : Type 0 where
  pub plan : Plan
  pub planned : IsPlanFor setup plan
  pub table : setup_in (session_table session) ≡ setup_of plan.producers.items plan.writers.items
  pub buffer : (core_of session.service).specs.items ≡ plan.buffer ∷ []

-- a call that reads nothing and hands nothing out
pub record KeepsWaiting (old new : OwnedSession) : Type 0 where
  pub torn : new.torn ≡ old.torn
  pub waiting : new.waiting ≡ old.waiting

-- ---- the writers

-- a writer of this place of which nothing was asked
pub record IsNewWriter (table : HostTable) (place : ℕ) (policy : WriterPolicy) (writer : TraceWriter) : Type 0 where
  pub writes : writing.Writes table writer
  pub place_is : (writing.core_of writer).seat.place ≡ place
  pub policy_is : (route_of (writing.core_of writer)).spec.policy ≡ policy
  pub fresh : writing.view_in writer ≡ newcomer
  pub none_held : holds_chunk (writing.core_of writer) ≡ false

-- such a one is home at this place
pub record IsNewHome (table : HostTable) (specs : List WriterSpec) (place : ℕ) (home : Option TraceWriter) : Type 0 where
  pub writer : TraceWriter
  pub home_is : home ≡ Some writer
  pub made : (spec : WriterSpec) → slice_get specs place ≡ Some spec → IsNewWriter table place spec.policy writer

-- nothing was asked of any writer yet, all are home, and nothing was read
pub record IsUntouched (session : OwnedSession) : Type 0 where
  pub goes : session.stopped ≡ false
  pub whole : session.torn ≡ false
  pub none_read : trace_of (records_in session) ≡ []
  pub service : known_in session ≡ (first_world (setup_in (session_table session))).service
  pub homes : (place : ℕ) (home : Option TraceWriter) → slice_get session.homes.items place ≡ Some home
      → (writer : TraceWriter) × (home ≡ Some writer) × (writing.view_in writer ≡ newcomer)

-- the writers are as they were
pub record KeepsWriters (old new : OwnedSession) : Type 0 where
  pub table : session_table new ≡ session_table old
  pub homes : new.homes ≡ old.homes
  pub seats : new.seats ≡ old.seats
  pub counts : new.counts ≡ old.counts
  pub producers : new.producers ≡ old.producers
  pub stopped : new.stopped ≡ old.stopped

-- a call that touches the writers alone
pub record KeepsOthers (old new : OwnedSession) : Type 0 where
  pub table : session_table new ≡ session_table old
  pub service : new.service ≡ old.service
  pub pass : new.pass ≡ old.pass
  pub seats : new.seats ≡ old.seats
  pub counts : new.counts ≡ old.counts
  pub producers : new.producers ≡ old.producers
  pub stopped : new.stopped ≡ old.stopped
  pub torn : new.torn ≡ old.torn
  pub waiting : new.waiting ≡ old.waiting

-- The writer with this number, from 1, was home and is lent with what it knew.
pub record IsLent (number : ℕ) (old new : OwnedSession) (lent : OwnedWriter) : Type 0 where
  pub ready : IsReady lent
  pub table : table_of lent ≡ session_table old
  pub number_is : lent.number ≡ number
  pub was : slice_get old.homes.items (number - 1) ≡ Some (Some lent.writer)
  pub homes : new.homes.items ≡ slice_set old.homes.items (number - 1) None
  pub rest : KeepsOthers old new

-- It is home again, with all that it noted and a flush behind it.
pub record IsBack (lent : OwnedWriter) (old new : OwnedSession) : Type 0 where
  pub writer : TraceWriter
  pub calls : (writing.view_in writer).calls ≡ (view_of lent).calls ++ Flushed ∷ []
  pub homes : new.homes.items ≡ slice_set old.homes.items (lent.number - 1) (Some writer)
  pub rest : KeepsOthers old new

-- none is lent
abbrev pub AreAllHome : OwnedSession → Type 0
AreAllHome session = AreThere session.homes.items

-- Each writer's seat is there, and knows what the writer knew, and each sequence is closed.
pub record HasStopped (old new : OwnedSession) : Type 0 where
  pub stopped : new.stopped ≡ true
  pub table : session_table new ≡ session_table old
  pub closed : (place : ℕ) → place < length (setup_in (session_table old)).writers
      → is_closed (setup_in (session_table old)) (core_of new.service) place ≡ true
  pub seats : (place : ℕ) (writer : TraceWriter) → slice_get old.homes.items place ≡ Some (Some writer)
      → (seat : WriterSeat) × (slice_get new.seats.items place ≡ Some seat) × (known_by seat ≡ writing.view_in writer)

-- ---- the theorem

-- the packets that the program's calls had its writers write, writer by writer
abbrev pub emitted_in : OwnedSession → List (List (List ℕ))
emitted_in session = map (λ (seat : WriterSeat). emissions_of (known_by seat).calls) session.seats.items

-- what the losses say, as counts of packets
abbrev pub counts_in : Losses → PacketCounts
counts_in losses = record {
  begun = losses.begun;
  delivered = losses.delivered;
  dropped = losses.dropped;
  overwritten = losses.overwritten;
  discarded = losses.discarded;
  cut = losses.cut;
}

-- what the report of a sequence says, by the calls of its writer and by what losses and reads counted of it
abbrev pub counts_told : OwnedSession → (place : ℕ) → WriterSeat → PacketCounts
counts_told session place seat =
    let buffer = buffer_for (session_table session) session.service place in
    counts_of buffer.policy (known_by seat).calls (sequence_in buffer.sequences (sequence_of place))

-- The losses of the writer at this place are its report, and add up to the packets that it began. As many were delivered as the trace has
-- records of its sequence.
pub record IsLost (session : OwnedSession) (place : ℕ) (seat : WriterSeat) (losses : Losses) : Type 0 where
  pub counts : counts_in losses ≡ counts_told session place seat
  pub balanced : IsBalanced (counts_in losses)
  pub delivered : losses.delivered ≡ length (delivery.records_of (sequence_of place) (records_in session))

-- A session was closed of which all was read. What its reads gave in a row is the trace of records that are faithful to the packets that
-- the program's calls had its writers write: each is of a writer's sequence, and those of each sequence are emitted packets, exact,
-- whole, once, in order, and marked exactly where one is missing. And the losses of each writer add up to the packets that it began,
-- where no more were begun than a count can tell.
pub record HasClosed (session : OwnedSession) (losses : List Losses) : Type 0 where
  pub whole : (bytes : List ℕ) → HasGiven session bytes → session.torn ≡ false → trace_of (records_in session) ≡ bytes
  pub faithful : ∥ IsFaithful (emitted_in session) (records_in session) ∥₁
  pub many : length losses ≡ length session.seats.items
  pub lost : (place : ℕ) (seat : WriterSeat) (one : Losses) → slice_get session.seats.items place ≡ Some seat
      → slice_get losses place ≡ Some one → begun_count (known_by seat).calls ≤ last_count → IsLost session place seat one
