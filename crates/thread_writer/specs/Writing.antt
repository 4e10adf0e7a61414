-- The writer of a thread, as its callers see it: by the view of its seat.
use Rattle.std.specs.Prelude.{◌≡◌, ℕ, ◌+◌, Bool, true, false, List, ◌++◌, Result}
use Rattle.atomic_table.specs.Seated.{TableId}
use Rattle.crossbeam_utils.specs.Padded.{padded_value}
use Rattle.trace_model.specs.Calls.{Call}
use Rattle.chunk_plain.specs.Letters.{last_flush}
use Rattle.chunk_plain.specs.Views.{At, Reply, WriterView}
use Rattle.chunk_words.specs.declared.host.HostTable.{HostTable}
use Rattle.chunk_words.specs.declared.seats.WriterSeat.{WriterSeat}
use Rattle.chunk_words.specs.declared.shared.Shared.{Shared}
use Rattle.chunk_words.specs.contracts.shared.SharedWords.TheImpl.{ghosts as shared}
use Rattle.chunk_words.specs.Sits.{Sits, setup_in, known_by}
use Rattle.trace_writer.specs.declared.fault.CallFault.{CallFault}
use Rattle.trace_writer.specs.declared.writer.WriterCore.{WriterCore}
use Rattle.trace_writer.specs.Calling.{MakesCall}
use Rattle.trace_writer.specs.Core.{CoreAgrees, is_stalled, route_of}
use Rattle.trace_writer.specs.Answered.{IsAnsweredCut}
use Rattle.trace_writer.specs.Moments.{CallMoment, at_call}
use Rattle.trace_writer.specs.OwnSteps.{IsQuiet}
use Rattle.thread_writer.specs.declared.helper.Asks.{Asks}
use Rattle.thread_writer.specs.declared.writer.TraceWriter.{TraceWriter}
use Rattle.chunk_words.specs.Named.{identity_of}
use Rattle.thread_writer.specs.Asking.{MayAsk, IsHelp}

-- the writer with its seat, alone on its cache lines
abbrev pub core_of : TraceWriter → WriterCore WriterSeat
core_of writer = padded_value writer.core

-- what its seat knows
abbrev pub view_in : TraceWriter → WriterView
view_in writer = known_by (core_of writer).seat

-- the chunks that each of its answers to flush requests counts are a cut
abbrev pub AnswersAreCuts : WriterCore WriterSeat → Type 0
AnswersAreCuts core = (n : ℕ) (answer : Reply) → At (known_by core.seat).letters.answers n answer
    → IsAnsweredCut (route_of core).payload_size (core.seat.place + 2) (known_by core.seat) answer

-- The writer is one of this table: its seat sits there, it agrees with the view of its seat, and tells its own policy. It knows which flush
-- request it answered last, and what each of its answers counts is a cut.
pub record Writes (table : HostTable) (writer : TraceWriter) : Type 0 where
  pub seat : Sits table (core_of writer).seat
  pub agrees : CoreAgrees (setup_in table) (core_of writer).seat.place (view_in writer) (core_of writer)
  pub policy_is : writer.policy ≡ (route_of (core_of writer)).spec.policy
  pub answered_is : writer.answered ≡ last_flush (view_in writer).letters.answers
  pub cuts : AnswersAreCuts (core_of writer)

-- a writer with the helper that it asks, and its steps, as they stand at a moment
pub record Caller (H : Type 0) : Type 0 where
  pub writer : TraceWriter
  pub help : Asks H
  pub steps : ℕ

-- the moment at which these stand so
abbrev pub caller : {H : Type 0} → TraceWriter → Asks H → ℕ → Caller H
caller writer help steps = record { writer = writer; help = help; steps = steps }

-- the same as a writer over any table has it, here over the lent one
abbrev pub moment_on : {H : Type 0} → Shared → Caller H → CallMoment (Asks H) Shared WriterSeat
moment_on table now = at_call (core_of now.writer) now.help table now.steps

-- The writer is one of this table, and its helper may be asked there.
pub record MayCallOn {H : Type 0} (of_table : H → TableId → Type 0) (table : HostTable) (now : Caller H) : Type 0 where
  pub writes : Writes table now.writer
  pub help : of_table now.help.help (identity_of table)

-- A call that may ask for chunks, over the lent table: what it did, as the same call of a writer over any table, and the writer may call again.
pub record IsCall {A H : Type 0} (helps : H → ℕ → Bool → H → Type 0) (of_table : H → TableId → Type 0) (call : Call) (stopped : Bool) (table : Shared)
    (before : Caller H) (answer : Result A CallFault) (after : Caller H) : Type 0 where
  -- the table as the call leaves it
  pub behind : Shared
  pub same_table : identity_of behind.table.now ≡ identity_of table.table.now
  pub made : MakesCall shared.means (MayAsk of_table) (IsHelp helps) call stopped (moment_on table before) answer (moment_on behind after)
  pub may_call : MayCallOn of_table table.table.now after

-- A call that needs no chunk, over the lent table: a stalled writer is as before, another one notes the call.
pub record IsQuietCall (table : Shared) (old new : WriterCore WriterSeat) (noted : List Call) : Type 0 where
  -- the table as the call leaves it
  pub behind : Shared
  pub same_table : identity_of behind.table.now ≡ identity_of table.table.now
  pub stalled : is_stalled old ≡ true → (new ≡ old) × (behind ≡ table)
  pub goes : is_stalled new ≡ is_stalled old
  pub notes : is_stalled old ≡ false → (known_by new.seat).calls ≡ (known_by old.seat).calls ++ noted
  pub quiet : IsQuiet shared.means table old.seat behind new.seat
  pub route : route_of new ≡ route_of old
