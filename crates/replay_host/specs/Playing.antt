-- What plays a scenario, between two acts, and what its acts do.
use Rattle.std.specs.Prelude.{◌≡◌, ◌≢◌, ℕ, ◌-◌, ◌==◌, true, false, List, [], ◌++◌, length, Some, slice_get, slice_index_or, if◌then◌else◌}
use Rattle.byte_io.specs.Bytes.{Intake, after_told}
use Rattle.trace_model.specs.Buffers.{Buffer}
use Rattle.trace_model.specs.Calls.{Call}
use Rattle.trace_model.specs.Delivery.{trace_of}
use Rattle.trace_model.specs.History.{records_after}
use Rattle.model_laws.specs.Losses.{Loses}
use Rattle.chunk_plain.specs.Histories.{history_of}
use Rattle.chunk_plain.specs.Meaning.{Meaning}
use Rattle.chunk_plain.specs.Setup.{HasProducer, producer_of, ProducersAreApart}
use Rattle.chunk_plain.specs.Views.{ServiceView}
use Rattle.chunk_plain.specs.World.{World}
use Rattle.trace_writer.specs.declared.writer.WriterCore.{WriterCore}
use Rattle.service_core.specs.Agreement.{IsOpen, first_of}
use Rattle.replay_model.specs.Acts.{Act, asks}
use Rattle.replay_model.specs.ActNotes.{ActNote}
use Rattle.replay_model.specs.Plays.{Plays}
use Rattle.replay_host.specs.declared.host.Host.{Host}
use Rattle.replay_host.specs.Asking.{AreReady, KeepsService}
use Rattle.replay_host.specs.Standing.{Stands}

-- Writers and service stand, each chunk is of one producer, and what is kept of the set-up is right: a producer that counts as open is.
pub record IsHost {T W S : Type 0} (means : Meaning T W S) (host : Host T W S) : Type 0 where
  pub stands : Stands means host.table host.writers.items host.helper.service
  pub apart : ProducersAreApart (means.setup host.table)
  pub specs : host.specs.items ≡ (means.setup host.table).writers
  pub producers : length host.open_producers.items ≡ length (means.setup host.table).ranges
  pub opened : (producer : ℕ) → HasProducer (means.setup host.table) producer
      → slice_index_or host.open_producers.items (producer - 1) false ≡ true
      → IsOpen (means.setup host.table) host.helper.service producer

-- the producer of the writer at this place counts as open
abbrev pub IsOpenAt : {T W S : Type 0} → Meaning T W S → Host T W S → (place : ℕ) → Type 0
IsOpenAt means host place = slice_index_or host.open_producers.items (producer_of (means.setup host.table) place - 1) false ≡ true

-- these calls come next for the writer at this place, before those
abbrev pub asked_all : (place : ℕ) → List Call → (ℕ → List Call) → ℕ → List Call
asked_all place calls coming other = if other == place then calls ++ coming other else coming other

-- In the worlds that are told, the acts lead from the one table's to the other's, with these notes.
abbrev pub HasPlayed : {T W S : Type 0} → Meaning T W S → List Buffer → List Act → T → T → List ActNote → Type 0
HasPlayed means buffers acts old new notes =
    (was : World) → means.told old ≡ Some was → (is : World) × (means.told new ≡ Some is)
    × Plays (means.setup old) buffers acts was is notes

-- what is kept of the set-up, of flush requests and of commits is as before
pub record KeepsBooks {T W S : Type 0} (old new : Host T W S) : Type 0 where
  pub flushes : new.flushes ≡ old.flushes
  pub specs : new.specs ≡ old.specs
  pub opened : new.open_producers ≡ old.open_producers

-- the writer at this place was asked for these calls, and did them
pub record HasAsked {T W S : Type 0} (means : Meaning T W S) (place : ℕ) (calls : List Call) (old new : Host T W S) : Type 0 where
  pub service : KeepsService means old.table old.helper.service new.table new.helper.service
  pub books : KeepsBooks old new
  pub ready : (coming : ℕ → List Call) → AreReady means old.table old.writers.items (asked_all place calls coming)
      → AreReady means new.table new.writers.items coming
  pub plays : (buffers : List Buffer) → HasPlayed means buffers (asks place calls) old.table new.table []
  pub many : length new.writers.items ≡ length old.writers.items
  -- this writer has noted the calls, with packets lost
  pub own : (was is : WriterCore W) → slice_get old.writers.items place ≡ Some was → slice_get new.writers.items place ≡ Some is
      → (asked : List Call) → Loses asked (means.view old.table was.seat).calls
      → Loses (asked ++ calls) (means.view new.table is.seat).calls
  -- and each other one what it had
  pub others : (other : ℕ) (was is : WriterCore W) → other ≢ place → slice_get old.writers.items other ≡ Some was
      → slice_get new.writers.items other ≡ Some is
      → (means.view new.table is.seat).calls ≡ (means.view old.table was.seat).calls

-- ---- acts of the service

-- the sink has taken the trace of what the service has noted
abbrev pub IsTraceOf : (start : Intake) → List Buffer → ServiceView → Intake → Type 0
IsTraceOf start buffers view taken = taken ≡ after_told start (trace_of (records_after buffers (history_of view)))

-- The acts were done: the worlds that are told say so, with these notes, and the sink has taken the trace still, where it had.
pub record HasDone {T W S : Type 0} (means : Meaning T W S) (acts : List Act) (notes : List ActNote) (old : Host T W S) (taken : Intake) (new : Host T W S) (left : Intake) : Type 0
  where
    pub setup_is : means.setup new.table ≡ means.setup old.table
    pub first : first_of (means.setup old.table) new.helper.service ≡ first_of (means.setup old.table) old.helper.service
    pub plays : HasPlayed means (first_of (means.setup old.table) old.helper.service) acts old.table new.table notes
    pub writes : (start : Intake) → IsTraceOf start (first_of (means.setup old.table) old.helper.service) (means.service_view old.table old.helper.service.seat) taken
        → IsTraceOf start (first_of (means.setup old.table) old.helper.service) (means.service_view new.table new.helper.service.seat) left

-- the service did something, and the writers are as they were
pub record LeavesWriters {T W S : Type 0} (means : Meaning T W S) (old new : Host T W S) : Type 0 where
  pub writers : new.writers ≡ old.writers
  pub flushes : new.flushes ≡ old.flushes
  pub specs : new.specs ≡ old.specs
  pub views : (place : ℕ) (core : WriterCore W) → slice_get old.writers.items place ≡ Some core
      → means.view new.table core.seat ≡ means.view old.table core.seat

-- A call of the service alone leaves a host: its writers, which producers are open, and the session are as before.
pub record LeavesHost {T W S : Type 0} (means : Meaning T W S) (old new : Host T W S) : Type 0 where
  pub host : IsHost means new
  pub writers : LeavesWriters means old new
  pub opened : new.open_producers ≡ old.open_producers
  pub session : new.helper.service.session ≡ old.helper.service.session
