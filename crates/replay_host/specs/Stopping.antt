-- Why a scenario isn't played to its end, and what the sink has taken then.
use Rattle.std.specs.Prelude.{◌≡◌, ◌≢◌, ℕ, suc, true, false, List, ◌∷◌, ◌++◌, length, Some, slice_get}
use Rattle.std.specs.List.{flat_map}
use Rattle.byte_io.specs.Bytes.{Intake, after_told, TakesPart}
use Rattle.trace_base.specs.declared.policy.WriterPolicy.TheVariants as policies
use Rattle.trace_model.specs.Buffers.{Buffer}
use Rattle.trace_model.specs.Calls.{Call}
use Rattle.trace_model.specs.Delivery.{Delivered, trace_of}
use Rattle.trace_model.specs.History.{buffers_after, records_after}
use Rattle.chunk_plain.specs.Histories.{history_of}
use Rattle.chunk_plain.specs.Meaning.{Meaning}
use Rattle.chunk_plain.specs.Owned.{IsOwned}
use Rattle.chunk_plain.specs.Setup.{Setup, IsChunkOf, producer_of}
use Rattle.chunk_plain.specs.Steps.{serviced}
use Rattle.chunk_plain.specs.Views.{Draft, ServiceView}
use Rattle.chunk_plain.specs.World.{World, Writing, status, writer}
use Rattle.trace_writer.specs.declared.writer.WriterCore.{WriterCore}
use Rattle.trace_writer.specs.Asked.{noted_as}
use Rattle.service_core.specs.Agreement.{first_of}
use Rattle.service_core.specs.Reading.{reads_in, noted_read, FailsAmong, read_moment}
use Rattle.service_core.specs.Taking.{noted_more}
use Rattle.replay_model.specs.Acts.{Act, Ask, ReadAll}
use Rattle.replay_model.specs.Does.{MayNeedChunk, IsOut, Works, LeavesRest, GoesRound, Collects, Reads, policy_of}
use Rattle.replay_model.specs.ActNotes.{ActNote}
use Rattle.replay_model.specs.Plays.{Plays}
use Rattle.replay_host.specs.declared.fault.HostFault.{HostFault}
use Rattle.replay_host.specs.declared.fault.HostFault.TheVariants.{WriteFault, Stalled}
use Rattle.replay_host.specs.declared.host.Host.{Host}
use Rattle.replay_host.specs.Asking.{KeepsService}
use Rattle.replay_host.specs.Playing.{IsTraceOf, KeepsBooks}

-- ---- a writer that stalls

-- each chunk of the producer is being written by another writer than the one at this place
abbrev pub AreOthers : Setup → (producer place : ℕ) → World → Type 0
AreOthers setup producer place world = (chunk : ℕ) → IsChunkOf setup producer chunk
    → (other position : ℕ) × (draft : Draft) × (status world chunk ≡ Writing other position draft) × (other ≢ place)

-- The writer stalls in the call that it was asked for: it has the policy to, and asks for a last help where it is out of chunks, behind a
-- round of claims in vain of its own. The help takes nothing, and behind it the writer claims no more. Each of its producer's chunks is being
-- written by other writers then. They were before the call already. Each chunk is owned by exactly one in each of these worlds.
pub record StallsIn (setup : Setup) (place : ℕ) (call : Call) (old new : World) : Type 0 where
  pub may : MayNeedChunk call
  pub policy_is : policy_of setup place ≡ policies.Stalls
  -- before its last round, behind it, and behind the help
  pub trying : World
  pub asking : World
  pub kept : World
  pub works : Works setup place call false old trying
  pub round : GoesRound setup place trying asking
  pub out : IsOut setup place asking
  pub collects : Collects setup (producer_of setup place) asking kept
  pub none : collects.taken ≡ 0
  pub owned_kept : ∥ IsOwned kept ∥₁
  pub own : LeavesRest place kept new
  pub asked : (writer new place).asked ≡ (writer kept place).asked
  pub owned : ∥ IsOwned new ∥₁
  pub stuck : AreOthers setup (producer_of setup place) place new
  pub before : AreOthers setup (producer_of setup place) place old

-- The writer at this place stalled in a call, and the fault says so. It noted the call, or nothing where that was a packet's begin, and the
-- other writers noted nothing. No record was written, the service is as before, but that it may have taken chunks for the writer, and what
-- is kept of the set-up, of flush requests and of commits is as before.
pub record Stalls {T W S : Type 0} (means : Meaning T W S) (place : ℕ) (call : Call) (old new : Host T W S) (fault : HostFault) : Type 0 where
  pub fault_is : fault ≡ Stalled (suc place)
  pub may : MayNeedChunk call
  pub serves : means.serves new.table new.helper.service.seat
  pub service : KeepsService means old.table old.helper.service new.table new.helper.service
  pub books : KeepsBooks old new
  pub many : length new.writers.items ≡ length old.writers.items
  pub own : (was is : WriterCore W) → slice_get old.writers.items place ≡ Some was → slice_get new.writers.items place ≡ Some is
      → (means.view new.table is.seat).calls ≡ (means.view old.table was.seat).calls ++ noted_as true policies.Stalls call
  pub others : (other : ℕ) (was is : WriterCore W) → other ≢ place
      → slice_get old.writers.items other ≡ Some was → slice_get new.writers.items other ≡ Some is
      → (means.view new.table is.seat).calls ≡ (means.view old.table was.seat).calls
  pub told : (was : World) → means.told old.table ≡ Some was
      → (is : World) × (means.told new.table ≡ Some is) × StallsIn (means.setup old.table) place call was is

-- ---- a read in which a write failed

-- what the service has noted where the buffer with this number is read whole
abbrev pub with_reads : Setup → List Buffer → (number limit : ℕ) → ServiceView → ServiceView
with_reads setup buffers number limit view =
    noted_more view (flat_map noted_read (reads_in setup (buffers_after buffers (history_of view)) number limit))

-- A write failed in the reading of a buffer. The service noted the reads before the one that failed, then this one with the number that it
-- delivered, and nothing else; in the world that is told its notes are all that changed. The sink took the records of these reads and a
-- front part of the next one: a front part of the trace that is written where the buffer is read whole.
pub record FailsReading {T W S : Type 0} (means : Meaning T W S) (number limit : ℕ) (old : Host T W S) (taken : Intake) (new : Host T W S)
    (left : Intake) (fault : HostFault) : Type 0 where
  pub fault_is : fault ≡ WriteFault
  pub setup_is : means.setup new.table ≡ means.setup old.table
  pub first : first_of (means.setup old.table) new.helper.service ≡ first_of (means.setup old.table) old.helper.service
  pub among : FailsAmong (means.setup old.table) old.helper.service number limit
      (read_moment (means.service_view old.table old.helper.service.seat) taken)
      (read_moment (means.service_view new.table new.helper.service.seat) left)
  pub told : (was : World) → means.told old.table ≡ Some was
      → means.told new.table ≡ Some (serviced was (means.service_view new.table new.helper.service.seat))
  pub part : (start : Intake) → IsTraceOf start (first_of (means.setup old.table) old.helper.service) (means.service_view old.table old.helper.service.seat) taken
      → TakesPart start left (trace_of (records_after (first_of (means.setup old.table) old.helper.service)
      (history_of (with_reads (means.setup old.table) (first_of (means.setup old.table) old.helper.service) number limit (means.service_view old.table old.helper.service.seat)))))

-- ---- where the acts stop

-- The act wasn't done in this world: the writer that it asks stalled, or a write failed in its read. The records are those of the reads up
-- to there: where a writer stalled, of those before, since what was taken within the call writes none; and where a write failed, of its read
-- too, as if that were done whole.
abbrev pub Halts : Setup → List Buffer → Act → World → HostFault → List Delivered → Type 0
Halts setup buffers (Ask place call) world (Stalled writer) records =
    (writer ≡ suc place) × (last : World) × StallsIn setup place call world last
    × (records ≡ records_after buffers (history_of last.service)) × (records ≡ records_after buffers (history_of world.service))
Halts setup buffers (ReadAll number limit) world WriteFault records =
    (last : World) × Reads setup buffers number limit world last × (records ≡ records_after buffers (history_of last.service))
Halts setup buffers act world fault records = ⊥

-- what the sink has taken since the start: a front part of the records where a write failed, and else all of them and nothing else
abbrev pub TakesRecords : HostFault → (start left : Intake) → List Delivered → Type 0
TakesRecords WriteFault start left records = TakesPart start left (trace_of records)
TakesRecords fault start left records = left ≡ after_told start (trace_of records)

-- the acts before one were played, and it halted
pub record StopsAt (setup : Setup) (buffers : List Buffer) (acts : List Act) (first : World) (fault : HostFault) (start left : Intake) : Type 0 where
  pub done : List Act
  pub act : Act
  pub rest : List Act
  pub cut : acts ≡ done ++ act ∷ rest
  pub notes : List ActNote
  pub world : World
  pub plays : Plays setup buffers done first world notes
  pub records : List Delivered
  pub halts : Halts setup buffers act world fault records
  pub takes : TakesRecords fault start left records

-- in the world that was told they stopped so, where the sink had taken the trace
abbrev pub StopsIn : {T W S : Type 0} → Meaning T W S → List Act → Host T W S → (taken : Intake) → HostFault → (left : Intake) → Type 0
StopsIn means acts old taken fault left =
    (was : World) → means.told old.table ≡ Some was → (start : Intake)
    → IsTraceOf start (first_of (means.setup old.table) old.helper.service) (means.service_view old.table old.helper.service.seat) taken
    → StopsAt (means.setup old.table) (first_of (means.setup old.table) old.helper.service) acts was fault start left
