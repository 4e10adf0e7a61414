-- What it takes to ask a writer for a call, and what that does.
use Rattle.std.specs.Prelude.{◌≡◌, ℕ, ◌+◌, ◌≤◌, ◌⊎◌, ◌==◌, Bool, true, false, List, ◌∷◌, ◌++◌, length, Some, slice_get, if◌then◌else◌}
use Rattle.trace_base.specs.declared.limits.TheConstants.{MAX_INPUT}
use Rattle.trace_base.specs.declared.policy.WriterPolicy.TheVariants.{Stalls}
use Rattle.trace_model.specs.Calls.{Call, Bytes}
use Rattle.trace_model.specs.Enough.{most_chunks}
use Rattle.trace_model.specs.Buffers.{Buffer}
use Rattle.trace_model.specs.History.{records_after}
use Rattle.trace_model.specs.Packets.{AreCalls, account_of, emissions_of}
use Rattle.model_laws.specs.Losses.{Loses}
use Rattle.scenario_text.specs.Accepted.{AreAccepted}
use Rattle.chunk_plain.specs.declared.tokens.TheConstants.{POSITION_LIMIT}
use Rattle.chunk_plain.specs.Histories.{history_of}
use Rattle.chunk_plain.specs.Meaning.{Meaning}
use Rattle.chunk_plain.specs.Views.{WriterView}
use Rattle.claim_arbiter.specs.Claiming.{range_in}
use Rattle.chunk_plain.specs.World.{World}
use Rattle.world_model.specs.FirstBuffers.{payload_at}
use Rattle.trace_writer.specs.declared.ids.TheConstants.{PACKET_IDS}
use Rattle.trace_writer.specs.declared.writer.WriterCore.{WriterCore}
use Rattle.trace_writer.specs.Asked.{begins_one, noted_as}
use Rattle.trace_writer.specs.Core.{CoreAgrees, is_stalled, route_of}
use Rattle.trace_writer.specs.Helping.{LeavesOthers, WorksOn, loses, rounds_for}
use Rattle.trace_writer.specs.Losing.{LosesBehind}
use Rattle.trace_writer.specs.OwnSteps.{IsQuiet}
use Rattle.service_core.specs.declared.service.ServiceCore.{ServiceCore}
use Rattle.service_core.specs.Agreement.{KeepsRest}
use Rattle.replay_model.specs.Does.{MayNeedChunk, Asks}

-- ---- what it takes

-- The calls that are to come are ones that the writer accepts: behind calls that it was asked for, and noted with packets lost. It has ids
-- enough for what all of them take at most.
pub record IsReadyFor (size : ℕ) (view : WriterView) (coming : List Call) : Type 0 where
  pub asked : List Call
  pub loses : Loses asked view.calls
  pub accepted : AreAccepted (account_of asked) coming
  pub possible : AreCalls (asked ++ coming)
  pub few : most_chunks size (emissions_of (asked ++ coming)) + PACKET_IDS ≤ POSITION_LIMIT

-- a text that a call writes has at most the bytes of an input
abbrev pub IsShortCall : Call → Type 0
IsShortCall (Bytes field text times) = length text ≤ MAX_INPUT
IsShortCall call = Unit {0}

-- the call comes next for the writer at this place, before these
abbrev pub asked_at : (place : ℕ) → Call → (ℕ → List Call) → ℕ → List Call
asked_at place call coming other = if other == place then call ∷ coming other else coming other

-- each writer accepts the calls that are to come
abbrev pub AreReady : {T W S : Type 0} → Meaning T W S → T → List (WriterCore W) → (ℕ → List Call) → Type 0
AreReady {T} {W} means table cores coming = (place : ℕ) (core : WriterCore W) → slice_get cores place ≡ Some core
    → IsReadyFor (payload_at (means.setup table) place) (means.view table core.seat) (coming place)

-- ---- what it does

-- A call of a writer over any helper, after which it goes on: what it did, and that it noted the call, or that the packet was lost behind
-- its rounds of claims in vain. In a call that needs no chunk it asked for none, and for no help.
pub record IsCalled {H T W S : Type 0} (means : Meaning T W S) (needs : H → T → Type 0) (helps : H → T → ℕ → Bool → H → T → Type 0)
    (call : Call) (helper : H) (old : T) (core : WriterCore W) (left : H) (new : T) (after : WriterCore W) : Type 0 where
  pub agrees : CoreAgrees (means.setup old) (means.place core.seat) (means.view new after.seat) after
  pub going : is_stalled after ≡ false
  pub needed : needs left new
  pub others : LeavesOthers means old core.seat new after.seat
  pub stopped : Bool
  pub drops : stopped ≡ true → loses (route_of core).spec.policy ≡ true
  pub lost : stopped ≡ true → LosesBehind (means.setup old) (range_in (route_of core).arbiter) (rounds_for (route_of core).spec.policy)
      (means.view old core.seat) (means.view new after.seat)
  pub asks : MayNeedChunk call ⊎ ((stopped ≡ false) × IsQuiet means old core.seat new after.seat)
  pub works : WorksOn means helps (IsQuiet means) (begins_one call) (route_of core)
      helper old core.seat stopped left new after.seat
  pub notes : (means.view new after.seat).calls ≡ (means.view old core.seat).calls ++ noted_as stopped (route_of core).spec.policy call

-- A call of a writer over any helper in which it stalls: what it did, up to a help that freed no chunk. It noted a call that writes, and
-- nothing of a packet's begin.
pub record IsStalledCall {H T W S : Type 0} (means : Meaning T W S) (needs : H → T → Type 0) (helps : H → T → ℕ → Bool → H → T → Type 0)
    (call : Call) (helper : H) (old : T) (core : WriterCore W) (left : H) (new : T) (after : WriterCore W) : Type 0 where
  pub may : MayNeedChunk call
  pub policy_is : (route_of core).spec.policy ≡ Stalls
  pub agrees : CoreAgrees (means.setup old) (means.place core.seat) (means.view new after.seat) after
  pub halted : is_stalled after ≡ true
  pub needed : needs left new
  pub others : LeavesOthers means old core.seat new after.seat
  pub works : WorksOn means helps (IsQuiet means) (begins_one call) (route_of core)
      helper old core.seat true left new after.seat
  pub notes : (means.view new after.seat).calls ≡ (means.view old core.seat).calls ++ noted_as true Stalls call

-- The service is as before, but that it may have taken chunks for the writer: the same sequences are closed, and its session and set-up
-- stay.
pub record KeepsService {T W S : Type 0} (means : Meaning T W S) (old : T) (before : ServiceCore S) (new : T) (after : ServiceCore S) : Type 0 where
  pub setup_is : means.setup new ≡ means.setup old
  pub keeps : KeepsRest (means.setup old) before after
  -- what was noted meanwhile writes no record
  pub quiet : (buffers : List Buffer) → records_after buffers (history_of (means.service_view new after.seat)) ≡ records_after buffers (history_of (means.service_view old before.seat))

-- in the world that is told, the writer at this place did the call that it was asked for
abbrev pub DoesAsk : {T W S : Type 0} → Meaning T W S → (place : ℕ) → Call → T → T → Type 0
DoesAsk means place call old new = (was : World) → means.told old ≡ Some was
    → (is : World) × (means.told new ≡ Some is) × Asks (means.setup old) place call was is
