-- What a call of a writer with its seat asks, and what one leaves, as its callers see it.
use Rattle.std.specs.Prelude.{◌≡◌, ℕ, Bool, true, false, [], ◌∷◌, ◌++◌, length, Option, Some, None, Result, MatchResult}
use Rattle.trace_base.specs.declared.policy.WriterPolicy.TheVariants.{Drops}
use Rattle.trace_model.specs.Calls.{Call, Number, Bytes, Nested}
use Rattle.trace_model.specs.Encoding.{number_field}
use Rattle.chunk_plain.specs.Meaning.{Meaning, IsWriterStep}
use Rattle.chunk_plain.specs.Views.{WriterView}
use Rattle.trace_writer.specs.declared.fault.CallFault.{CallFault}
use Rattle.trace_writer.specs.declared.fault.CallFault.TheVariants.{Stalled}
use Rattle.trace_writer.specs.declared.writer.WriterCore.{WriterCore}
use Rattle.trace_writer.specs.Asked.{IsAsked, LeavesAll, begins_one, noted_as}
use Rattle.trace_writer.specs.Core.{CoreAgrees, field_fault, nested_fault, bytes_size, is_stalled, route_of, refusal_of}
use Rattle.trace_writer.specs.Helping.{LeavesOthers}
use Rattle.trace_writer.specs.Moments.{CallMoment, view_at}
use Rattle.trace_writer.specs.OwnSteps.{IsQuiet}

-- the writer is one of the table: its seat sits there, and it agrees with the view of its seat
pub record Stands {T W S : Type 0} (means : Meaning T W S) (table : T) (core : WriterCore W) : Type 0 where
  pub seat : means.sits table core.seat
  pub agrees : CoreAgrees (means.setup table) (means.place core.seat) (means.view table core.seat) core

-- and its helper may be asked
pub record MayCall {H T W S : Type 0} (means : Meaning T W S) (needs : H → T → Type 0) (now : CallMoment H T W) : Type 0 where
  pub seat : means.sits now.table now.core.seat
  pub agrees : CoreAgrees (means.setup now.table) (means.place now.core.seat) (view_at means now) now.core
  pub needed : needs now.helper now.table

-- why the packet that is begun refuses a call
abbrev pub packet_fault : WriterView → Call → Option CallFault
packet_fault view (Number field value) = field_fault view field (length (number_field field value))
packet_fault view (Bytes field text times) = field_fault view field (bytes_size field times text)
packet_fault view (Nested field) = nested_fault view field
packet_fault view call = None

-- why the writer refuses it
abbrev pub fault_at : {H T W S : Type 0} → Meaning T W S → Call → CallMoment H T W → Option CallFault
fault_at means call now = refusal_of now.core (packet_fault (view_at means now) call)

-- A call that may ask for chunks was made, and may have stopped since none was to be had. It was refused and left all as it was, or did what
-- was asked; then it answers that the writer stalled exactly where it has stalled now. A writer that drops leaves its helper as it was.
pub record MakesCall {A H T W S : Type 0} (means : Meaning T W S) (needs : H → T → Type 0) (helps : H → T → ℕ → Bool → H → T → Type 0)
    (call : Call) (stopped : Bool) (before : CallMoment H T W) (answer : Result A CallFault) (behind : CallMoment H T W) : Type 0 where
  pub agrees : CoreAgrees (means.setup before.table) (means.place before.core.seat) (view_at means behind) behind.core
  pub needed : needs behind.helper behind.table
  pub others : LeavesOthers means before.table before.core.seat behind.table behind.core.seat
  pub refused : (fault : CallFault) → fault_at means call before ≡ Some fault → LeavesAll fault before answer behind
  pub answers : fault_at means call before ≡ None
      → MatchResult answer (λ _. is_stalled behind.core ≡ false) (λ fault. (fault ≡ Stalled) × (is_stalled behind.core ≡ true))
  pub done : fault_at means call before ≡ None
      → IsAsked means needs helps (begins_one call) stopped (noted_as stopped (route_of before.core).spec.policy call) before behind
  pub route : route_of behind.core ≡ route_of before.core
  pub alone : (route_of before.core).spec.policy ≡ Drops
      → (behind.helper ≡ before.helper) × IsWriterStep means before.table before.core.seat behind.table behind.core.seat

-- A call that asks for no chunk was made. A writer that has stalled is as it was; another one noted the call.
pub record NotesCall {T W S : Type 0} (means : Meaning T W S) (call : Call) (table : T) (core : WriterCore W) (left : T) (after : WriterCore W) : Type 0 where
  pub agrees : CoreAgrees (means.setup table) (means.place core.seat) (means.view left after.seat) after
  pub stalled : is_stalled core ≡ true → (after ≡ core) × (left ≡ table)
  pub goes : is_stalled after ≡ is_stalled core
  pub notes : is_stalled core ≡ false → (means.view left after.seat).calls ≡ (means.view table core.seat).calls ++ call ∷ []
  pub route : route_of after ≡ route_of core
  pub quiet : IsQuiet means table core.seat left after.seat
