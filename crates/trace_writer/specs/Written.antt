-- What the writing of a field leaves, and the begin of a packet or of a nested message.
use Rattle.std.specs.Prelude.{◌≡◌, ℕ, Bool, true, false, Result, Err, MatchResult}
use Rattle.trace_model.specs.Calls.{Call}
use Rattle.trace_model.specs.Packets.{packets_of, newest_is_lost}
use Rattle.chunk_plain.specs.Meaning.{Meaning}
use Rattle.trace_writer.specs.declared.fault.Begun.{Begun}
use Rattle.trace_writer.specs.declared.fault.CallFault.{CallFault}
use Rattle.trace_writer.specs.declared.fault.CallFault.TheVariants.{Stalled}
use Rattle.trace_writer.specs.Agreement.{Agrees}
use Rattle.trace_writer.specs.Asked.{IsAsked, begun_as, written_as, stops_with}
use Rattle.trace_writer.specs.Empty.{is_stalled}
use Rattle.trace_writer.specs.Moments.{CallMoment, view_at}

-- A call whose bytes the packet may have was written: the writer agrees with the view that its seat has then. A writer that has stalled
-- answers so, and changes nothing. Another one did what was asked, and answers that it stalled exactly where it has stalled now; it
-- stops only in a packet that wasn't lost before.
pub record IsWritten {H T W S A : Type 0} (means : Meaning T W S) (needs : H → T → Type 0) (helps : H → T → ℕ → Bool → H → T → Type 0) (call : Call)
    (before : CallMoment H T W) (answer : Result A CallFault) (behind : CallMoment H T W) : Type 0 where
  pub agrees : Agrees (means.setup before.table) (means.place before.core.seat) (view_at means behind) behind.core.writer
  pub route_stays : behind.core.writer.route ≡ before.core.writer.route
  pub stays : is_stalled before.core.writer.state ≡ true
      → (answer ≡ Err Stalled) × (behind.core.writer ≡ before.core.writer) × (behind.table ≡ before.table) × (behind.core.seat ≡ before.core.seat)
      × (behind.helper ≡ before.helper) × (behind.steps ≡ before.steps)
  pub answers : is_stalled before.core.writer.state ≡ false
      → MatchResult answer (λ _. is_stalled behind.core.writer.state ≡ false) (λ fault. (fault ≡ Stalled) × (is_stalled behind.core.writer.state ≡ true))
  pub done : is_stalled before.core.writer.state ≡ false → (stopped : Bool)
      × IsAsked means needs helps false stopped (written_as stopped before.core.writer.route.spec.policy call) before behind
      × (stopped ≡ true → newest_is_lost (packets_of (view_at means before).calls) ≡ false)

-- A packet was to begin: the writer agrees with the view that its seat has then. A writer that has stalled answers so, and changes nothing.
-- Of another one the packet was kept, dropped or not begun as its policy says, and it answers that it stalled exactly where it has stalled now.
pub record TriesToBegin {H T W S : Type 0} (means : Meaning T W S) (needs : H → T → Type 0) (helps : H → T → ℕ → Bool → H → T → Type 0)
    (before : CallMoment H T W) (answer : Result Begun CallFault) (behind : CallMoment H T W) : Type 0 where
  pub agrees : Agrees (means.setup before.table) (means.place before.core.seat) (view_at means behind) behind.core.writer
  pub route_stays : behind.core.writer.route ≡ before.core.writer.route
  pub stays : is_stalled before.core.writer.state ≡ true
      → (answer ≡ Err Stalled) × (behind.core.writer ≡ before.core.writer) × (behind.table ≡ before.table) × (behind.core.seat ≡ before.core.seat)
      × (behind.helper ≡ before.helper) × (behind.steps ≡ before.steps)
  pub answers : is_stalled before.core.writer.state ≡ false
      → MatchResult answer (λ _. is_stalled behind.core.writer.state ≡ false) (λ fault. (fault ≡ Stalled) × (is_stalled behind.core.writer.state ≡ true))
  pub done : is_stalled before.core.writer.state ≡ false
      → IsAsked means needs helps true (stops_with answer) (begun_as (stops_with answer) before.core.writer.route.spec.policy) before behind
