-- Whatever a writer does with the helps that it asks for, it does at one table.
use Rattle.std.proofs.Common.{◌≡◌, ◌∙◌, ℕ, Bool, subst, ap}
use Rattle.trace_base.specs.declared.policy.WriterPolicy.{WriterPolicy}
use Rattle.chunk_plain.specs.Setup.{Setup}
use Rattle.chunk_words.specs.declared.host.HostTable.{HostTable}
use Rattle.chunk_words.specs.declared.shared.Shared.{Shared}
use Rattle.chunk_words.specs.declared.seats.WriterSeat.{WriterSeat}
use Rattle.chunk_words.specs.contracts.shared.SharedWords.TheImpl.{ghosts as shared}
use Rattle.chunk_words.specs.Seats.{Rests}
use Rattle.chunk_words.specs.Sits.{Sits, setup_in}
use Rattle.trace_writer.specs.declared.route.Route.{Route}
use Rattle.trace_writer.specs.Helping.{LeavesWriters, Tries, Gains, Again, Ends, Works, Done, Silent, Gets, Helped, Refused, Lost, Tried, GivesUp}
use Rattle.trace_writer.specs.OwnSteps.{IsQuiet, IsSilent, GetsChunk, IsVainTry, IsOutNow}
use Rattle.thread_writer.specs.declared.helper.Asks.{Asks}
use Rattle.chunk_words.specs.Named.{identity_of}
use Rattle.thread_writer.specs.Asking.{IsHelp}
use Rattle.thread_writer.specs.Standing.{step_stays}

module _ {H : Type 0} (helps : H → ℕ → Bool → H → Type 0) (route : Route) where
  tries_stay : {begins : Bool} {left : ℕ} {helper kept : Asks H} {old new : Shared} {seat after : WriterSeat} {stopped : Bool}
      → Tries (GetsChunk shared.means route) (IsVainTry shared.means route begins)
      (λ asks table answer behind freed. IsHelp helps asks table route.spec.producer answer behind freed × LeavesWriters shared.means table freed)
      left helper old seat stopped kept new after
      → identity_of new.table.now ≡ identity_of old.table.now
  tries_stay (Gains left helper old seat new after gets) = step_stays old new seat after gets.step
  tries_stay (Again left helper old seat asking asker answer helped freed stopped kept new after vain helped_it more) =
      tries_stay more ∙ (ap (λ (s : Shared). identity_of s.table.now) helped_it.0.0 ∙ step_stays old asking seat asker vain.vain.step)
  tries_stay (Ends helper old seat new after vain) = step_stays old new seat after vain.vain.step

  pub works_stay : {begins : Bool} {policy : WriterPolicy} {helper left : Asks H} {old new : Shared} {seat after : WriterSeat} {stopped : Bool}
      → Works policy (IsSilent shared.means) (IsQuiet shared.means) (GetsChunk shared.means route) (IsVainTry shared.means route begins) (IsOutNow shared.means route)
      (λ asks table answer behind freed. IsHelp helps asks table route.spec.producer answer behind freed × LeavesWriters shared.means table freed)
      helper old seat stopped left new after
      → identity_of new.table.now ≡ identity_of old.table.now
  works_stay (Done helper old seat new after last) = step_stays old new seat after last.step
  works_stay (Silent helper old seat next moved stopped left new after silent more) = works_stay more ∙ step_stays old next seat moved silent.quiet.step
  works_stay (Gets helper old seat next moved stopped left new after gets more) = works_stay more ∙ step_stays old next seat moved gets.step
  works_stay (Helped helper old seat asking asker helped freed stopped left new after stalls out helped_it more) =
      works_stay more ∙ (ap (λ (s : Shared). identity_of s.table.now) helped_it.0.0 ∙ step_stays old asking seat asker out.vain.step)
  works_stay (Refused helper old seat asking asker left kept new after stalls out helped_it last) =
      step_stays kept new asker after last.step ∙ (ap (λ (s : Shared). identity_of s.table.now) helped_it.0.0 ∙ step_stays old asking seat asker out.vain.step)
  works_stay (Lost helper old seat mid between new after drops out last) = step_stays mid new between after last.step ∙ step_stays old mid seat between out.vain.step
  works_stay (Tried helper old seat tries kept next moved stopped left new after trying tried more) = works_stay more ∙ tries_stay tried
  works_stay (GivesUp helper old seat tries left mid between new after trying tried last) = step_stays mid new between after last.step ∙ tries_stay tried

-- the seat sits at the table again, where the lent one is the same
pub sits_back : (table behind : HostTable) (seat : WriterSeat) → identity_of behind ≡ identity_of table → setup_in behind ≡ setup_in table → Sits behind seat → Sits table seat
sits_back table behind seat same setup sits = record {
  joined = sits.joined ∙ same;
  rests = subst (λ (s : Setup). Rests s seat.place seat.seat.me) setup sits.rests;
}
