-- What a call leaves, put together from what its steps did.
use Rattle.std.proofs.Common.{◌≡◌, ◌∙◌, ℕ, Bool, true, false, [], ◌∷◌, ◌++◌, Some, Result, Ok, refl, sym, ap, subst}
use Rattle.std.proofs.lemmas.Bool.{true≢false}
use Rattle.trace_model.specs.Calls.{Call}
use Rattle.chunk_plain.specs.Meaning.{Meaning, IsWriterStep}
use Rattle.chunk_plain.specs.Steps.{notes_call, with_writer_view}
use Rattle.chunk_plain.specs.Views.{WriterView}
use Rattle.chunk_plain.specs.World.{World}
use Rattle.trace_writer.specs.declared.fault.CallFault.{CallFault}
use Rattle.trace_writer.specs.declared.state.Writer.{Writer}
use Rattle.trace_writer.specs.Agreement.{Agrees}
use Rattle.trace_writer.specs.AtWork.{IsAtWork, IsReady, NotesUnlessStalled}
use Rattle.trace_writer.specs.Empty.{is_stalled}
use Rattle.trace_writer.specs.Moments.{moment}
use Rattle.trace_writer.specs.OwnSteps.{IsQuiet}
use Rattle.trace_writer.specs.Written.{IsWritten}
use Rattle.trace_writer.proofs.claims.QuietRows.{quiet_none}
use Rattle.trace_writer.proofs.claims.QuietSteps.{quiet_noted}
use Rattle.trace_writer.proofs.claims.Working.{asked_alone}
use Rattle.trace_writer.proofs.stops.Stopping.{refuses_none}

module _ {H T W S A : Type 0} (means : Meaning T W S) (needs : H → T → Type 0) (helps : H → T → ℕ → Bool → H → T → Type 0) where
  -- no chunk was asked for, and the call is noted
  pub written_alone : (call : Call) (old : Writer) (helper : H) (table : T) (seat : W) (steps : ℕ) (value : A) (new : Writer) (behind : T) (after : W) (by : ℕ)
      → means.sits table seat → ((helper : H) (old new : T) (seat after : W) → IsWriterStep means old seat new after → needs helper old → needs helper new)
      → needs helper table → Agrees (means.setup table) (means.place seat) (means.view behind after) new
      → new.route ≡ old.route → is_stalled old.state ≡ false → is_stalled new.state ≡ false
      → IsWriterStep means table seat behind after → means.view behind after ≡ notes_call (means.view table seat) call
      → ((world : World) → means.told table ≡ Some world → means.told behind ≡ Some (with_writer_view world by (means.view behind after)))
      → IsWritten means needs helps call (moment old helper table seat steps) (Ok value) (moment new helper behind after steps)
  written_alone call old helper table seat steps value new behind after by there keeps needed agrees route_stays was goes step is tells = record {
    agrees = agrees;
    route_stays = route_stays;
    stays = λ stalled. absurd (true≢false (sym stalled ∙ was));
    answers = λ _. goes;
    done = λ _. (
      false,
      asked_alone means needs helps old helper table seat steps (call ∷ []) new behind after there keeps needed
          (quiet_noted means table seat behind after by call step is tells) (ap (λ (v : WriterView). v.calls) is)
          (goes ∙ sym (refuses_none old.route.spec.policy)),
      λ stops. absurd (true≢false (sym stops)),
    );
  }

  -- what was tried before changed nothing
  pub written_after_all : {call : Call} {old mid : Writer} {helper : H} {table : T} {seat : W} {steps : ℕ} {answer : Result A CallFault} {new : Writer} {left : H} {behind : T} {after : W} {later : ℕ}
      → mid ≡ old → IsWritten means needs helps call (moment mid helper table seat steps) answer (moment new left behind after later)
      → IsWritten means needs helps call (moment old helper table seat steps) answer (moment new left behind after later)
  written_after_all {call} {old} {mid} {helper} {table} {seat} {steps} {answer} {new} {left} {behind} {after} {later} same written =
      subst (λ (writer : Writer). IsWritten means needs helps call (moment writer helper table seat steps) answer (moment new left behind after later)) same written

-- the same of what the call asks
pub ready_after_all : {H T W S : Type 0} {means : Meaning T W S} {needs : H → T → Type 0} {old mid : Writer} {helper : H} {table : T} {seat : W} {steps : ℕ}
    → mid ≡ old → IsReady means needs (moment old helper table seat steps) → IsReady means needs (moment mid helper table seat steps)
ready_after_all {means = means} {needs = needs} {helper = helper} {table = table} {seat = seat} {steps = steps} same ready =
    subst (λ (writer : Writer). IsReady means needs (moment writer helper table seat steps)) (sym same) ready

module _ {T W S : Type 0} {means : Meaning T W S} {call : Call} {table : T} {seat : W} {writer : Writer} where
  -- a writer that has stalled does nothing
  pub none_noted : IsAtWork means table seat writer → is_stalled writer.state ≡ true → NotesUnlessStalled means call table seat writer table seat writer
  none_noted at_work stalled = record {
    agrees = at_work.agrees;
    route_stays = refl;
    stays = λ is. (refl, refl, refl);
    goes = refl;
    calls = λ goes. absurd (true≢false (sym stalled ∙ goes));
    quiet = quiet_none means table seat at_work.seat_sits;
  }

  -- one that hasn't noted the call, and is this one behind it
  pub noted_then : {left : T} {after : W} {later now : Writer} → is_stalled writer.state ≡ false → later ≡ now → now.route ≡ writer.route → is_stalled now.state ≡ false
      → Agrees (means.setup table) (means.place seat) (means.view left after) later
      → (means.view left after).calls ≡ (means.view table seat).calls ++ call ∷ [] → IsQuiet means table seat left after
      → NotesUnlessStalled means call table seat writer left after later
  noted_then goes is route goes_on agrees calls quiet = record {
    agrees = agrees;
    route_stays = ap (λ (w : Writer). w.route) is ∙ route;
    stays = λ stalled. absurd (true≢false (sym stalled ∙ goes));
    goes = ap (λ (w : Writer). is_stalled w.state) is ∙ goes_on ∙ sym goes;
    calls = λ goes. calls;
    quiet = quiet;
  }
