-- Where a chunk may be asked for it may be asked for behind the writer's own steps, and behind its claims.
use Rattle.std.proofs.Common.{◌≡◌, ℕ, Bool, sym, subst}
use Rattle.chunk_plain.specs.Meaning.{Meaning, IsWriterStep}
use Rattle.chunk_plain.specs.Setup.{Setup}
use Rattle.trace_writer.specs.declared.route.Route.{Route}
use Rattle.trace_writer.specs.AtWork.{MayAsk}
use Rattle.trace_writer.specs.Helping.{IsWork}
use Rattle.trace_writer.specs.Moments.{at_step}
use Rattle.trace_writer.specs.Site.{IsRoute}

route_there : (setup now : Setup) (place there : ℕ) (route : Route) → now ≡ setup → there ≡ place → IsRoute setup place route → IsRoute now there route
route_there setup now place there route setup_is place_is is =
    subst (λ (s : Setup). IsRoute s there route) (sym setup_is) (subst (λ (n : ℕ). IsRoute setup n route) (sym place_is) is)

module _ {H T W S : Type 0} {means : Meaning T W S} {needs : H → T → Type 0} {route : Route} {helper : H} {old : T} {seat : W} where
  pub asks_behind_step : {new : T} {after : W} → ((helper : H) (old new : T) (seat after : W) → IsWriterStep means old seat new after → needs helper old → needs helper new)
      → IsWriterStep means old seat new after → MayAsk means needs route helper old seat → MayAsk means needs route helper new after
  asks_behind_step {new} {after} keeps step may = record {
    seat_sits = step.seat_stays;
    needed = keeps helper old new seat after step may.needed;
    route_is = route_there (means.setup old) (means.setup new) (means.place seat) (means.place after) route step.setup_stays step.place_stays may.route_is;
  }

  pub asks_behind_work : {helps : H → T → ℕ → Bool → H → T → Type 0} {begins stopped : Bool} {steps later : ℕ} {left : H} {new : T} {after : W}
      → IsWork means needs helps begins route (at_step helper old seat steps) stopped (at_step left new after later) → MayAsk means needs route helper old seat → MayAsk means needs route left new after
  asks_behind_work {new = new} {after = after} work may = record {
    seat_sits = work.others.seat_stays;
    needed = work.needed;
    route_is = route_there (means.setup old) (means.setup new) (means.place seat) (means.place after) route work.others.setup_stays work.others.place_stays may.route_is;
  }
