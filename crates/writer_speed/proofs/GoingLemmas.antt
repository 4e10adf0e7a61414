-- Calls of a writer, one behind another.
use Rattle.std.proofs.Common.{◌≡◌, ◌∙◌, ℕ, false, sym, ap, subst}
use Rattle.trace_base.specs.declared.policy.WriterPolicy.TheVariants.{Drops, Stalls}
use Rattle.chunk_plain.specs.Setup.{Setup}
use Rattle.chunk_plain.specs.Meaning.{Meaning, IsWriterStep}
use Rattle.chunk_plain.proofs.SeatSteps.{steps_follow}
use Rattle.trace_writer.specs.declared.route.Route.{Route}
use Rattle.trace_writer.specs.declared.writer.WriterCore.{WriterCore}
use Rattle.trace_writer.specs.Core.{CoreAgrees, is_stalled, route_of}
use Rattle.trace_writer.specs.Laws.{DropsNeverStall}
use Rattle.writer_speed.specs.Going.{IsReady, GoesOn}

module _ {T W S : Type 0} (means : Meaning T W S) where
  -- it drops packets, and so never stalls
  pub never_stalled : DropsNeverStall → (table : T) (core : WriterCore W) → IsReady means table core → is_stalled core ≡ false
  never_stalled law table core ready = law (means.setup table) (means.place core.seat) (means.view table core.seat) core.writer ready.agrees
      (λ stalls. let wrong : Drops ≡ Stalls = sym ready.drops ∙ stalls in cc)

  -- one call
  pub goes_once : (old : T) (before : WriterCore W) (new : T) (after : WriterCore W)
      → (route_of before).spec.policy ≡ Drops → route_of after ≡ route_of before
      → CoreAgrees (means.setup old) (means.place before.seat) (means.view new after.seat) after
      → IsWriterStep means old before.seat new after.seat
      → GoesOn means old before new after
  goes_once old before new after drops route agrees step = record {
    ready = record {
      seat = step.seat_stays;
      agrees = subst (λ (s : Setup). CoreAgrees s (means.place after.seat) (means.view new after.seat) after) (sym step.setup_stays)
          (subst (λ (p : ℕ). CoreAgrees (means.setup old) p (means.view new after.seat) after) (sym step.place_stays) agrees);
      drops = ap (λ (r : Route). r.spec.policy) route ∙ drops;
    };
    step = step;
  }

  pub goes_further : (old : T) (before : WriterCore W) (mid : T) (between : WriterCore W) (new : T) (after : WriterCore W)
      → GoesOn means old before mid between
      → GoesOn means mid between new after
      → GoesOn means old before new after
  goes_further old before mid between new after one two = record {
    ready = two.ready;
    step = steps_follow means old before.seat mid between.seat new after.seat one.step two.step;
  }
