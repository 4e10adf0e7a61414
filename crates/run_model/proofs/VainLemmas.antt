-- A schedule leads to what was done in a run, by way of the marked world; each claim in vain of it was made where somebody had the chunk, and each
-- request and each answer where it says.
use Rattle.std.proofs.Common.{◌≡◌, Bool, List, ◌++◌, get_or, sym, subst}
use Rattle.std.proofs.Math.Logic.{∥∥₁_elim, ∥∥₁_map₂}
use Rattle.chunk_plain.specs.Setup.{Setup}
use Rattle.chunk_plain.specs.Views.{At, Asked, ServiceView, WriterView, newcomer}
use Rattle.chunk_plain.specs.World.{World}
use Rattle.chunk_plain.specs.Plain.{first_world}
use Rattle.chunk_schedules.specs.Moves.{Move}
use Rattle.chunk_schedules.specs.Schedules.{IsSchedule, Leads}
use Rattle.chunk_schedules.proofs.ScheduleLemmas.{schedules_join}
use Rattle.chunk_schedules.proofs.AnswerLemmas.{answers_are_given_in_turn}
use Rattle.chunk_schedules.proofs.RequestLemmas.{requests_are_made_in_turn}
use Rattle.chunk_schedules.proofs.VainLemmas.{claims_in_vain_find_had}
use Rattle.scenario_text.specs.Scenario.{Parts}
use Rattle.run_model.specs.Laws.{LosesWhereHad, LostClaimsFindHad}
use Rattle.run_model.specs.Settled.{HasDoneAll}

loses_where_had : (scenario : Parts) (setup : Setup) (world : World) (closed : Bool) (done : HasDoneAll scenario setup world closed)
    → LosesWhereHad setup done.stood world
loses_where_had scenario setup world closed done =
    ∥∥₁_elim done.leads squash₁ (λ (goes : (other : World) × Leads setup done.stood other × (other.writers ≡ world.writers) × (other.service ≡ world.service)).
    ∥∥₁_map₂ done.reached goes.1
    (λ (first : (moves : List Move) × IsSchedule setup (first_world setup) moves done.stood) (then : (moves : List Move) × IsSchedule setup done.stood moves goes.0).
    let schedule = schedules_join.both setup (first_world setup) done.stood goes.0 first.0 then.0 first.1 then.1 in (
      first.0,
      then.0,
      goes.0,
      first.1,
      then.1,
      goes.2,
      goes.3,
      λ place number ask at lost. claims_in_vain_find_had setup (first.0 ++ then.0) goes.0 schedule place number ask
          (subst (λ (views : List WriterView). At (get_or views place newcomer).asked number ask) (sym goes.2) at) lost,
      λ number events at. requests_are_made_in_turn setup (first.0 ++ then.0) goes.0 schedule number events
          (subst (λ (view : ServiceView). At view.letters number (Asked events)) (sym goes.3) at),
      λ place number reply at. answers_are_given_in_turn setup (first.0 ++ then.0) goes.0 schedule place number reply
          (subst (λ (views : List WriterView). At (get_or views place newcomer).letters.answers number reply) (sym goes.2) at),
    )))

pub lost_claims_find_had : LostClaimsFindHad
lost_claims_find_had = record {
  run = λ scenario setup world run. loses_where_had scenario setup world _ run.before.done;
  in_lines = λ scenario setup world next stops. loses_where_had scenario setup world _ stops.done;
  in_end = λ scenario setup world next stops. loses_where_had scenario setup world _ stops.before.done;
}
