-- Moves lead on from a world to which moves lead.
use Rattle.std.proofs.Common.{◌≡◌, List, [], ◌∷◌, ◌++◌, refl, sym, subst, ⊎_elim}
use Rattle.std.proofs.Math.Logic.{∥∥₁_map}
use mathlib.Core.Option.{some-ne-none}
use Rattle.chunk_plain.specs.Setup.{Setup}
use Rattle.chunk_plain.specs.World.{World}
use Rattle.chunk_plain.specs.Plain.{first_world}
use Rattle.chunk_plain.proofs.Lists.{at_more}
use Rattle.chunk_schedules.specs.Moves.{Move, MayMove, behind}
use Rattle.chunk_schedules.specs.Schedules.{IsSchedule, Leads, IsLed}
use Rattle.chunk_schedules.proofs.ScheduleLemmas.{schedules_join}

-- no moves lead nowhere else
pub leads_none : (setup : Setup) (world : World) → Leads setup world world
leads_none setup world = ∣ ([], refl) ∣₁

-- one move more
pub leads_on : (setup : Setup) (old world next : World) (move : Move) → Leads setup old world → MayMove setup world move → behind world move ≡ next → Leads setup old next
leads_on setup old world next move leads may is =
    ∥∥₁_map leads (λ (one : (moves : List Move) × IsSchedule setup old moves world). (one.0 ++ move ∷ [], schedules_join.both setup old world next one.0 (move ∷ []) one.1 (may, sym is)))

-- A step that makes one move of its own leads on, from the first world and from each marked one.
pub led_on : (setup : Setup) (marks : List World) (world next : World) (move : Move) → IsLed setup marks world → MayMove setup world move
    → behind world move ≡ next → IsLed setup marks next
led_on setup marks world next move led may is = record {
  reached = leads_on setup (first_world setup) world next move led.reached may is;
  marked = λ i mark at. leads_on setup mark world next move (led.marked i mark at) may is;
}

-- as a table is made no moves were made, and nothing is marked
pub led_first : (setup : Setup) → IsLed setup [] (first_world setup)
led_first setup = record { reached = leads_none setup (first_world setup); marked = λ i mark at. absurd (some-ne-none mark (sym at)) }

-- a world may be marked while it stands
pub led_mark : (setup : Setup) (marks : List World) (world : World) → IsLed setup marks world → IsLed setup (marks ++ world ∷ []) world
led_mark setup marks world led = record {
  reached = led.reached;
  marked = λ i mark at. ⊎_elim (λ old. led.marked i mark old)
      (λ new. subst (λ (from : World). Leads setup from world) new.1 (leads_none setup world)) (at_more marks world mark i at);
}
