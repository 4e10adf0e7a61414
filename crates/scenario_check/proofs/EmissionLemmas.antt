-- The emissions of all writers of a scenario.
use Rattle.std.proofs.Common.{◌≡◌, ◌∙◌, ℕ, zero, suc, ◌+◌, ◌≤◌, List, [], ◌∷◌, Some, length, refl, sym, ap, subst, arith}
use Rattle.std.specs.Prelude.{slice_get}
use Rattle.trace_base.specs.declared.limits.TheConstants.{MAX_WRITERS}
use Rattle.trace_model.specs.Packets.{nothing_yet}
use Rattle.emitted_packets.specs.declared.emitter.Emitter.{Emitter}
use Rattle.trace_base.specs.declared.policy.WriterSpec.{WriterSpec}
use Rattle.trace_base.proofs.Lists.{some_there}
use Rattle.scenario_text.specs.declared.scenario.NumberedLine.{NumberedLine}
use Rattle.scenario_text.specs.declared.scenario.Scenario.{Scenario}
use Rattle.scenario_text.specs.Accepted.{calls_asked, AreAccepted}
use Rattle.scenario_text.specs.Scenario.{IsScenario, parts_of}
use Rattle.scenario_text.proofs.LimitLemmas.{scenario_is_set_up}
use Rattle.scenario_text.proofs.AcceptedLemmas.{scenario_is_accepted}
use Rattle.gap_check.specs.Taken.{AreFew}
use Rattle.gap_check.specs.Verdicts.{AreUnmarked}
use Rattle.scenario_check.specs.Emissions.{AreAsked}
use Rattle.scenario_check.specs.Progress.{HaveTaken, MayCome}
use Rattle.scenario_text.proofs.ShortLemmas.{scenario_is_short}
use Rattle.scenario_text.specs.Emissions.{emissions_asked, emitted_from, emitted_in}
use Rattle.scenario_check.proofs.UnmarkedLemmas.{asked_unmarked}

asked_from : (lines : List NumberedLine) (writers : List WriterSpec) (number : ℕ) (emitted : List (List (List ℕ))) → length emitted ≡ length writers
    → ((place : ℕ) (packets : List (List ℕ)) → slice_get emitted place ≡ Some packets → packets ≡ emissions_asked (number + place) lines)
    → emitted ≡ emitted_from lines number writers
asked_from lines [] number [] many each = refl
asked_from lines [] number (packets ∷ emitted) many each = absurd (omega (arith, many))
asked_from lines (writer ∷ writers) number [] many each = absurd (omega (arith, many))
asked_from lines (writer ∷ writers) number (packets ∷ emitted) many each =
    let here : packets ≡ emissions_asked number lines = each 0 packets refl ∙ ap (λ (n : ℕ). emissions_asked n lines) (omega arith) in
    let others : emitted ≡ emitted_from lines (suc number) writers =
    asked_from lines writers (suc number) emitted (omega (arith, many))
    (λ place more there. each (suc place) more there ∙ ap (λ (n : ℕ). emissions_asked n lines) (omega arith)) in
    ap (λ (ps : List (List ℕ)). ps ∷ emitted) here ∙ ap (λ (es : List (List (List ℕ))). emissions_asked number lines ∷ es) others

pub asked_is : (lines : List NumberedLine) (writers : List WriterSpec) (emitted : List (List (List ℕ))) → AreAsked lines (length writers) emitted
    → emitted ≡ emitted_from lines 1 writers
asked_is lines writers emitted asked =
    asked_from lines writers 1 emitted asked.many (λ place packets there. asked.each place packets there ∙ ap (λ (n : ℕ). emissions_asked n lines) (omega arith))

-- the packets of a writer that is there
record IsThere (lines : List NumberedLine) (writers : List WriterSpec) (number place : ℕ) (packets : List (List ℕ)) : Type 0 where
  writer : WriterSpec
  is_writer : slice_get writers place ≡ Some writer
  are : packets ≡ emissions_asked (number + place) lines

from_there : (lines : List NumberedLine) (writers : List WriterSpec) (number place : ℕ) (packets : List (List ℕ))
    → slice_get (emitted_from lines number writers) place ≡ Some packets → IsThere lines writers number place packets
from_there lines [] number place packets there = absurd cc
from_there lines (writer ∷ writers) number zero packets there = record {
  writer = writer;
  is_writer = refl;
  are = let same : emissions_asked number lines ≡ packets = cc in sym same ∙ ap (λ (n : ℕ). emissions_asked n lines) (omega arith);
}
from_there lines (writer ∷ writers) number (suc place) packets there =
    let more = from_there lines writers (suc number) place packets there in
    record {
      writer = more.writer;
      is_writer = more.is_writer;
      are = more.are ∙ ap (λ (n : ℕ). emissions_asked n lines) (omega arith);
    }

pub scenario_is_unmarked : (scenario : Scenario) → IsScenario scenario → AreUnmarked (emitted_in (parts_of scenario))
scenario_is_unmarked scenario is = λ writer packets there place packet inside.
    let t = from_there scenario.lines scenario.writers.items 1 writer packets there in
    let well = scenario_is_accepted scenario is writer t.writer t.is_writer in
    let are : packets ≡ emissions_asked (writer + 1) scenario.lines = t.are ∙ ap (λ (n : ℕ). emissions_asked n scenario.lines) (omega arith) in
    asked_unmarked (calls_asked (writer + 1) scenario.lines) well.accepted place packet
    (subst (λ (ps : List (List ℕ)). slice_get ps place ≡ Some packet) are inside)

-- ---- what is collected

pub scenario_may : (scenario : Scenario) → IsScenario scenario → MayCome (length scenario.writers.items) scenario.lines
scenario_may scenario is = record {
  accepted = λ place inside. accepted_at place (some_there scenario.writers.items place (omega (arith, inside)));
  short = (scenario_is_short scenario is).short;
}
  where
    accepted_at : (place : ℕ) → (writer : WriterSpec) × (slice_get scenario.writers.items place ≡ Some writer)
        → AreAccepted nothing_yet (calls_asked (place + 1) scenario.lines)
    accepted_at place (writer, there) = (scenario_is_accepted scenario is place writer there).accepted

-- what is known of the packets of a scenario's writers
pub record AreCollected (scenario : Scenario) (emitted : List (List (List ℕ))) : Type 0 where
  pub packets : emitted ≡ emitted_in (parts_of scenario)
  pub writers : length emitted ≤ MAX_WRITERS
  pub few : AreFew emitted
  pub clean : AreUnmarked emitted

pub collected : (scenario : Scenario) → IsScenario scenario → (emitters : List Emitter) (emitted : List (List (List ℕ)))
    → length emitters ≡ length scenario.writers.items → HaveTaken scenario.lines emitters
    → ((lines : List NumberedLine) → HaveTaken lines emitters → AreAsked lines (length emitters) emitted) → AreCollected scenario emitted
collected scenario is emitters emitted many taken asks =
    let asked : AreAsked scenario.lines (length scenario.writers.items) emitted =
    subst (λ (n : ℕ). AreAsked scenario.lines n emitted) many (asks scenario.lines taken) in
    let same : emitted ≡ emitted_in (parts_of scenario) = asked_is scenario.lines scenario.writers.items emitted asked in
    record {
      packets = same;
      writers = omega (arith, asked.many, (scenario_is_set_up scenario is).few_writers);
      few = λ writer packets there. omega (arith, asked.few writer packets there, (scenario_is_short scenario is).few);
      clean = subst AreUnmarked (sym same) (scenario_is_unmarked scenario is);
    }
