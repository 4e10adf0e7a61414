-- That packets are what the lines of a scenario have its writers emit, and that none of these begins with the mark.
use Rattle.std.specs.Prelude.{◌≡◌, ℕ, ◌+◌, ◌≤◌, List, length, Some, slice_get}
use Rattle.scenario_text.specs.declared.scenario.NumberedLine.{NumberedLine}
use Rattle.scenario_text.specs.declared.scenario.Scenario.{Scenario}
use Rattle.scenario_text.specs.Scenario.{parts_of, IsScenario}
use Rattle.scenario_text.specs.Emissions.{emissions_asked, emitted_in}
use Rattle.gap_check.specs.Verdicts.{AreUnmarked}

-- these are the packets that the lines have so many writers emit
pub record AreAsked (lines : List NumberedLine) (count : ℕ) (emitted : List (List (List ℕ))) : Type 0 where
  pub many : length emitted ≡ count
  pub each : (place : ℕ) (packets : List (List ℕ)) → slice_get emitted place ≡ Some packets → packets ≡ emissions_asked (place + 1) lines
  pub few : (place : ℕ) (packets : List (List ℕ)) → slice_get emitted place ≡ Some packets → length packets ≤ length lines

-- no packet that a scenario has a writer emit begins with the mark
abbrev pub ScenariosAreUnmarked : Type 0
ScenariosAreUnmarked = (scenario : Scenario) → IsScenario scenario → AreUnmarked (emitted_in (parts_of scenario))
