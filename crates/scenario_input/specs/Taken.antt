-- What was read of a source that had a scenario.
use Rattle.std.specs.Prelude.{◌≡◌, ℕ, ◌≤◌, List, Option, Result, length, IfSome}
use Rattle.trace_base.specs.declared.limits.TheConstants.{MAX_INPUT}
use Rattle.scenario_text.specs.declared.reason.ScenarioFault.{ScenarioFault}
use Rattle.scenario_text.specs.declared.scenario.Scenario.{Scenario}
use Rattle.scenario_text.specs.Scenario.{GivesScenario, scenario_of}

-- What was read is what a text says: all that the source had left, where it tells that, and no longer than an input may be.
pub record IsReadOf (left : Option (List ℕ)) (said : Result Scenario ScenarioFault) : Type 0 where
  pub text : List ℕ
  pub all : IfSome left (λ told. text ≡ told)
  pub short : length text ≤ MAX_INPUT
  pub says : GivesScenario said (scenario_of text)
