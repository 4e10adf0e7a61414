-- The scenario of a text, and which values are scenarios.
use Rattle.std.specs.Prelude.{◌≡◌, ℕ, ◌≤◌, List, length, Result, Ok, Err}
use Rattle.trace_base.specs.declared.limits.TheConstants.{MAX_INPUT}
use Rattle.trace_base.specs.declared.policy.WriterSpec.{WriterSpec}
use Rattle.scenario_text.specs.declared.reason.Reason.{Reason}
use Rattle.scenario_text.specs.declared.reason.ScenarioFault.{ScenarioFault}
use Rattle.scenario_text.specs.declared.reason.ScenarioFault.TheVariants.{OutOfMemory, Bad}
use Rattle.scenario_text.specs.declared.scenario.BufferLine.{BufferLine}
use Rattle.scenario_text.specs.declared.scenario.ProducerLine.{ProducerLine}
use Rattle.scenario_text.specs.declared.scenario.NumberedLine.{NumberedLine}
use Rattle.scenario_text.specs.declared.scenario.Scenario.{Scenario}
use Rattle.scenario_text.specs.State.{State}
use Rattle.scenario_text.specs.Grammar.{state_after}

-- a scenario as lists
pub record Parts : Type 0 where
  pub buffers : List BufferLine
  pub producers : List ProducerLine
  pub writers : List WriterSpec
  pub lines : List NumberedLine

-- a scenario's lists
abbrev pub parts_of : Scenario → Parts
parts_of scenario = record {
  buffers = scenario.buffers.items;
  producers = scenario.producers.items;
  writers = scenario.writers.items;
  lines = scenario.lines;
}

-- the lists of what was read
abbrev pub parts_said : State → Parts
parts_said state = record { buffers = state.buffers; producers = state.producers; writers = state.writers; lines = state.lines }

-- the lists of a scenario, or its first fault
unfoldable pub said : Result State (ℕ × Reason) → Result Parts (ℕ × Reason)
said (Ok state) = Ok (parts_said state)
said (Err fault) = Err fault

-- the scenario that a text says; or its first faulty line, and the first reason that holds there
unfoldable pub scenario_of : List ℕ → Result Parts (ℕ × Reason)
scenario_of text = said (state_after text)

-- A value that the grammar gives: what some text says.
pub record IsScenario (scenario : Scenario) : Type 0 where
  pub text : List ℕ
  pub short : length text ≤ MAX_INPUT
  pub said_by : scenario_of text ≡ Ok (parts_of scenario)

-- an answer is what a text says, and a refusal its first fault; memory is free to run out
abbrev pub GivesScenario : Result Scenario ScenarioFault → Result Parts (ℕ × Reason) → Type 0
GivesScenario (Ok scenario) given = given ≡ Ok (parts_of scenario)
GivesScenario (Err OutOfMemory) given = Unit {0}
GivesScenario (Err (Bad line reason)) given = given ≡ Err (line, reason)
