-- What a command is given of the input: a scenario, or bytes.
use Rattle.std.specs.Prelude.{◌≡◌, ℕ, ◌≤◌, List, Option, IfOk, length, vec_len}
use Rattle.trace_base.specs.declared.limits.TheConstants.{MAX_INPUT}
use Rattle.command_words.specs.declared.command.Command.{Command}
use Rattle.command_words.specs.declared.command.Command.TheVariants.{Replay, Run, Clone}
use Rattle.scenario_text.specs.Scenario.{GivesScenario, IsScenario, scenario_of}
use Rattle.tracesmb_top.specs.declared.input.Given.{Given}
use Rattle.tracesmb_top.specs.declared.input.Given.TheVariants.{Bytes, Scenario}
use Rattle.tracesmb_top.specs.Commands.{IsGiven}

-- what is given is this text, or what the text says by its grammar
abbrev pub Tells : Given → List ℕ → Type 0
Tells (Bytes bytes) text = text ≡ bytes.items
Tells (Scenario said) text = GivesScenario said (scenario_of text)

-- `replay`, `run` and `clone` are given a scenario, or why there is none; all other commands bytes, no more than an input may have
abbrev pub Suits : Command → Given → Type 0
Suits Replay (Scenario said) = IfOk said IsScenario
Suits Run (Scenario said) = IfOk said IsScenario
Suits Clone (Scenario said) = IfOk said IsScenario
Suits Replay (Bytes bytes) = ⊥
Suits Run (Bytes bytes) = ⊥
Suits Clone (Bytes bytes) = ⊥
Suits other (Scenario said) = ⊥
Suits other (Bytes bytes) = vec_len bytes ≤ MAX_INPUT

-- A command that reads the input is given all of it, where the input tells what it has, and no more than an input may have.
pub record IsTaken (command : Command) (left : Option (List ℕ)) (given : Given) : Type 0 where
  pub text : List ℕ
  pub all : IsGiven command left text
  pub short : length text ≤ MAX_INPUT
  pub tells : Tells given text
