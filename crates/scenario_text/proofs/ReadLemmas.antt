-- The scenario of a text, line by line.
use Rattle.std.proofs.Common.{◌≡◌, ℕ, ◌+◌, ◌<◌, ◌≤◌, List, ◌∷◌, length, Some, None, Result, Ok, Err, IfOk, refl, ap}
use Rattle.trace_base.specs.declared.limits.TheConstants.{MAX_INPUT}
use Rattle.scenario_text.specs.declared.reason.Reason.{Reason}
use Rattle.scenario_text.specs.declared.reason.Reason.TheVariants.{UnfinishedLine}
use Rattle.scenario_text.specs.declared.reason.ScenarioFault.{ScenarioFault}
use Rattle.scenario_text.specs.declared.reason.ScenarioFault.TheVariants.{OutOfMemory, Bad}
use Rattle.scenario_text.specs.declared.scenario.Scenario.{Scenario}
use Rattle.scenario_text.specs.Pieces.{pieces, pieces_behind}
use Rattle.scenario_text.specs.State.{State, beginning}
use Rattle.scenario_text.specs.Grammar.{after_line, after_lines, state_after}
use Rattle.scenario_text.specs.Scenario.{GivesScenario, IsScenario, said, scenario_of}
use Rattle.scenario_text.proofs.LineLemmas.{line_goes, line_stops, last_unfinished}

pub scenario_starts : (text : List ℕ) → said (after_lines beginning 1 (pieces 10 text)) ≡ scenario_of text
unfolding scenario_of state_after
scenario_starts text = refl

pub scenario_goes : (state after : State) (number : ℕ) (line behind : List ℕ) → after_line state number line ≡ Ok after
    → said (after_lines state number (line ∷ pieces_behind 10 (Some behind))) ≡ said (after_lines after (number + 1) (pieces 10 behind))
scenario_goes state after number line behind is = ap said (line_goes state after number line behind is)

pub scenario_stops : (state : State) (number : ℕ) (line behind : List ℕ) (reason : Reason) → after_line state number line ≡ Err reason
    → said (after_lines state number (line ∷ pieces_behind 10 (Some behind))) ≡ Err (number, reason)
unfolding said
scenario_stops state number line behind reason is = ap said (line_stops state number line behind reason is)

pub scenario_unfinished : (state : State) (number : ℕ) (line : List ℕ) → 0 < length line
    → said (after_lines state number (line ∷ pieces_behind 10 None)) ≡ Err (number, UnfinishedLine)
unfolding said
scenario_unfinished state number line some = ap said (last_unfinished state number line some)

-- what was answered is a scenario
pub is_scenario : (text : List ℕ) (result : Result Scenario ScenarioFault) → length text ≤ MAX_INPUT
    → GivesScenario result (scenario_of text) → IfOk result IsScenario
is_scenario text (Ok scenario) short given = record { text = text; short = short; said_by = given }
is_scenario text (Err OutOfMemory) short given = tt
is_scenario text (Err (Bad line reason)) short given = tt
