-- What the writers of a scenario emit, by the scenario's lines alone.
use Rattle.std.specs.Prelude.{ℕ, suc, List, [], ◌∷◌}
use Rattle.trace_base.specs.declared.policy.WriterSpec.{WriterSpec}
use Rattle.trace_model.specs.Packets.{emissions_of}
use Rattle.scenario_text.specs.declared.scenario.NumberedLine.{NumberedLine}
use Rattle.scenario_text.specs.Accepted.{calls_asked}
use Rattle.scenario_text.specs.Scenario.{Parts}

-- the packets that the lines have the writer with this number emit
abbrev pub emissions_asked : ℕ → List NumberedLine → List (List ℕ)
emissions_asked number lines = emissions_of (calls_asked number lines)

-- the packets that the lines have each writer emit, of which the first has this number
abbrev pub emitted_from : List NumberedLine → (number : ℕ) → List WriterSpec → List (List (List ℕ))
emitted_from lines number [] = []
emitted_from lines number (spec ∷ specs) = emissions_asked number lines ∷ emitted_from lines (suc number) specs

-- the packets that a scenario has its writers emit, in their order
abbrev pub emitted_in : Parts → List (List (List ℕ))
emitted_in scenario = emitted_from scenario.lines 1 scenario.writers
