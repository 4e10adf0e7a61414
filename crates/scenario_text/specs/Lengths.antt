-- How many bytes of packets lines ask for.
use Rattle.std.specs.Prelude.{ℕ, ◌+◌, ◌≤◌, List, length, sum_by}
use Rattle.trace_base.specs.declared.limits.TheConstants.{MAX_INPUT, MAX_SCENARIO_PACKET_BYTES}
use Rattle.trace_model.specs.Encoding.{nested_tag}
use Rattle.field_tree.specs.Judged.{nodes_len}
use Rattle.scenario_text.specs.declared.scenario.LineKind.{LineKind}
use Rattle.scenario_text.specs.declared.scenario.LineKind.TheVariants.{Packet, Add, Nest}
use Rattle.scenario_text.specs.declared.scenario.NumberedLine.{NumberedLine}
use Rattle.scenario_text.specs.declared.scenario.Scenario.{Scenario}
use Rattle.scenario_text.specs.Scenario.{IsScenario}

-- how many bytes longer a line makes the packet of its writer
abbrev pub line_len : LineKind → ℕ
line_len (Packet writer nodes) = nodes_len nodes
line_len (Add writer nodes) = nodes_len nodes
line_len (Nest writer field) = length (nested_tag field) + 4
line_len other = 0

-- the sum over all lines
abbrev pub lines_len : List NumberedLine → ℕ
lines_len lines = sum_by (λ line. line_len line.what) lines

-- the lines are as few as an input has, and their packets within the limit of a scenario
pub record AreShort (lines : List NumberedLine) : Type 0 where
  pub few : length lines ≤ MAX_INPUT + 1
  pub short : lines_len lines ≤ MAX_SCENARIO_PACKET_BYTES

-- so are those of each value that the grammar gives
abbrev pub ScenariosAreShort : Type 0
ScenariosAreShort = (scenario : Scenario) → IsScenario scenario → AreShort scenario.lines
