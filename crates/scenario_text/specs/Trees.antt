-- The fields of a scenario's lines are trees.
use Rattle.std.specs.Prelude.{List}
use Rattle.std.specs.List.{AllByRecursion}
use Rattle.field_tree.specs.Trees.{IsTree}
use Rattle.scenario_text.specs.declared.scenario.LineKind.{LineKind}
use Rattle.scenario_text.specs.declared.scenario.LineKind.TheVariants.{Packet, Add}
use Rattle.scenario_text.specs.declared.scenario.NumberedLine.{NumberedLine}
use Rattle.scenario_text.specs.declared.scenario.Scenario.{Scenario}
use Rattle.scenario_text.specs.Scenario.{IsScenario}

-- what a line gives its packet is a tree of fields within the limits of a packet
abbrev pub GivesTree : LineKind → Type 0
GivesTree (Packet writer nodes) = IsTree nodes
GivesTree (Add writer nodes) = IsTree nodes
GivesTree other = Unit {0}

-- the fields of each line are a tree
abbrev pub GiveTrees : List NumberedLine → Type 0
GiveTrees lines = AllByRecursion (λ line. GivesTree line.what) lines

-- what the lines of a value that the grammar gives have writers write are trees
abbrev pub ScenariosGiveTrees : Type 0
ScenariosGiveTrees = (scenario : Scenario) → IsScenario scenario → GiveTrees scenario.lines
