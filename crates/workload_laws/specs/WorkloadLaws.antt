-- Statements of the laws of workloads.
use Rattle.std.specs.Prelude.{◌≡◌, ℕ, ◌+◌, ◌*◌, ◌<◌, ◌≤◌, length, slice_get, Some, Ok}
use Rattle.trace_base.specs.declared.limits.TheConstants.{MAX_GENERATED_PACKETS, MAX_GENERATED_WRITERS, MAX_INPUT}
use Rattle.scenario_text.specs.Scenario.{scenario_of}
use Rattle.workload_gen.specs.Workload.{workload}
use Rattle.workload_laws.specs.Asked.{lines_asked, turn_line, workload_asked}

-- Each workload is a scenario: no line of it is refused, no packet is left begun, and the packets of all its lines are
-- within the limit of a scenario, however large the numbers are that the command words allow. It says what the workload
-- asks for, and nothing else.
abbrev pub WorkloadsAreScenarios : Type 0
WorkloadsAreScenarios = (number writers packets : ℕ) → writers ≤ MAX_GENERATED_WRITERS → packets ≤ MAX_GENERATED_PACKETS
    → scenario_of (workload number writers packets) ≡ Ok (workload_asked number writers packets)

-- In each turn, of so many as each writer has packets, each writer has one packet, one writer behind another; and there are
-- no other lines.
pub record TakesTurns (number writers packets : ℕ) : Type 0 where
  pub all : length (lines_asked number writers (packets * writers)) ≡ packets * writers
  pub each : (turn place : ℕ) → turn < packets → place < writers
      → slice_get (lines_asked number writers (packets * writers)) (turn * writers + place) ≡ Some (turn_line number writers turn place)

-- What a workload asks of its writers it asks by turns.
abbrev pub WorkloadsTakeTurns : Type 0
WorkloadsTakeTurns = (number writers packets : ℕ) → TakesTurns number writers packets

-- A workload of at most 1,600,000 packets in all is no longer than an input may be.
abbrev pub WorkloadsAreShort : Type 0
WorkloadsAreShort = (number writers packets : ℕ) → writers ≤ MAX_GENERATED_WRITERS → packets ≤ MAX_GENERATED_PACKETS
    → packets * writers ≤ 1600000 → length (workload number writers packets) ≤ MAX_INPUT
