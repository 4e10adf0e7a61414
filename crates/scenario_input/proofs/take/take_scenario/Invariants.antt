use Rattle.std.proofs.Common.{◌≡◌, ◌-◌, ◌≤◌}
use Rattle.trace_base.specs.declared.limits.TheConstants.{MAX_INPUT}
use Rattle.scenario_input.proofs.Come.{HasCome}
use Rattle.scenario_input.proofs.take.take_scenario.Given as goal

abbrev pub invariant-pieces : goal.invariant-pieces
invariant-pieces g l =
    HasCome (g.S.Source.left l.fn.input) (g.S.Source.left l.input) l.count l.reader
    × (g.S.Source.faults l.input ≡ g.S.Source.faults l.fn.input) × (l.count ≤ MAX_INPUT)
    × g.S.Source.may_ask l.input

abbrev pub decreases-pieces : goal.decreases-pieces
decreases-pieces g l = MAX_INPUT - l.count
