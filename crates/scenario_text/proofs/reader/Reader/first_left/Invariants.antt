use Rattle.std.proofs.Common.{◌≡◌, ◌+◌, None, drop}
use Rattle.scenario_text.specs.Grammar.{first_left}
use Rattle.scenario_text.specs.View.{state_of}
use Rattle.scenario_text.proofs.reader.Reader.first_left.Given as goal

abbrev pub invariant-loop-i : goal.invariant-loop-i
invariant-loop-i l =
    first_left (state_of l.self) l.line (l.i + 1) (drop l.i l.self.scenario.writers.items)
    ≡ first_left (state_of l.self) None 1 l.self.scenario.writers.items
