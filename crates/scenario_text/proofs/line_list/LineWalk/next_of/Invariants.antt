-- The lines in front were passed over.
use Rattle.std.proofs.Common.{length}
use Rattle.scenario_text.specs.Accepted.{PassesOver}
use Rattle.scenario_text.proofs.line_list.LineWalk.next_of.Given as goal

abbrev pub invariant-loop : goal.invariant-loop
invariant-loop l = PassesOver l.number l.fn.self l.self

abbrev pub decreases-loop : goal.decreases-loop
decreases-loop l = length l.self
