use Rattle.std.proofs.Common.{◌≡◌, length, []}
use Rattle.scenario_check.specs.Progress.{HaveTaken}
use Rattle.scenario_check.proofs.collect.make_emitters.Given as goal

abbrev pub invariant-loop-writer : goal.invariant-loop-writer
invariant-loop-writer l = (length l.emitters.items ≡ l._writer) × HaveTaken [] l.emitters.items
