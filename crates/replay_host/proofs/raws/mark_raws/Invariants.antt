-- The writers are marked that the lines before those that are still to come name.
use Rattle.std.proofs.Common.{◌≡◌, ◌++◌, List, length}
use Rattle.scenario_text.specs.declared.scenario.NumberedLine.{NumberedLine}
use Rattle.replay_host.specs.Raws.{AreMarked}
use Rattle.replay_host.proofs.raws.mark_raws.Given as goal

abbrev pub invariant-lines : goal.invariant-lines
invariant-lines l = record {
  before : List NumberedLine;
  split : l.fn.scenario.lines ≡ before ++ l.walk;
  marked : AreMarked before (length l.fn.scenario.writers.items) l.marks.items;
}

abbrev pub decreases-lines : goal.decreases-lines
decreases-lines l = length l.walk
