-- The clones of the lines before those that are still to come are counted.
use Rattle.std.proofs.Common.{◌≡◌, ◌++◌, length, map}
use Rattle.scenario_text.specs.Clones.{clones_in}
use Rattle.tracesmb_top.specs.declared.cloning.CloneCount.{CloneCount}
use Rattle.tracesmb_top.proofs.cloning.counts_for.Given as goal

abbrev pub invariant-lines : goal.invariant-lines
invariant-lines l = record { all : map (λ (count : CloneCount). count.buffer) l.counts.items ++ clones_in l.walk ≡ clones_in l.fn.lines }

abbrev pub decreases-lines : goal.decreases-lines
decreases-lines l = length l.walk
