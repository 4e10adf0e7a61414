use Rattle.std.proofs.Common.{length}
use Rattle.tracesmb_rows.proofs.scenarios.count.Given as goal

abbrev pub decreases-nodes : goal.decreases-nodes
decreases-nodes l = length l.coming
