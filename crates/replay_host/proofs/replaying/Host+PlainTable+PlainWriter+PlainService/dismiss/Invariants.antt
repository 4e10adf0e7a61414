-- One writer less at each turn.
use Rattle.replay_host.proofs.replaying.Host+PlainTable+PlainWriter+PlainService.dismiss.Given as goal

abbrev pub decreases-loop-writer : goal.decreases-loop-writer
decreases-loop-writer l = goal.left-loop-writer l
