use Rattle.packet_check.proofs.CheckLemmas.{walked_more}
use Rattle.packet_check.proofs.whole.whole_front.Goals as goal

pub loop-at-preserved : goal.loop-at-preserved
loop-at-preserved c = walked_more c.args.bytes.now c.loop-at.at c.in-Some.len c.loop-at.invariant c.in-Some.ensures.field
