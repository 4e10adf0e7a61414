use Rattle.ring_bytes.proofs.LiveLemmas.{alone_some}
use Rattle.ring_bytes.proofs.tests.live_at.Goals as goal

pub loop-preserved : goal.loop-preserved
loop-preserved c = alone_some c.args.ring.now c.live_behind-at.result c.live_behind-at.ensures.alone
