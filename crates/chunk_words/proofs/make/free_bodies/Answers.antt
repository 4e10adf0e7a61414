use Rattle.chunk_words.proofs.Making.{bodies_more}
use Rattle.chunk_words.proofs.make.free_bodies.Goals as goal

pub loop-spot-preserved : goal.loop-spot-preserved
loop-spot-preserved c = rw c.in_ok-push.ensures.items (bodies_more c.args.spots.now c.loop-spot.spot-index c.loop-spot.bodies.items c.in_ok-free_body.field-0 c.loop-spot.invariant c.in_ok-free_body.ensures)
