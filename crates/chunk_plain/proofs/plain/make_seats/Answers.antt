use Rattle.chunk_plain.proofs.MadeLemmas.{seats_more}
use Rattle.chunk_plain.proofs.plain.make_seats.Goals as goal

pub loop-place-preserved : goal.loop-place-preserved
loop-place-preserved c = rw c.in_ok-push.ensures.items (seats_more c.loop-place.place c.loop-place.seats.items c.loop-place.invariant)
