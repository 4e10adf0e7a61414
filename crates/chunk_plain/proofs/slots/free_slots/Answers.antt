use Rattle.chunk_plain.proofs.MadeLemmas.{slots_more}
use Rattle.chunk_plain.proofs.slots.free_slots.Goals as goal

pub loop-spot-preserved : goal.loop-spot-preserved
loop-spot-preserved c = rw c.in_ok-push.ensures.items (slots_more c.args.spots.now c.loop-spot.spot-index c.loop-spot.slots.items c.in_ok-free_slot.field-0 c.loop-spot.invariant (c.in_ok-free_slot.ensures))
