use Rattle.chunk_plain.specs.Made.{HasFreeSlots}
use Rattle.chunk_plain.proofs.slots.free_slots.Given as goal

abbrev pub invariant-loop-spot : goal.invariant-loop-spot
invariant-loop-spot l = HasFreeSlots l.spots l.spot-index l.slots.items
