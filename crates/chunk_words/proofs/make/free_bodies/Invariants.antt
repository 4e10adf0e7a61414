use Rattle.chunk_words.specs.Made.{HasFreeBodies}
use Rattle.chunk_words.proofs.make.free_bodies.Given as goal

abbrev pub invariant-loop-spot : goal.invariant-loop-spot
invariant-loop-spot l = HasFreeBodies l.spots l.spot-index l.bodies.items
