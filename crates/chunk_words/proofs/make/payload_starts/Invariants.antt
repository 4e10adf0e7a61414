use Rattle.std.proofs.Common.{◌≡◌}
use Rattle.chunk_words.specs.Places.{payload_start}
use Rattle.chunk_words.specs.Made.{HasStarts}
use Rattle.chunk_words.proofs.make.payload_starts.Given as goal

abbrev pub invariant-loop-spot : goal.invariant-loop-spot
invariant-loop-spot l = record {
  starts : HasStarts l.layout l.spot-index l.starts.items;
  next_is : l.next ≡ payload_start l.layout l.spot-index;
}
