use Rattle.std.proofs.Common.{refl}
use Rattle.chunk_plain.proofs.slots.free_slot.Goals as goal

pub returns : goal.returns
returns c = record {
  words = c.in_ok-words.ensures.items_if_clones_equal (λ y h. h);
  body = _;
  body_is = refl;
  free = record { whole = c.in_ok-vec.ensures.len };
}
