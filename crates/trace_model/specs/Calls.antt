-- What a writer is asked to do. The view of a writer's seat lists its calls in their order; that a packet was given up
-- stands there too, as the writer notes it.
use Rattle.std.specs.Prelude.{ℕ, Bool, List}

-- a call of a writer, as it notes it
pub data Call : Type 0 where
  -- a packet is begun; one that isn't kept was dropped as a whole, since no chunk was free
  Begun : (kept : Bool) → Call
  Number : (field value : ℕ) → Call
  -- a text, so many times over
  Bytes : (field : ℕ) → (text : List ℕ) → (times : ℕ) → Call
  -- a nested message is begun
  Nested : (field : ℕ) → Call
  -- the innermost nested message ends
  Ended : Call
  -- the writer couldn't write the rest of the packet
  GivenUp : Call
  Finished : Call
  -- the held chunk was completed between two packets
  Flushed : Call
