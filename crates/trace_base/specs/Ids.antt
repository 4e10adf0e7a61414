-- Chunks of a sequence by their positions and by their ids. The chunks that a writer begins have the positions 0, 1, 2 and so on. A header
-- and a patch name a chunk by its id, which the shared memory ABI of the tracing service has as a counter of 32 bits within the
-- sequence that wraps. That the counter may begin anywhere is this profile's.
use Rattle.std.specs.Prelude.{◌≡◌, ℕ, ◌+◌, ◌-◌, ◌%◌, ◌^◌, ◌<◌}

-- the id of the chunk at this position, in a sequence whose first chunk has the id `from`
unfoldable pub id_of : (from position : ℕ) → ℕ
id_of from position = (from + position) % 2 ^ 32

-- the position of the chunk with this id: how far it lies behind `from`, counted round
unfoldable pub position_of : (from id : ℕ) → ℕ
position_of from id = (id + (2 ^ 32 - from % 2 ^ 32)) % 2 ^ 32

-- each undoes the other, as long as positions and ids have 32 bits
pub record IdsGoBack : Type 0 where
  pub positions : (from position : ℕ) → position < 2 ^ 32 → position_of from (id_of from position) ≡ position
  pub ids : (from id : ℕ) → id < 2 ^ 32 → id_of from (position_of from id) ≡ id
