-- The world of a table of chunks, as plain data: what each chunk is used for, and the view of each seat.
use Rattle.std.specs.Prelude.{ℕ, List, [], slice_index_or}
use Rattle.chunk_plain.specs.Views.{Draft, Content, WriterView, ServiceView, newcomer, newcomer_service}

-- what a chunk is used for, by which writer and at which of its positions, with what it then holds
pub data Status : Type 0 where
  -- nobody has it
  Unclaimed : Status
  Claimed : (writer : ℕ) → Status
  -- claimed, and its header is stored
  Stamped : (writer position : ℕ) → Status
  -- its writer is writing it
  Writing : (writer position : ℕ) → Draft → Status
  -- it is complete, and waits for the service
  Ready : (writer position : ℕ) → Content → Status
  -- the service is reading it
  Reading : (writer position : ℕ) → Content → Status

-- the whole of a table: what each chunk's state is, and the views of all seats
pub record World : Type 0 where
  pub chunks : List Status
  pub writers : List WriterView
  pub service : ServiceView

-- the state of a chunk
abbrev pub status : World → ℕ → Status
status world chunk = slice_index_or world.chunks chunk Unclaimed

-- the view of a writer's seat
abbrev pub writer : World → ℕ → WriterView
writer world place = slice_index_or world.writers place newcomer

-- a table without chunks and writers
abbrev pub nowhere : World
nowhere = record { chunks = []; writers = []; service = newcomer_service }
