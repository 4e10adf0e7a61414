-- Chunks that lines commit: how many, in whose names, what it takes to commit one, and the room for a payload.
use Rattle.std.specs.Prelude.{◌≡◌, ℕ, suc, ◌<◌, ◌≤◌, Bool, false, List, length, slice_index, slice_index_or, vec_len}
use Rattle.trace_base.specs.declared.limits.TheConstants.{MAX_FRAGMENTS}
use Rattle.page_geometry.specs.declared.chunk_header.TheConstants.{MAX_FLAGS}
use Rattle.scenario_text.specs.declared.scenario.NumberedLine.{NumberedLine}
use Rattle.scenario_text.specs.RawChunks.{AskedChunk}
use Rattle.scenario_text.specs.Raws.{has_raw, raw_numbers}
use Rattle.chunk_plain.specs.Setup.{Setup, producer_of}
use Rattle.world_model.specs.FirstBuffers.{payload_at}
use Rattle.replay_host.specs.declared.raws.PayloadRoom.{PayloadRoom}

-- so many lines commit chunks
abbrev pub raws_in : List NumberedLine → ℕ
raws_in lines = length (raw_numbers lines)

-- by writer, of so many, whether one of these lines commits a chunk in its name
pub record AreMarked (lines : List NumberedLine) (writers : ℕ) (marks : List Bool) : Type 0 where
  pub many : length marks ≡ writers
  pub each : (place : ℕ) → place < writers → slice_index_or marks place false ≡ has_raw (suc place) lines

-- there are the writer at this place and its producer, a chunk of which has room for the payload, and the numbers are those of a chunk
-- header
pub record MayCommit (setup : Setup) (place : ℕ) (chunk : AskedChunk) : Type 0 where
  pub below : place < length setup.writers
  pub sized : producer_of setup place ≤ length setup.sizes
  pub fits : length chunk.payload ≤ payload_at setup place
  pub count : chunk.count ≤ MAX_FRAGMENTS
  pub flags : chunk.flags ≤ MAX_FLAGS

-- the room knows the payload size of each producer's chunks, and has bytes for the largest
pub record HasRoom (sizes : List ℕ) (room : PayloadRoom) : Type 0 where
  pub sizes_are : room.sizes.items ≡ sizes
  pub enough : (producer : ℕ) → slice_index sizes producer ≤ vec_len room.bytes
