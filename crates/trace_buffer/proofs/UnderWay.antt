-- Room as it is being made: what is still to be dropped leads to what all leads to.
use Rattle.std.proofs.Common.{◌≡◌, ℕ, ◌<◌, ◌≤◌, ◌^◌, List, map, sum_by}
use Rattle.chunk_index.specs.Value.{IndexValue}
use Rattle.ring_bytes.specs.Value.{RingValue}
use Rattle.trace_model.specs.Buffers.{with_losses}
use Rattle.trace_model.specs.Counts.{raised}
use Rattle.trace_model.specs.Sequences.{Sequence}
use Rattle.trace_buffer.specs.BufferFields.{AreParts}
use Rattle.trace_buffer.specs.Records.{met_records, displaced, unread_losses}

pub record IsUnderWay (old : RingValue) (rows : List Sequence) (lost n : ℕ) (ring : RingValue) (index : IndexValue) (now : List Sequence) (count : ℕ) : Type 0 where
  pub fits : n ≤ ring.room
  pub low : count < 2 ^ 64
  pub parts : AreParts ring index now
  pub ring_is : displaced ring n ≡ displaced old n
  pub rows_are : map (with_losses (met_records ring n)) now ≡ map (with_losses (met_records old n)) rows
  pub lost_is : raised count (sum_by (unread_losses now) (met_records ring n)) ≡ raised lost (sum_by (unread_losses rows) (met_records old n))
