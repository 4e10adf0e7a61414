-- What the reading of a clone writes, and what it leaves.
use Rattle.std.specs.Prelude.{◌≡◌, ℕ, List, [], ◌∷◌, ◌++◌}
use Rattle.byte_io.specs.Bytes.{Intake, after_told, TakesPart}
use Rattle.trace_model.specs.Buffers.{Buffer}
use Rattle.trace_model.specs.Counts.{last_count}
use Rattle.trace_model.specs.Delivery.{Delivered, trace_of}
use Rattle.trace_model.specs.History.{Event, Read, state_after, records_after, reads_of}
use Rattle.trace_buffer.specs.Clones.{numbers_of}

-- the reading of a clone: each of its sequences in their order, with no limit but the greatest count
abbrev pub clone_reads : Buffer → List Event
clone_reads clone = reads_of last_count clone (numbers_of clone)

-- the records that these events of one buffer write
abbrev pub records_by : Buffer → List Event → List Delivered
records_by buffer events = records_after (buffer ∷ []) events

-- the records of a clone: those that its reading writes
abbrev pub clone_records : Buffer → List Delivered
clone_records clone = records_by clone (clone_reads clone)

-- the clone once it was read
abbrev pub all_read : Buffer → Buffer
all_read clone = state_after clone (clone_reads clone)

-- A write failed in the record of one packet: the reads before were done, and then one of a sequence up to this packet; the sink had taken
-- the records of these, and took a front part of the packet's.
pub record EndsInClone (old new : Buffer) (before after : Intake) : Type 0 where
  pub firsts : List Event
  pub sequence : ℕ
  pub left : ℕ
  pub count : ℕ
  pub others : List Event
  pub cut : clone_reads old ≡ firsts ++ Read sequence left ∷ others
  pub clone : new ≡ state_after old (firsts ++ Read sequence count ∷ [])
  pub failed : Delivered
  pub later : List Delivered
  pub due : clone_records old ≡ records_by old (firsts ++ Read sequence count ∷ []) ++ failed ∷ later
  pub part : TakesPart (after_told before (trace_of (records_by old (firsts ++ Read sequence count ∷ [])))) after failed.bytes
