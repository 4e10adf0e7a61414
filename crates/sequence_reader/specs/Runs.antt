-- A run: packets that lie whole in one chunk, delivered one behind another.
use Rattle.std.specs.Prelude.{⊤, ◌≡◌, ℕ, ◌+◌, ◌-◌, ◌<◌, ◌≤◌, ◌==◌, ◌&&◌, true, false, length}
use Rattle.byte_io.specs.Bytes.{Intake, Faulted}
use Rattle.trace_model.specs.Buffers.{Buffer}
use Rattle.trace_model.specs.Images.{has_flag_1, has_flag_2}
use Rattle.trace_model.specs.Walks.{is_accepted}
use Rattle.ring_bytes.specs.declared.key.RecordKey.{RecordKey}
use Rattle.trace_buffer.specs.Calls.{with_deliveries}
use Rattle.sequence_reader.specs.declared.progress.Progress.{Progress}
use Rattle.sequence_reader.specs.declared.run.Ran.{Ran}
use Rattle.sequence_reader.specs.declared.run.RunEnd.{RunEnd}
use Rattle.sequence_reader.specs.declared.run.RunEnd.TheVariants.{Chunk, Other, Fault}
use Rattle.sequence_reader.specs.declared.spot.Bounds.{Bounds}
use Rattle.sequence_reader.specs.declared.step.Piece.{Piece}
use Rattle.sequence_reader.specs.Ends.{row_met}
use Rattle.sequence_reader.specs.Spots.{cursor_of}
use Rattle.sequence_reader.specs.Turns.{IsAt, IsReadTo, Fails}

-- the fragment is a packet by itself, and one that is delivered
pub record IsPlain (piece : Piece) : Type 0 where
  pub undropped : piece.dropped ≡ false
  pub begins : piece.headless ≡ false
  pub ends : piece.runs_on ≡ false
  pub done : piece.awaits ≡ false
  pub accepted : is_accepted piece.bytes.now ≡ true

-- what a chunk's header says of the fragment with this number: it is there, continues no packet, runs on into no chunk, awaits no patch
pub record MayBePlain (key : RecordKey) (passed : ℕ) : Type 0 where
  pub there : passed < key.count
  pub begins : (has_flag_1 key.flags && (passed == 0)) ≡ false
  pub ends : (has_flag_2 key.flags && (passed + 1 == key.count)) ≡ false
  pub done : (key.awaits && (passed + 1 == key.count)) ≡ false

-- packets were delivered, maybe none, and nothing else was passed
pub record RunsOn (old new : Buffer) (before after : Intake) (bounds : Bounds) (limit : ℕ) (progress next : Progress) : Type 0 where
  pub at : IsAt new bounds next
  pub most : next.delivered ≤ limit
  pub later : progress.delivered ≤ next.delivered
  pub read : IsReadTo old new before after bounds.sequence (next.delivered - progress.delivered)
  pub no_longer : length (row_met new bounds.sequence) ≤ length (row_met old bounds.sequence)

-- what is so where a run ends: behind the last packet of a chunk less is left to read; behind a fault the next record is there in part
abbrev pub RunEnds : (old new : Buffer) (mid after : Intake) (sequence rest : ℕ) → RunEnd → Type 0
RunEnds old new mid after sequence rest Chunk =
    (after ≡ mid) × (length (row_met new sequence) < length (row_met old sequence))
RunEnds old new mid after sequence rest Other = after ≡ mid
RunEnds old new mid after sequence rest Fault = Fails new new mid after sequence rest

-- packets were delivered, and the run ended so
pub record Runs (old new : Buffer) (before after : Intake) (bounds : Bounds) (limit : ℕ) (progress : Progress) (ran : Ran) : Type 0 where
  pub mid : Intake
  pub on : RunsOn old new before mid bounds limit progress ran.progress
  pub ends : RunEnds old new mid after bounds.sequence (limit - ran.progress.delivered) ran.end

-- the same before the buffer is told of the packets
pub record PutsRun (old : Buffer) (before after : Intake) (bounds : Bounds) (limit : ℕ) (progress : Progress) (ran : Ran) : Type 0 where
  pub now : Buffer
  pub told : now
      ≡ with_deliveries old bounds.sequence (cursor_of ran.progress.at) (ran.progress.delivered - progress.delivered)
  pub runs : Runs old now before after bounds limit progress ran

-- the sink's count of faults rose only where a write failed
abbrev pub CountsRun : (old new : ℕ) → RunEnd → Type 0
CountsRun old new Chunk = new ≡ old
CountsRun old new Other = new ≡ old
CountsRun old new Fault = (old ≤ new) × Faulted old new

-- this holds unless a write failed
abbrev pub UnlessRunFails : Type 0 → RunEnd → Type 0
UnlessRunFails Holds Chunk = Holds
UnlessRunFails Holds Other = Holds
UnlessRunFails Holds Fault = ⊤
