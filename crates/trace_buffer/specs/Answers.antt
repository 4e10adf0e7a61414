-- What the calls answer, as the definitions have it.
use Rattle.std.specs.Prelude.{ℕ, Result, Ok, Err}
use Rattle.trace_base.specs.declared.policy.FullPolicy.{FullPolicy}
use Rattle.trace_base.specs.declared.policy.FullPolicy.TheVariants.{Ring, Discard}
use Rattle.trace_model.specs.Arrivals as model
use Rattle.trace_model.specs.Buffers.{Buffer}
use Rattle.trace_model.specs.Patches as patches
use Rattle.trace_model.specs.Reads.{Turn, Delivers, Counts, Skips}
use Rattle.trace_model.specs.Reads as reads
use Rattle.trace_model.specs.Sequences as sequences
use Rattle.trace_model.specs.Sequences.{Sequence, base_of}
use Rattle.trace_buffer.specs.declared.answers.Arrived.{Arrived}
use Rattle.trace_buffer.specs.declared.answers.Arrived.TheVariants.{Kept, Rewritten, Duplicate, Discarded, TooFar, BadChunk}
use Rattle.trace_buffer.specs.declared.answers.PatchFault.{PatchFault}
use Rattle.trace_buffer.specs.declared.answers.PatchFault.TheVariants.{NoChunk, BadOffset}
use Rattle.trace_buffer.specs.declared.answers.Cursor.{Cursor}
use Rattle.trace_buffer.specs.declared.answers.Passed.{Passed}
use Rattle.trace_buffer.specs.declared.answers.Passed.TheVariants as passed
use Rattle.trace_buffer.specs.declared.answers.Passed.TheVariants.{Delivered, Dropped, Overwritten, Cut, Nothing}
use Rattle.trace_buffer.specs.declared.answers.SequenceState.{SequenceState}
use Rattle.trace_buffer.specs.declared.answers.BufferCounts.{BufferCounts}

-- an arrival's outcome as one of the model
abbrev pub arrived_value : Arrived → model.Arrived
arrived_value Kept = model.Kept
arrived_value Rewritten = model.Rewritten
arrived_value Duplicate = model.Duplicate
arrived_value Discarded = model.Discarded
arrived_value TooFar = model.TooFar
arrived_value (BadChunk fragment) = model.BadChunk fragment

-- the refusal of a patch as one of the model
abbrev pub fault_value : PatchFault → patches.PatchAnswer
fault_value NoChunk = patches.NoChunk
fault_value BadOffset = patches.BadOffset

-- what the answer to a patch says
abbrev pub patch_told : Result Unit PatchFault → patches.PatchAnswer
patch_told (Ok done) = patches.Applied
patch_told (Err fault) = fault_value fault

-- a cursor as one of the model
abbrev pub cursor_value : Cursor → sequences.Cursor
cursor_value cursor = record { chunk_id = cursor.chunk_id; passed = cursor.passed }

-- what a reader does where it passes this
abbrev pub turn_value : Passed → Turn
turn_value Delivered = Delivers
turn_value Dropped = Counts reads.Dropped
turn_value Overwritten = Counts reads.Lost
turn_value passed.Discarded = Counts reads.Lost
turn_value Cut = Counts reads.Cut
turn_value Nothing = Skips

-- what is lost was overwritten in a ring buffer, and discarded in a discard buffer
abbrev pub overwritten_of : FullPolicy → Sequence → ℕ
overwritten_of Ring state = state.lost
overwritten_of Discard state = 0

-- in a discard buffer what is lost was discarded
abbrev pub discarded_of : FullPolicy → Sequence → ℕ
discarded_of Ring state = 0
discarded_of Discard state = state.lost

-- what the buffer says of a sequence
abbrev pub state_of : FullPolicy → Sequence → SequenceState
state_of policy state = record {
  cursor = record { chunk_id = state.cursor.chunk_id; passed = state.cursor.passed };
  base = base_of state;
  closed = state.closed;
  missing = state.missing;
  delivered = state.delivered;
  dropped = state.dropped;
  overwritten = overwritten_of policy state;
  discarded = discarded_of policy state;
  cut = state.cut;
}

-- what the buffer says of its counts
abbrev pub counts_of : Buffer → BufferCounts
counts_of buffer = record {
  policy = buffer.policy;
  bytes = buffer.room;
  placed = buffer.placed;
  rewritten = buffer.rewritten;
  overwritten = buffer.overwritten;
  discarded = buffer.discarded;
  unpatched = buffer.unpatched;
  padding = buffer.padding;
}
