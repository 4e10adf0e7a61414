-- Lines `raw`: a producer commits a chunk in a writer's name, which needn't be one that the writer wrote. Its header, payload and patch are
-- those that the line says (a commit of the shared memory ABI); its buffer answers what becomes of it.
use Rattle.std.specs.Prelude.{ℕ, ◌+◌, ◌-◌, ◌==◌, Bool, Option, Some, None, List, [], ◌∷◌, ◌++◌, length, replicate, if◌then◌else◌}
use Rattle.trace_base.specs.declared.policy.FullPolicy.{FullPolicy}
use Rattle.trace_model.specs.Arrivals.{image_arrival_of}
use Rattle.trace_model.specs.Balance.{PacketCounts, counts_of}
use Rattle.trace_model.specs.Buffers.{Buffer, discards}
use Rattle.trace_model.specs.Calls.{Call}
use Rattle.trace_model.specs.Counts.{raised}
use Rattle.trace_model.specs.History.{buffers_after}
use Rattle.trace_model.specs.Ids.{placed_image, placed_patches}
use Rattle.trace_model.specs.Images.{Image, Patch}
use Rattle.trace_model.specs.Sequences.{Sequence}
use Rattle.scenario_text.specs.declared.raw_chunk.RawPatch.{RawPatch}
use Rattle.scenario_text.specs.RawChunks.{AskedChunk}
use Rattle.chunk_plain.specs.Histories.{history_of}
use Rattle.chunk_plain.specs.Setup.{Setup, from_of, sequence_of}
use Rattle.chunk_plain.specs.Views.{Committed}
use Rattle.chunk_plain.specs.World.{World}
use Rattle.world_model.specs.FirstBuffers.{payload_at}
use Rattle.loss_report.specs.declared.raws.RawAnswer.{RawAnswer}
use Rattle.loss_report.specs.declared.raws.RawAnswer.TheVariants as answer
use Rattle.loss_report.specs.declared.raws.RawLine.{RawLine}
use Rattle.loss_report.specs.Raws.{answer_of}
use Rattle.service_core.specs.Agreement.{buffer_of}
use Rattle.service_core.specs.Routing.{buffer_at}

-- ---- what is committed

-- the chunk as an image of the writer at this place, with the chunk's id: its payload has the size of its producer's chunks, and zeros
-- stand behind the bytes that the line gives
abbrev pub raw_image : Setup → (place : ℕ) → AskedChunk → Image
raw_image setup place chunk = record {
  sequence = sequence_of place;
  chunk_id = chunk.chunk_id;
  count = chunk.count;
  flags = chunk.flags;
  payload = chunk.payload ++ replicate (payload_at setup place - length chunk.payload) 0;
}

-- the patches that come with it: one or none
abbrev pub raw_patches : Option RawPatch → List Patch
raw_patches None = []
raw_patches (Some patch) = record { chunk_id = patch.chunk_id; offset = patch.offset; bytes = patch.bytes; last = patch.last } ∷ []

-- what the service notes of it, where chunks are named by their positions
abbrev pub raw_commit : Setup → (place : ℕ) → AskedChunk → Committed
raw_commit setup place chunk = record {
  image = placed_image (from_of setup place) (raw_image setup place chunk);
  patches = placed_patches (from_of setup place) (raw_patches chunk.patch);
}

-- ---- what is answered

-- The answer in a world: what the buffer makes of the image, where the chunk is for the buffer of the writer's sequence, and else which
-- buffer that is. The buffers were these at first.
abbrev pub raw_answer : Setup → List Buffer → (place : ℕ) → AskedChunk → World → RawAnswer
raw_answer setup buffers place chunk world =
    if buffer_of setup place == chunk.buffer
    then answer_of (image_arrival_of (buffer_at (buffers_after buffers (history_of world.service)) (chunk.buffer - 1)) (raw_commit setup place chunk).image)
    else answer.WrongTarget (buffer_of setup place)

-- the numbers of lines that commit chunks, each with its answer, in order
abbrev pub raw_lines : List ℕ → List RawAnswer → List RawLine
raw_lines (number ∷ numbers) (answer ∷ answers) = record { line = number; answer = answer } ∷ raw_lines numbers answers
raw_lines numbers answers = []

-- ---- what is counted

-- What is known of the packets of a sequence with such lines is what losses and reads counted: they were begun by whoever it was.
abbrev pub raw_counts : FullPolicy → Sequence → PacketCounts
raw_counts policy state = record {
  begun = raised 0 (state.delivered + state.dropped + state.lost + state.cut);
  delivered = state.delivered;
  dropped = state.dropped;
  overwritten = if discards policy then 0 else state.lost;
  discarded = if discards policy then state.lost else 0;
  cut = state.cut;
}

-- the counts of a sequence with such lines, or of one without
abbrev pub counts_by : Bool → FullPolicy → List Call → Sequence → PacketCounts
counts_by raw policy calls state = if raw then raw_counts policy state else counts_of policy calls state
