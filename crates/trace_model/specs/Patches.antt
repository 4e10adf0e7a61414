-- What a patch and a close do to a buffer.
use Rattle.std.specs.Prelude.{ℕ, Bool, true, ◌&&◌, not, ◌==◌, List, [], ◌∷◌, map, filter, find, count_by, Option, Some, None, if◌then◌else◌}
use Rattle.trace_model.specs.Counts.{raised}
use Rattle.trace_model.specs.Images.{Chunk, Patch, patched_last, last_holds}
use Rattle.trace_model.specs.Sequences.{Sequence, sequence_in, changed_at, rising}
use Rattle.trace_model.specs.Buffers.{Buffer, BufferRecord, is_of}

-- what became of a patch
pub data PatchAnswer : Type 0 where
  Applied : PatchAnswer
  -- no live complete record of the chunk awaits a patch
  NoChunk : PatchAnswer
  -- the four bytes don't lie inside the last fragment
  BadOffset : PatchAnswer

-- the record is of this chunk and awaits a patch
abbrev pub awaits_at : ℕ → ℕ → BufferRecord → Bool
awaits_at sequence chunk_id stored = is_of sequence chunk_id stored && stored.chunk.awaits

-- what becomes of a patch, by the record that awaits it
abbrev pub answer_to : Patch → Option BufferRecord → PatchAnswer
answer_to patch None = NoChunk
answer_to patch (Some stored) = if last_holds stored.chunk.fragments patch then Applied else BadOffset

-- what becomes of a patch in a buffer
abbrev pub patch_answer : Buffer → ℕ → Patch → PatchAnswer
patch_answer buffer sequence patch = answer_to patch (find (awaits_at sequence patch.chunk_id) buffer.live)

-- the chunk with the patch put into its last fragment; the last patch of a chunk ends its waiting
abbrev pub patched_chunk : Patch → Chunk → Chunk
patched_chunk patch chunk =
    record chunk { awaits = not patch.last; fragments = patched_last patch chunk.fragments }

-- the buffer once the patch was tried
abbrev pub with_patch : Buffer → ℕ → Patch → Buffer
with_patch buffer sequence patch = record buffer {
  live = map
      (λ stored. if awaits_at sequence patch.chunk_id stored && last_holds stored.chunk.fragments patch
      then record stored { chunk = patched_chunk patch stored.chunk }
      else stored)
      buffer.live;
}

-- once all were tried, in their order
abbrev pub with_patches : Buffer → ℕ → List Patch → Buffer
with_patches buffer sequence [] = buffer
with_patches buffer sequence (patch ∷ others) = with_patches (with_patch buffer sequence patch) sequence others

-- Closing

-- the sequence's live partial records are final from then on
abbrev pub closed_sequence : List BufferRecord → Sequence → Sequence
closed_sequence live state = record state {
  closed = true;
  final = rising
      (map
      (λ (stored : BufferRecord). stored.chunk_id)
      (filter (λ stored. (stored.sequence == state.number) && stored.chunk.partial) live));
}

-- the buffer with the sequence closed: its records that await a patch are counted
abbrev pub closed_buffer : Buffer → ℕ → Buffer
closed_buffer buffer sequence = record buffer {
  unpatched =
      raised buffer.unpatched
      (count_by (λ stored. (stored.sequence == sequence) && stored.chunk.awaits) buffer.live);
  sequences = changed_at sequence (closed_sequence buffer.live) buffer.sequences;
}

-- a sequence that is closed already stays as it is
abbrev pub with_close : Buffer → ℕ → Buffer
with_close buffer sequence =
    if (sequence_in buffer.sequences sequence).closed then buffer else closed_buffer buffer sequence
