-- What a reader asks of a buffer, and tells it.
use Rattle.std.specs.Prelude.{◌≡◌, ℕ, zero, suc, Bool, false, not, ◌&&◌, ◌||◌, List, Option, Some, None, is_some}
use Rattle.std.specs.Option.{option_map}
use Rattle.ring_bytes.specs.declared.key.RecordKey.{RecordKey}
use Rattle.trace_model.specs.Buffers.{Buffer, BufferRecord, live_at}
use Rattle.trace_model.specs.Counts.{raised}
use Rattle.trace_model.specs.Reading.{Fragments, reading_of}
use Rattle.trace_model.specs.Reads.{Turn, Delivers, advanced}
use Rattle.trace_model.specs.Sequences.{Sequence, Cursor, sequence_in, changed_at, has_arrived, is_among}
use Rattle.trace_buffer.specs.Records.{chunk_of}

-- the buffer once a reader of the sequence has come to a place
abbrev pub with_advance : Buffer → ℕ → Cursor → Turn → Buffer
with_advance buffer sequence to turn =
    record buffer { sequences = changed_at sequence (advanced to turn) buffer.sequences }

-- the buffer once its reader has delivered so many packets one behind another, with the last of which it has come to a place
abbrev pub with_deliveries : Buffer → ℕ → Cursor → ℕ → Buffer
with_deliveries buffer sequence to zero = buffer
with_deliveries buffer sequence to (suc more) = with_advance (with_deliveries buffer sequence to more) sequence to Delivers

-- the sequence after that, where it was one packet at least
abbrev pub delivered_to : Cursor → ℕ → Sequence → Sequence
delivered_to to count state = record state {
  cursor = to;
  missing = false;
  delivered = raised state.delivered count;
}

-- The chunk has no record, and there was one, or a place that was refused to it: it arrived complete, or a part of it was
-- there when its sequence was closed.
abbrev pub is_lost : Buffer → ℕ → ℕ → Bool
is_lost buffer sequence chunk_id =
    not (is_some (live_at buffer sequence chunk_id))
    && (has_arrived (sequence_in buffer.sequences sequence) chunk_id
    || is_among chunk_id (sequence_in buffer.sequences sequence).final)

-- the id of the first chunk of a sequence, by which the buffer turns ids that come into positions
abbrev pub from_in : Buffer → (sequence : ℕ) → ℕ
from_in buffer sequence = (sequence_in buffer.sequences sequence).from

-- where the record lies
abbrev pub place_in : Option BufferRecord → Option ℕ
place_in = option_map (λ (stored : BufferRecord). stored.at)

-- the header and the payload are those of the record, and the payload reads as its fragments
pub record TellsRecord (key : RecordKey) (payload : List ℕ) (stored : BufferRecord) : Type 0 where
  pub sequence : key.sequence ≡ stored.sequence
  pub chunk_id : key.chunk_id ≡ stored.chunk_id
  pub chunk : chunk_of key payload ≡ stored.chunk
  pub reads : reading_of key.count payload ≡ Fragments stored.chunk.fragments

-- the live record of a chunk, as it is lent
abbrev pub IsImageOf : RecordKey → List ℕ → Option BufferRecord → Type 0
IsImageOf key payload None = ⊥
IsImageOf key payload (Some stored) = TellsRecord key payload stored
