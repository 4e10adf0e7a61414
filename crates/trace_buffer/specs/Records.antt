-- What the records of a ring are to the definitions.
use Rattle.std.specs.Prelude.{ℕ, Bool, not, List, length, map, filter, count_by}
use Rattle.page_geometry.specs.Sizes.{record_size}
use Rattle.ring_bytes.specs.declared.key.RecordKey.{RecordKey}
use Rattle.ring_bytes.specs.Value.{Stored, RingValue, meets_stored}
use Rattle.trace_model.specs.Buffers.{BufferRecord, is_of, is_unread_loss}
use Rattle.trace_model.specs.Images.{Chunk, has_flag_1, has_flag_2}
use Rattle.trace_model.specs.Places.{is_met}
use Rattle.trace_model.specs.Reading.{reading_of, fragments_of}
use Rattle.trace_model.specs.Sequences.{Sequence}

-- the chunk that a record has, by its header and its payload
abbrev pub chunk_of : RecordKey → List ℕ → Chunk
chunk_of key payload = record {
  continues = has_flag_1 key.flags;
  runs_on = has_flag_2 key.flags;
  awaits = key.awaits;
  partial = key.partial;
  fragments = fragments_of (reading_of key.count payload);
}

-- a record of the ring as one of the model
abbrev pub record_of : Stored → BufferRecord
record_of stored = record {
  sequence = stored.key.sequence;
  chunk_id = stored.key.chunk_id;
  at = stored.at;
  size = record_size (length stored.payload);
  chunk = chunk_of stored.key stored.payload;
}

-- the record is of this chunk
abbrev pub is_at_key : ℕ → ℕ → Stored → Bool
is_at_key sequence chunk_id stored = is_of sequence chunk_id (record_of stored)

-- a next record of this size, or its padding, meets the record
abbrev pub meets_record : RingValue → ℕ → BufferRecord → Bool
meets_record ring size r = is_met ring.room ring.next size r.at r.size

-- what the next record of this size meets
abbrev pub met_records : RingValue → ℕ → List BufferRecord
met_records ring size = filter (meets_record ring size) (map record_of ring.live)

-- the ring once all that a next record of this size meets is dropped
abbrev pub displaced : RingValue → ℕ → RingValue
displaced ring size = record ring { live = filter (λ (stored : Stored). not (meets_stored ring size stored)) ring.live }

-- how many of the sequences lose something unread with the record
abbrev pub unread_losses : List Sequence → BufferRecord → ℕ
unread_losses rows r = count_by (λ state. is_unread_loss state r) rows
