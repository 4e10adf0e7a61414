-- What is lost with a record, said by its header alone: where its payload reads, the header counts its fragments.
use Rattle.std.specs.Prelude.{◌≡◌, ℕ, ◌-◌, suc, Bool, true, not, ◌&&◌, nat_lt, nat_le, ◌==◌, List, [], ◌∷◌, map, if◌then◌else◌}
use Rattle.ring_bytes.specs.declared.key.RecordKey.{RecordKey}
use Rattle.ring_bytes.specs.Value.{Stored}
use Rattle.trace_model.specs.Buffers.{with_losses}
use Rattle.trace_model.specs.Counts.{raised, one_if}
use Rattle.trace_model.specs.Images.{has_flag_1}
use Rattle.trace_model.specs.Reading.{reading_of, is_readable}
use Rattle.trace_model.specs.Sequences.{Sequence, Cursor, unread_of}
use Rattle.trace_buffer.specs.Records.{record_of, unread_losses}

-- of so many unread fragments, those with which a packet begins
abbrev pub starts_in : RecordKey → ℕ → ℕ
starts_in key unread = unread - one_if (has_flag_1 key.flags && (unread == key.count))

-- how many unread packets begin in a record with this key
abbrev pub unread_starts : Sequence → RecordKey → ℕ
unread_starts state key = starts_in key (unread_of state key.chunk_id key.count)

-- losing the record loses something: it isn't a part of a chunk that is still to come whole
abbrev pub is_loss : Sequence → RecordKey → Bool
is_loss state key = not (key.partial && not state.closed)

-- how many packets are lost with a record with this key
abbrev pub packets_lost : Sequence → RecordKey → ℕ
packets_lost state key = if is_loss state key then unread_starts state key else 0

-- with a record with this key a fragment is lost that wasn't read
abbrev pub is_unread_loss : Sequence → RecordKey → Bool
is_unread_loss state key = is_loss state key && nat_lt 0 (unread_of state key.chunk_id key.count)

-- the cursor once a chunk with so many fragments has arrived
abbrev pub cursor_behind : ℕ → ℕ → ℕ → ℕ → Cursor
cursor_behind at passed chunk_id count =
    if (at == chunk_id) && nat_le count passed
    then record { chunk_id = suc chunk_id; passed = 0 }
    else record { chunk_id = at; passed = passed }

-- the sequences lose each record that has this header, and so many of them something unread
pub record LosesAt (old new : List Sequence) (key : RecordKey) (count : ℕ) : Type 0 where
  pub rows : (stored : Stored) → stored.key ≡ key → is_readable (reading_of stored.key.count stored.payload) ≡ true
      → new ≡ map (with_losses (record_of stored ∷ [])) old
  pub unread : (stored : Stored) → stored.key ≡ key → is_readable (reading_of stored.key.count stored.payload) ≡ true
      → count ≡ unread_losses old (record_of stored)

-- the sequence of a chunk with this header loses what begins in it
abbrev pub discarded_by : RecordKey → Sequence → Sequence
discarded_by key state = record state { lost = raised state.lost (unread_starts state key) }
