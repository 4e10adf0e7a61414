-- What a read leaves, and what it answers, by the definitions of a read.
use Rattle.std.specs.Prelude.{◌≡◌, ℕ, List, ◌∷◌, ◌++◌, length, map}
use Rattle.byte_io.specs.Bytes.{Intake, after_told, TakesPart}
use Rattle.trace_model.specs.Buffers.{Buffer}
use Rattle.trace_model.specs.Delivery.{trace_of}
use Rattle.trace_model.specs.History.{record_in}
use Rattle.trace_model.specs.Reads as model
use Rattle.trace_model.specs.Reads.{Delivery, StopPlace, AtLimit, Stopped, delivered_by, with_read, read_end}
use Rattle.trace_model.specs.Record.{record_of}
use Rattle.trace_model.specs.Row as row
use Rattle.trace_model.specs.Row.{Link, row_from_cursor}
use Rattle.trace_model.specs.Sequences.{sequence_in}
use Rattle.sequence_reader.specs.declared.ends.Why.{Why}
use Rattle.sequence_reader.specs.declared.ends.Why.TheVariants.{Missing, Partial, Unpatched, End, Limit}
use Rattle.sequence_reader.specs.declared.ends.ReadEnd.{ReadEnd}

-- the records of these packets, one behind another
abbrev pub record_bytes : ℕ → List Delivery → List ℕ
record_bytes sequence deliveries = trace_of (map (record_in sequence) deliveries)

-- the row that a read of the sequence meets
abbrev pub row_met : Buffer → ℕ → List Link
row_met buffer sequence = row_from_cursor buffer (sequence_in buffer.sequences sequence)

-- a stop place, as the answer names it
abbrev pub why_of : row.Why → ℕ → Why
why_of row.Missing chunk_id = Missing chunk_id
why_of row.Partial chunk_id = Partial chunk_id
why_of row.Unpatched chunk_id = Unpatched chunk_id
why_of row.End chunk_id = End

-- the reason of a stop place
abbrev pub stop_told : StopPlace → Why
stop_told stop = why_of stop.why stop.at.chunk_id

-- the reason why a read ended
abbrev pub why_told : model.ReadEnd → Why
why_told AtLimit = Limit
why_told (Stopped stop) = stop_told stop

-- what a read with a limit answers
abbrev pub end_told : Buffer → ℕ → ℕ → ReadEnd
end_told buffer sequence limit = record {
  delivered = length (delivered_by buffer sequence limit);
  why = why_told (read_end limit (row_met buffer sequence));
}

-- A write failed in the record of one packet: the sink had taken the records before whole, so many, and took a front part of
-- this one; the buffer is as after a read of those alone.
pub record EndsInRecordAt (old new : Buffer) (before after : Intake) (sequence limit count : ℕ) : Type 0 where
  pub delivered : List Delivery
  pub failed : Delivery
  pub others : List Delivery
  pub cut : delivered_by old sequence limit ≡ delivered ++ failed ∷ others
  pub number : length delivered ≡ count
  pub fewer : delivered_by old sequence count ≡ delivered
  pub buffer : new ≡ with_read old sequence count
  pub part : TakesPart (after_told before (record_bytes sequence delivered)) after
      (record_of failed.body sequence failed.marked)

-- a write failed in the record of some packet, behind all records before it
pub record EndsInRecord (old new : Buffer) (before after : Intake) (sequence limit : ℕ) : Type 0 where
  pub count : ℕ
  pub ends : EndsInRecordAt old new before after sequence limit count
