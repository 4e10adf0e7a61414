-- How a read goes on from link to link, and how its steps make up the whole read.
use Rattle.std.specs.Prelude.{⊤, ◌≡◌, ℕ, ◌+◌, ◌-◌, ◌^◌, ◌<◌, ◌≤◌, List, [], ◌∷◌, ◌++◌, length}
use Rattle.byte_io.specs.Bytes.{Intake, after_told, TakesPart, Faulted}
use Rattle.trace_model.specs.Buffers.{Buffer}
use Rattle.trace_model.specs.Reads.{Delivery, delivered_by, with_read, read_end, is_marked}
use Rattle.trace_model.specs.Record.{record_of}
use Rattle.trace_model.specs.Row.{Link, Joined, Chain, Whole, bytes_of}
use Rattle.trace_model.specs.Sequences.{sequence_in}
use Rattle.trace_buffer.specs.Answers.{turn_value}
use Rattle.trace_buffer.specs.Calls.{with_advance}
use Rattle.sequence_reader.specs.declared.ends.Why.{Why}
use Rattle.sequence_reader.specs.declared.progress.Progress.{Progress}
use Rattle.sequence_reader.specs.declared.read.Put.{Put}
use Rattle.sequence_reader.specs.declared.read.Put.TheVariants as put
use Rattle.sequence_reader.specs.declared.read.Turned.{Turned}
use Rattle.sequence_reader.specs.declared.read.Turned.TheVariants.{On, Ended, Failed}
use Rattle.sequence_reader.specs.declared.spot.Bounds.{Bounds}
use Rattle.sequence_reader.specs.Ends.{record_bytes, row_met, why_told}
use Rattle.sequence_reader.specs.Spots.{AreBounds, IsSpot, IsHeld, rows_of, cursor_of}

-- the row begins with a packet of so many bytes, of which nothing is missing
pub record IsWholeAt (links : List Link) (len : ℕ) : Type 0 where
  pub chain : Chain
  pub rest : List Link
  pub links_are : links ≡ Joined chain ∷ rest
  pub fate : chain.fate ≡ Whole
  pub long : length (bytes_of chain.pieces) ≡ len

-- the same, of no more bytes than places of a buffer are apart
pub record IsCountable (links : List Link) : Type 0 where
  pub len : ℕ
  pub whole : IsWholeAt links len
  pub few : len ≤ 2 ^ 59

-- a read has come to its spot
pub record IsAt (buffer : Buffer) (bounds : Bounds) (progress : Progress) : Type 0 where
  pub bounds_are : AreBounds buffer bounds
  pub spot : IsSpot buffer bounds progress.at
  pub held : IsHeld buffer bounds.sequence progress.held
  pub links : row_met buffer bounds.sequence ≡ rows_of buffer bounds.sequence (cursor_of progress.at)
  pub marked : is_marked (sequence_in buffer.sequences bounds.sequence) ≡ progress.marked

-- A read has delivered so many packets: what it still does is all that a read with the rest of its limit does.
pub record IsReadTo (start now : Buffer) (before after : Intake) (sequence count : ℕ) : Type 0 where
  pub state : (more limit : ℕ) → limit ≡ count + more → with_read start sequence limit ≡ with_read now sequence more
  pub told : (more limit : ℕ) → limit ≡ count + more
      → delivered_by start sequence limit ≡ delivered_by start sequence count ++ delivered_by now sequence more
  pub end : (more limit : ℕ) → limit ≡ count + more
      → read_end limit (row_met start sequence) ≡ read_end more (row_met now sequence)
  pub many : length (delivered_by start sequence count) ≡ count
  pub taken : after ≡ after_told before (record_bytes sequence (delivered_by start sequence count))

-- one link was passed
pub record GoesOn (old new : Buffer) (before after : Intake) (bounds : Bounds) (limit : ℕ) (progress next : Progress) : Type 0 where
  pub at : IsAt new bounds next
  pub most : next.delivered ≤ limit
  pub later : progress.delivered ≤ next.delivered
  pub read : IsReadTo old new before after bounds.sequence (next.delivered - progress.delivered)
  pub shorter : length (row_met new bounds.sequence) < length (row_met old bounds.sequence)

-- the read is done, and with the rest of its limit nothing more is
pub record IsDone (old new : Buffer) (before after : Intake) (sequence rest : ℕ) (why : Why) : Type 0 where
  pub same : new ≡ old
  pub untouched : after ≡ before
  pub none : delivered_by old sequence rest ≡ []
  pub read : with_read old sequence rest ≡ old
  pub told : why_told (read_end rest (row_met old sequence)) ≡ why

-- a write failed in the next record
pub record Fails (old new : Buffer) (before after : Intake) (sequence rest : ℕ) : Type 0 where
  pub failed : Delivery
  pub others : List Delivery
  pub same : new ≡ old
  pub due : delivered_by old sequence rest ≡ failed ∷ others
  pub read : with_read old sequence 0 ≡ old
  pub part : TakesPart before after (record_of failed.body sequence failed.marked)

-- what one turn of a read does: it goes on, it is done, or a write failed
abbrev pub Turns : (old new : Buffer) (before after : Intake) → Bounds → ℕ → Progress → Turned → Type 0
Turns old new before after bounds limit progress (On next) = GoesOn old new before after bounds limit progress next
Turns old new before after bounds limit progress (Ended why) =
    IsDone old new before after bounds.sequence (limit - progress.delivered) why
Turns old new before after bounds limit progress Failed =
    Fails old new before after bounds.sequence (limit - progress.delivered)

-- the sink's count of faults rose only where a write failed
abbrev pub CountsTurn : (old new : ℕ) → Turned → Type 0
CountsTurn old new (On next) = new ≡ old
CountsTurn old new (Ended why) = new ≡ old
CountsTurn old new Failed = (old ≤ new) × Faulted old new

-- this holds unless a write failed
abbrev pub UnlessTurnFails : Type 0 → Turned → Type 0
UnlessTurnFails Holds (On next) = Holds
UnlessTurnFails Holds (Ended why) = Holds
UnlessTurnFails Holds Failed = ⊤

-- the same before the buffer is told what was passed

abbrev pub Puts : Buffer → (before after : Intake) → Bounds → ℕ → Progress → Put → Type 0
Puts buffer before after bounds limit progress (put.Passed passed next) =
    GoesOn buffer (with_advance buffer bounds.sequence (cursor_of next.at) (turn_value passed)) before after bounds limit progress next
Puts buffer before after bounds limit progress (put.Ended why) =
    IsDone buffer buffer before after bounds.sequence (limit - progress.delivered) why
Puts buffer before after bounds limit progress put.Failed =
    Fails buffer buffer before after bounds.sequence (limit - progress.delivered)

-- a fault is answered only where the count of faults rose
abbrev pub CountsPut : (old new : ℕ) → Put → Type 0
CountsPut old new (put.Passed passed next) = new ≡ old
CountsPut old new (put.Ended why) = new ≡ old
CountsPut old new put.Failed = (old ≤ new) × Faulted old new

-- this holds unless a write failed
abbrev pub UnlessPutFails : Type 0 → Put → Type 0
UnlessPutFails Holds (put.Passed passed next) = Holds
UnlessPutFails Holds (put.Ended why) = Holds
UnlessPutFails Holds put.Failed = ⊤
