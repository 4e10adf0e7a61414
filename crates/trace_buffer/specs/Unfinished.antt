-- What a buffer counts of the records that a close has to see: the parts of chunks, and those that await a patch.
use Rattle.std.specs.Prelude.{◌≡◌, ℕ, ◌+◌, ◌≤◌, Bool, ◌==◌, ◌&&◌, List, map, count_by, slice_index_or, if◌then◌else◌}
use Rattle.ring_bytes.specs.declared.key.RecordKey.{RecordKey}
use Rattle.ring_bytes.specs.declared.ring.TheConstants.{MAX_RING_SIZE}
use Rattle.ring_bytes.specs.Value.{Stored}
use Rattle.trace_model.specs.Sequences.{Sequence}
use Rattle.trace_buffer.specs.declared.unfinished.Unfinished.TheInside.{Inside}

-- the counts
pub record UnfinishedValue : Type 0 where
  -- how many records are parts of chunks, of all sequences together
  pub parts : ℕ
  -- how many records of each sequence await a patch, in the order of the sequences
  pub awaiting : List ℕ

-- the counts, by the fields
abbrev pub unfinished_view : Inside → UnfinishedValue
unfinished_view counts = record { parts = counts.parts; awaiting = counts.awaiting.items }

-- the record is of the sequence with this number, and awaits a patch
abbrev pub is_awaiting : ℕ → RecordKey → Bool
is_awaiting number key = (key.sequence == number) && key.awaits

-- how many records are parts of chunks
abbrev pub parts_in : List Stored → ℕ
parts_in live = count_by (λ (stored : Stored). stored.key.partial) live

-- how many records of the sequence with this number await a patch
abbrev pub awaiting_in : List Stored → ℕ → ℕ
awaiting_in live number = count_by (λ (stored : Stored). is_awaiting number stored.key) live

-- what the function has for the number of each sequence
abbrev pub counts_by : List Sequence → (ℕ → ℕ) → List ℕ
counts_by rows count = map (λ (state : Sequence). count state.number) rows

-- the counts of these records
abbrev pub unfinished_of : List Sequence → List Stored → UnfinishedValue
unfinished_of rows live = record { parts = parts_in live; awaiting = counts_by rows (awaiting_in live) }

-- no count is above the number of bytes that a ring can have
pub record AreFew (counts : UnfinishedValue) : Type 0 where
  pub parts : counts.parts ≤ MAX_RING_SIZE
  pub awaiting : (place : ℕ) → slice_index_or counts.awaiting place 0 ≤ MAX_RING_SIZE

-- a part is counted as one
abbrev pub one_part : RecordKey → ℕ
one_part key = if key.partial then 1 else 0

-- a record that awaits a patch is counted as one with its sequence
abbrev pub one_awaiting : RecordKey → ℕ → ℕ
one_awaiting key number = if is_awaiting number key then 1 else 0

-- the counts with one record more that has this header
pub record HaveOneMore (rows : List Sequence) (key : RecordKey) (old new : UnfinishedValue) : Type 0 where
  pub parts : new.parts ≡ old.parts + one_part key
  pub awaiting : (count : ℕ → ℕ) → old.awaiting ≡ counts_by rows count
      → new.awaiting ≡ counts_by rows (λ number. count number + one_awaiting key number)

-- the counts with one record less that has this header
pub record HaveOneLess (rows : List Sequence) (key : RecordKey) (old new : UnfinishedValue) : Type 0 where
  pub parts : new.parts + one_part key ≡ old.parts
  pub awaiting : (count : ℕ → ℕ) → old.awaiting ≡ counts_by rows (λ number. count number + one_awaiting key number)
      → new.awaiting ≡ counts_by rows count

-- a record with this header is counted
pub record HaveOne (rows : List Sequence) (key : RecordKey) (counts : UnfinishedValue) : Type 0 where
  pub parts : one_part key ≤ counts.parts
  -- how many others are counted of each number
  pub others : ℕ → ℕ
  pub awaiting : counts.awaiting ≡ counts_by rows (λ number. others number + one_awaiting key number)
