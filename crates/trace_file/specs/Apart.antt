-- What a delivered record says, taken apart.
use Rattle.std.specs.Prelude.{◌≡◌, ℕ, ◌||◌, Bool, List, ◌++◌}
use Rattle.trace_model.specs.Record.{dropped_mark, mark_where, record_of}

-- the bytes are the record of this packet in the sequence, with a mark in front of it, or behind, or both, or with none
pub record SaysPacket (bytes : List ℕ) (sequence : ℕ) (packet : List ℕ) (marked : Bool) : Type 0 where
  pub front : Bool
  pub behind : Bool
  pub exact : bytes ≡ record_of (mark_where front ++ packet) sequence behind
  pub marked_is : (front || behind) ≡ marked

-- The packet begins with the mark itself. No packet that a writer emits does: field 42 is the service's own.
abbrev pub BeginsWithMark : List ℕ → Type 0
BeginsWithMark packet = (rest : List ℕ) × (packet ≡ dropped_mark ++ rest)

-- no other packet, of those that don't begin with the mark, nor the same with another mark, has these bytes as its record
abbrev pub SaysOnly : List ℕ → ℕ → List ℕ → Bool → Type 0
SaysOnly bytes sequence packet marked = (other : List ℕ) (front behind : Bool) → ¬ BeginsWithMark other
    → bytes ≡ record_of (mark_where front ++ other) sequence behind → (other ≡ packet) × ((front || behind) ≡ marked)

-- they are no packet's record in the sequence
abbrev pub SaysNone : List ℕ → ℕ → Type 0
SaysNone bytes sequence = (other : List ℕ) (front behind : Bool) → bytes ≡ record_of (mark_where front ++ other) sequence behind → ⊥
