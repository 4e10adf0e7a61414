-- What a buffer knows of one sequence: what has arrived, how far a reader has come, and what was lost.
use Rattle.std.specs.Prelude.{◌≡◌, ℕ, zero, suc, ◌-◌, max, Bool, false, ◌&&◌, nat_lt, ◌==◌, List, [], ◌∷◌, length, map, if◌then◌else◌}
use Rattle.std.specs.List.{list_any}
use Rattle.trace_model.specs.Counts.{one_if}
use Rattle.trace_model.specs.Images.{Chunk}

-- a place in a sequence: a chunk, and how many of its fragments come before
pub record Cursor : Type 0 where
  pub chunk_id : ℕ
  pub passed : ℕ

-- what a buffer knows of one sequence
pub record Sequence : Type 0 where
  -- its sequence id
  pub number : ℕ
  -- the size of each of its records
  pub size : ℕ
  -- the id of its first chunk, by which ids that come are turned into positions
  pub from : ℕ
  -- the positions that arrived complete, rising
  pub arrived : List ℕ
  -- what a reader has passed
  pub cursor : Cursor
  pub closed : Bool
  -- the positions that had a live partial record when it was closed, rising
  pub final : List ℕ
  -- something was passed since the last delivery
  pub missing : Bool
  -- the packets that were delivered; those whose drop mark was passed; those that were overwritten in a ring buffer or
  -- discarded in a discard buffer; those that were passed as cut
  pub delivered : ℕ
  pub dropped : ℕ
  pub lost : ℕ
  pub cut : ℕ

-- where a cursor stands at first
abbrev pub first_place : Cursor
first_place = record { chunk_id = 0; passed = 0 }

-- a sequence of which nothing has arrived
abbrev pub fresh : (number size from : ℕ) → Sequence
fresh number size from = record {
  number = number;
  size = size;
  from = from;
  arrived = [];
  cursor = first_place;
  closed = false;
  final = [];
  missing = false;
  delivered = 0;
  dropped = 0;
  lost = 0;
  cut = 0;
}

-- nothing has arrived of the sequence, whatever the id of its first chunk is
abbrev pub IsFresh : (number size : ℕ) → Sequence → Type 0
IsFresh number size state = state ≡ fresh number size state.from

-- the number is in the list
abbrev pub is_among : ℕ → List ℕ → Bool
is_among n numbers = list_any (λ m. m == n) numbers

-- a number put into a rising list at its place, where the list doesn't have it yet
abbrev pub with_number : ℕ → List ℕ → List ℕ
with_number n [] = n ∷ []
with_number n (m ∷ numbers) =
    if nat_lt n m then n ∷ m ∷ numbers else if n == m then m ∷ numbers else m ∷ with_number n numbers

-- these numbers as a rising list
abbrev pub rising : List ℕ → List ℕ
rising [] = []
rising (n ∷ numbers) = with_number n (rising numbers)

-- the chunk arrived complete
abbrev pub has_arrived : Sequence → ℕ → Bool
has_arrived state chunk_id = is_among chunk_id state.arrived

-- the least number from n on that isn't among these, of so many that are tried
abbrev pub first_absent : ℕ → ℕ → List ℕ → ℕ
first_absent zero n numbers = n
first_absent (suc tries) n numbers = if is_among n numbers then first_absent tries (suc n) numbers else n

-- the least position that hasn't arrived complete
abbrev pub base_of : Sequence → ℕ
base_of state = first_absent (length state.arrived) 0 state.arrived

-- one above the greatest number, or 0
abbrev pub above_all : List ℕ → ℕ
above_all [] = 0
above_all (n ∷ numbers) = max (suc n) (above_all numbers)

-- one above the last position of which a closed sequence ever had anything
abbrev pub end_of : Sequence → ℕ
end_of state = max (above_all state.arrived) (above_all state.final)

-- of so many fragments of a chunk, those that the cursor hasn't passed
abbrev pub unread_of : Sequence → ℕ → ℕ → ℕ
unread_of state chunk_id count =
    if nat_lt chunk_id state.cursor.chunk_id then 0
    else if chunk_id == state.cursor.chunk_id then count - state.cursor.passed
    else count

-- how many packets begin in the fragments of the chunk that the cursor hasn't passed
abbrev pub unread_starts : Sequence → ℕ → Chunk → ℕ
unread_starts state chunk_id chunk =
    unread_of state chunk_id (length chunk.fragments)
    - one_if (chunk.continues && (unread_of state chunk_id (length chunk.fragments) == length chunk.fragments))

-- the sequence with this number among those of a buffer
abbrev pub sequence_in : List Sequence → ℕ → Sequence
sequence_in [] number = fresh number 0 0
sequence_in (state ∷ others) number = if state.number == number then state else sequence_in others number

-- the buffer has the sequence
abbrev pub is_known : List Sequence → ℕ → Bool
is_known sequences number = list_any (λ state. state.number == number) sequences

-- the sequences once this one has changed
abbrev pub changed_at : ℕ → (Sequence → Sequence) → List Sequence → List Sequence
changed_at number change sequences = map (λ state. if state.number == number then change state else state) sequences
