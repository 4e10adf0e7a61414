-- What the delivered records of a sequence say of the packets that its writer emitted. It is a relation between two
-- lists, which knows nothing of chunks and buffers: each record is one emitted packet, whole and byte for byte, the
-- records follow the order of the packets, and a record bears a mark exactly where the packet before it is missing.
use Rattle.std.specs.Prelude.{◌≡◌, ℕ, suc, ◌==◌, ◌≤◌, Bool, true, false, not, ◌||◌, List, [], ◌∷◌, ◌++◌, Some, slice_get}
use Rattle.trace_model.specs.Record.{record_of, mark_where}

-- These bytes are the record of the emitted packet at the place, which isn't before `next`, the place behind the
-- record before. The packet may bear a mark in front, its writer's, and one behind, the service's; it bears at least
-- one exactly where it is the first record of its sequence or the place isn't `next`.
pub record IsTold (emitted : List (List ℕ)) (sequence : ℕ) (first : Bool) (next place : ℕ) (bytes : List ℕ) : Type 0 where
  pub packet : List ℕ
  pub emitted_there : slice_get emitted place ≡ Some packet
  pub not_before : next ≤ place
  pub front : Bool
  pub behind : Bool
  pub exact : bytes ≡ record_of (mark_where front ++ packet) sequence behind
  pub marked : (front || behind) ≡ (first || not (place == next))

-- the records tell of the emitted packets from the place `next` on
abbrev pub TellsFrom : List (List ℕ) → ℕ → Bool → ℕ → List (List ℕ) → Type 0
TellsFrom emitted sequence first next [] = Unit {0}
TellsFrom emitted sequence first next (bytes ∷ others) =
    (place : ℕ) × IsTold emitted sequence first next place bytes × TellsFrom emitted sequence false (suc place) others

-- the records of a sequence tell of the packets that its writer emitted
abbrev pub Tells : List (List ℕ) → ℕ → List (List ℕ) → Type 0
Tells emitted sequence records = TellsFrom emitted sequence true 0 records
