-- What `Tells` says, by places: the records of a sequence are those of emitted packets at strictly rising places.
use Rattle.std.specs.Prelude.{◌≡◌, ◌↔◌, ℕ, zero, suc, ◌<◌, ◌||◌, Bool, true, List, length, ◌++◌, Option, Some, None, slice_get, ⊤}
use Rattle.trace_model.specs.Record.{record_of, mark_where}
use Rattle.trace_model.specs.Tells.{Tells}

-- the place of the record before the one with this number; before the first one there is none, or the one that is given
abbrev pub place_before : Option ℕ → List ℕ → ℕ → Option ℕ
place_before first places zero = first
place_before first places (suc number) = slice_get places number

-- the record is the first one, or its place isn't the one behind that of the record before
abbrev pub Skips : Option ℕ → ℕ → Type 0
Skips None place = ⊤
Skips (Some before) place = suc before ≡ place → ⊥

-- the bytes are a record of the packet that was emitted at the place, with a mark in front, or behind, or both, exactly
-- where something is missing before it
pub record IsRecordAt (emitted : List (List ℕ)) (sequence : ℕ) (before : Option ℕ) (place : ℕ) (bytes : List ℕ) : Type 0 where
  pub packet : List ℕ
  pub emitted_there : slice_get emitted place ≡ Some packet
  pub front : Bool
  pub behind : Bool
  pub exact : bytes ≡ record_of (mark_where front ++ packet) sequence behind
  pub marked : ((front || behind) ≡ true) ↔ Skips before place

-- the records are those at these places, which rise strictly
pub record AreRecordsAt (emitted : List (List ℕ)) (sequence : ℕ) (first : Option ℕ) (records : List (List ℕ)) (places : List ℕ) : Type 0 where
  pub as_many : length places ≡ length records
  pub rising : (number before place : ℕ) → place_before first places number ≡ Some before
      → slice_get places number ≡ Some place → before < place
  pub each : (number place : ℕ) (bytes : List ℕ) → slice_get places number ≡ Some place
      → slice_get records number ≡ Some bytes → IsRecordAt emitted sequence (place_before first places number) place bytes

-- Records tell of packets exactly where there are rising places of the packets that they are records of.
abbrev pub TellsByPlaces : Type 0
TellsByPlaces = (emitted : List (List ℕ)) (sequence : ℕ) (records : List (List ℕ))
    → Tells emitted sequence records ↔ ((places : List ℕ) × AreRecordsAt emitted sequence None records places)
