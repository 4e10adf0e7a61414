-- Going over the live records in the order of placement, without dropping any.
use Rattle.std.specs.Prelude.{ℕ, ◌+◌, min, nat_lt, List, [], ◌∷◌, find, Option, Some, None, if◌then◌else◌}
use Rattle.std.specs.Option.{option_map}
use Rattle.ring_bytes.specs.Value.{Stored, RingValue, OnlyAt, is_at, meets_stored}

-- the place of the first record
abbrev pub first_place : List Stored → Option ℕ
first_place [] = None
first_place (stored ∷ records) = Some stored.at

-- the records behind the one at this place
abbrev pub behind : ℕ → List Stored → List Stored
behind place [] = []
behind place (stored ∷ records) = if is_at place stored then records else behind place records

-- the place of the record behind this one, and without one that of the first
abbrev pub next_behind : Option ℕ → List Stored → Option ℕ
next_behind None records = first_place records
next_behind (Some place) records = first_place (behind place records)

-- the place of the first record behind the one at this place that a next one of this size meets
abbrev pub next_met_behind : RingValue → ℕ → ℕ → Option ℕ
next_met_behind ring size place =
    option_map (λ (stored : Stored). stored.at) (find (meets_stored ring size) (behind place ring.live))

-- the place before which the newer records begin that a next one of this size meets: only the padding turns to them
abbrev pub newer_limit_of : ℕ → ℕ → ℕ → ℕ
newer_limit_of next len size = if nat_lt size (next + len) then min next len else 0

-- a live record is at this place, and no other is
pub record IsAlone (ring : RingValue) (place : ℕ) : Type 0 where
  pub stored : Stored
  pub alone : OnlyAt place ring.live stored
