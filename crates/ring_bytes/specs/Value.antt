-- What a ring is to those who use it: the list of its live records, with their places. After the tracing service's buffers
-- document, where a buffer is a ring of records one behind another.
use Rattle.std.specs.Prelude.{◌≡◌, ℕ, ◌+◌, ◌==◌, Bool, true, false, not, List, [], ◌∷◌, ◌++◌, length, map, filter, find, take, drop, Option, if◌then◌else◌}
use Rattle.std.specs.Option.{option_map}
use Rattle.page_geometry.specs.Sizes.{record_size}
use Rattle.trace_model.specs.Places.{is_met, place_after}
use Rattle.ring_bytes.specs.declared.key.RecordKey.{RecordKey}

-- a record and where it lies
pub record Stored : Type 0 where
  pub at : ℕ
  pub key : RecordKey
  pub payload : List ℕ

-- a ring as its callers see it
pub record RingValue : Type 0 where
  -- its size in bytes
  pub room : ℕ
  -- the write place
  pub next : ℕ
  -- the live records, in the order in which they got their places
  pub live : List Stored

-- a ring without records
abbrev pub empty_ring : ℕ → RingValue
empty_ring room = record { room = room; next = 0; live = [] }

-- what a record takes in the ring
abbrev pub size_of : Stored → ℕ
size_of stored = record_size (length stored.payload)

-- Looking

-- a next record of this size, or the padding before it, meets the record
abbrev pub meets_stored : RingValue → ℕ → Stored → Bool
meets_stored ring size stored = is_met ring.room ring.next size stored.at (size_of stored)

-- the place of the first record, in the order of placement, that a next one meets
abbrev pub next_met_of : RingValue → ℕ → Option ℕ
next_met_of ring size = option_map (λ (stored : Stored). stored.at) (find (meets_stored ring size) ring.live)

-- the record lies at this place
abbrev pub is_at : ℕ → Stored → Bool
is_at place stored = stored.at == place

-- the live record at a place
abbrev pub stored_at : RingValue → ℕ → Option Stored
stored_at ring place = find (is_at place) ring.live

-- Changing

abbrev pub without_stored : ℕ → List Stored → List Stored
without_stored place records = filter (λ stored. not (is_at place stored)) records

-- the ring without the record at a place
abbrev pub dropped_at : RingValue → ℕ → RingValue
dropped_at ring place = record ring { live = without_stored place ring.live }

-- the record at a place is changed, and nothing else
abbrev pub change_at : ℕ → (Stored → Stored) → List Stored → List Stored
change_at place change records = map (λ stored. if is_at place stored then change stored else stored) records

-- the ring with the record at a place changed
abbrev pub changed_at : RingValue → ℕ → (Stored → Stored) → RingValue
changed_at ring place change = record ring { live = change_at place change ring.live }

-- the record awaits a patch from now on, or doesn't
abbrev pub with_awaits : Bool → Stored → Stored
with_awaits awaits stored = record stored { key = record stored.key { awaits = awaits } }

-- the record with another key and payload
abbrev pub with_contents : RecordKey → List ℕ → Stored → Stored
with_contents key payload stored = record stored { key = key; payload = payload }

-- the piece stands in the list from a place on, and all else is as it was
abbrev pub put_at : ℕ → List ℕ → List ℕ → List ℕ
put_at at piece bytes = take at bytes ++ (piece ++ drop (at + length piece) bytes)

-- the record with these bytes put into its payload
abbrev pub with_bytes : ℕ → List ℕ → Stored → Stored
with_bytes offset bytes stored = record stored { payload = put_at offset bytes stored.payload }

-- a new record, at its place and behind all others in the order of placement
abbrev pub placed : RingValue → RecordKey → List ℕ → Stored
placed ring key payload =
    record { at = place_after ring.room ring.next (record_size (length payload)); key = key; payload = payload }

-- the ring with one record more, behind all others
abbrev pub written : RingValue → RecordKey → List ℕ → RingValue
written ring key payload = record ring {
  next = place_after ring.room ring.next (record_size (length payload)) + record_size (length payload);
  live = ring.live ++ placed ring key payload ∷ [];
}

-- the same records, and the write place where a record of this size fits behind it
abbrev pub turned : RingValue → ℕ → RingValue
turned ring size = record ring { next = place_after ring.room ring.next size }

-- Each place has one record

abbrev pub NoneAt : ℕ → List Stored → Type 0
NoneAt place [] = Unit {0}
NoneAt place (stored ∷ records) = (is_at place stored ≡ false) × NoneAt place records

-- the record is at this place, and no other is
pub record OnlyAt (place : ℕ) (records : List Stored) (stored : Stored) : Type 0 where
  pub before : List Stored
  pub behind : List Stored
  pub split : records ≡ before ++ stored ∷ behind
  pub here : stored.at ≡ place
  pub none_before : NoneAt place before
  pub none_behind : NoneAt place behind

-- a record that a next one of this size meets is at this place, and no other record is
pub record IsMetAt (ring : RingValue) (size place : ℕ) : Type 0 where
  pub stored : Stored
  pub met : meets_stored ring size stored ≡ true
  pub alone : OnlyAt place ring.live stored
