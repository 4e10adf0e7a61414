-- What the fields of a ring mean. Older records stand from the write place to where the bytes end, and newer ones from 0 to
-- the write place.
use Rattle.std.specs.Prelude.{◌≡◌, ℕ, ◌%◌, ◌≤◌, List, ◌++◌, length, vec_capacity}
use Rattle.page_geometry.specs.declared.geometry.TheConstants.{RECORD_UNIT}
use Rattle.ring_bytes.specs.declared.ring.TheConstants.{MAX_RING_SIZE}
use Rattle.ring_bytes.specs.declared.ring.Ring.TheInside.{Inside}
use Rattle.ring_bytes.specs.Rows.{IsPast, live_row}
use Rattle.ring_bytes.specs.Value.{Stored, RingValue}

-- the live records: the older ones from the write place on, then the newer ones in front
abbrev pub live_of : List ℕ → ℕ → ℕ → List Stored
live_of bytes next reached = live_row bytes next reached ++ live_row bytes 0 next

-- a ring as its callers see it
abbrev pub ring_view : Inside → RingValue
ring_view ring =
    record { room = ring.size; next = ring.next; live = live_of ring.bytes.items ring.next ring.reached }

-- the fields of a ring hold together
pub record IsRing (ring : Inside) : Type 0 where
  pub small : ring.size ≤ MAX_RING_SIZE
  -- there are bytes up to where the ring was reached, and room for all
  pub reached_in : ring.reached ≤ ring.size
  pub whole : length ring.bytes.items ≡ ring.reached
  pub roomy : ring.size ≤ vec_capacity ring.bytes
  pub next_in : ring.next ≤ ring.reached
  pub size_units : ring.size % RECORD_UNIT ≡ 0
  pub reached_units : ring.reached % RECORD_UNIT ≡ 0
  pub next_units : ring.next % RECORD_UNIT ≡ 0
  -- the older parts and the newer ones, with a place in each before which nothing is live
  pub clear : IsPast ring.bytes.items ring.next ring.clear ring.reached
  pub front : IsPast ring.bytes.items 0 ring.front ring.next
