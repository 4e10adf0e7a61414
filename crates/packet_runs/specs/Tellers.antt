-- What is known once some packets were told.
use Rattle.std.specs.Prelude.{◌≡◌, ◌↔◌, ℕ, ◌+◌, ◌≤◌, true, List, ◌++◌, length, if◌then◌else◌, nat_lt}
use Rattle.packet_runs.specs.Borders.{Nowhere, StandsAt, BordersBelow}
use Rattle.packet_runs.specs.Runs.{Said, StandFrom, StandIn, packet_at, run_of}

-- the run that begins at a place, as a pattern
abbrev pub run_at : List (List ℕ) → ℕ → ℕ → List ℕ
run_at emitted place k = packet_at emitted (place + k)

-- the same with a packet behind its first `len`
abbrev pub with_next : List (List ℕ) → ℕ → ℕ → List ℕ → ℕ → List ℕ
with_next emitted place len packet k = if nat_lt k len then packet_at emitted (place + k) else packet

-- Of the packets so far the last run may stand from a place on, and stands first at `place`, with `len` packets; whatever
-- follows stands exactly where the last run and it do.
pub record IsAfter (emitted : List (List ℕ)) (said : List Said) (place len : ℕ) : Type 0 where
  pub from : ℕ
  pub low : from ≤ place
  pub start : len ≡ 0 → from ≡ place
  pub fits : place + len ≤ length emitted
  pub first : Nowhere (StandsAt (length emitted) (packet_at emitted) (run_at emitted place) len) from place
  pub goes_on : (others : List Said) → StandIn emitted (said ++ others) ↔ StandFrom emitted true from (run_of emitted true place len ++ others)

-- the table has the borders of the last run, and room for those of all packets
pub record IsReady (emitted : List (List ℕ)) (place len : ℕ) (borders : List ℕ) : Type 0 where
  pub fits : place + len ≤ length emitted
  pub room : length borders ≡ length emitted + 1
  pub known : BordersBelow (run_at emitted place) borders (len + 1)
