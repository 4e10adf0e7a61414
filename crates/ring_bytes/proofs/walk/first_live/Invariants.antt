use Rattle.std.proofs.Common.{◌≡◌, ◌-◌, nat_lt}
use Rattle.std.specs.List.{find}
use Rattle.ring_bytes.specs.Rows.{IsRow, live_row}
use Rattle.ring_bytes.specs.Value.{Stored}
use Rattle.ring_bytes.proofs.walk.first_live.Given as goal

abbrev pub invariant-loop-at : goal.invariant-loop-at
invariant-loop-at l = record {
  row : IsRow l.bytes l.at l.end;
  same : find (λ (stored : Stored). nat_lt stored.at l.limit) (live_row l.bytes l.at l.end)
      ≡ find (λ (stored : Stored). nat_lt stored.at l.limit) (live_row l.bytes l.fn.at l.end);
}

abbrev pub decreases-loop-at : goal.decreases-loop-at
decreases-loop-at l = l.limit - l.at
